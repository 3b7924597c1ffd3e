use Rattle.std.proofs.Common.{◌≡◌, ◌∷◌, [], ◌++◌, ◌∙◌, ap, subst, Ok, Err, Result, if◌then◌else◌}
use Rattle.std.specs.Prelude.{OnOk}
use Rattle.map_meaning.specs.declared.program.Operand.TheVariants as from
use Rattle.script_types.specs.inside.Nodes.{held_in}
use Rattle.script_types.specs.inside.Scopes.{binding_in}
use Rattle.script_types.specs.inside.Values.{EmitsDrain}
use Rattle.script_types.specs.inside.Written.{AddsDrain, ListsDrain, gives_name, output_with}
use Rattle.script_types.proofs.section.write_drain.Goals as goal

on-ok : {A E : Type 0} (P Q : Type 0) (r : Result A E) → (P → Q) → OnOk r P → OnOk r Q
on-ok P Q (Ok x) f h = f h
on-ok P Q (Err e) f h = tt

pub returns : goal.returns
returns c =
    let at = c.args.at in
    let old = c.args.ops.now in
    let new = c.emit_drain.new.ops in
    let ds = c.args.drains.now in
    let l = c.args.line.now in
    let comes = c.in_ok-from.from in
    let bound = binding_in c.args.scope.now in
    let holder = held_in c.args.holders.now in
    let later = held_in c.note_target.new.holders in
    on-ok (c.write_output.new.outputs ≡ c.args.outputs.now ++ output_with bound at.statement l (from.Drain c.len.result)) (AddsDrain at.section bound c.args.numbers.now holder later old new ds c.push.new.self c.args.outputs.now c.write_output.new.outputs at.statement l) c.write_output.result (λ h. record {
      comes = comes;
      listed = subst (λ n. ListsDrain old new at.statement n l.statement.value comes) c.requires.first c.in_ok-from.ensures.listed;
      drains_in = c.in_ok-push.ensures.ok ∙ ap (λ n. ds ++ record { from = comes; after = n } ∷ []) c.len-2.ensures;
      outputs_in = h ∙ ap (λ n. c.args.outputs.now ++ output_with bound at.statement l (from.Drain n)) c.len.ensures;
      held = λ name. c.in_ok-note_target.ensures name ∙ ap (λ n. if gives_name l name then from.Drain n else holder name) c.len.ensures;
      emits = λ g e f. subst (λ n. EmitsDrain at.section g holder old new at.statement n l.statement.value comes) c.requires.first (c.in_ok-from.ensures.emits g e f);
    }) c.write_output.ensures
