use Rattle.std.proofs.Common.{◌≡◌, ◌+◌, ◌∷◌, ◌++◌, [], map, filter, drop, sym, ◌∙◌, ap, subst, if◌then◌else◌, arith}
use Rattle.std.specs.Option.{unwrap_or}
use Rattle.std.proofs.lemmas.List.{drop_more}
use Rattle.map_meaning.specs.Programs.{SuitsRole}
use Rattle.script_types.specs.declared.typed.UsedAs.TheVariants.{Grid}
use Rattle.script_types.specs.Lowered.{input_as_used, used_kind, input_role}
use Rattle.script_types.specs.inside.Answers.{is_input_in}
use Rattle.script_types.specs.inside.Look.{look}
use Rattle.script_types.specs.inside.Programs.{AllSuit, input_by}
use Rattle.script_types.proofs.ProgramLemmas.{inputs-next, suits-first, suits-next}
use Rattle.script_types.proofs.program.write_inputs.Goals as goal

pub write_input-requires : goal.write_input-requires
write_input-requires c = λ used.
    let bindings = c.args.bindings.now in
    let at = c.loop-binding.binding-index in
    let b = c.binding-item.result in
    let roles = c.args.roles.now in
    let p = is_input_in c.args.targets.now roles in
    let left = drop_more bindings at b (omega arith) ∙ ap (λ a. a ∷ drop (at + 1) bindings) (sym c.binding-item.is) in
    let same : c.unwrap_or-role.result ≡ unwrap_or (look roles.values b.name) Grid = c.unwrap_or-role.ensures ∙ ap (λ o. unwrap_or o Grid) (c.get.ensures ∙ ap (look roles.values) c.bytes.ensures) in
    subst (λ r. SuitsRole (used_kind r b.kind) (input_role r)) (sym same) (suits-first (input_by roles) p b (drop (at + 1) bindings) (subst (λ bs. AllSuit (map (input_by roles) (filter p bs))) left c.loop-binding.invariant.suit) (sym c.is_input-used.ensures ∙ used))

pub loop-binding-preserved : goal.loop-binding-preserved
loop-binding-preserved c =
    let bindings = c.args.bindings.now in
    let at = c.loop-binding.binding-index in
    let b = c.binding-item.result in
    let rest = drop (at + 1) bindings in
    let roles = c.args.roles.now in
    let p = is_input_in c.args.targets.now roles in
    let inv = c.loop-binding.invariant in
    let left = drop_more bindings at b (omega arith) ∙ ap (λ a. a ∷ rest) (sym c.binding-item.is) in
    let same : c.unwrap_or-role.result ≡ unwrap_or (look roles.values b.name) Grid = c.unwrap_or-role.ensures ∙ ap (λ o. unwrap_or o Grid) (c.get.ensures ∙ ap (look roles.values) c.bytes.ensures) in
    record {
      suit = suits-next (input_by roles) p b rest (subst (λ bs. AllSuit (map (input_by roles) (filter p bs))) left inv.suit);
      written = inputs-next (input_by roles) p c.is_input-used.result b rest c.loop-binding.inputs c.write_input.new.inputs c.is_input-used.ensures (c.in_ok-write_input.ensures ∙ ap (λ r. c.loop-binding.inputs ++ (if c.is_input-used.result then input_as_used r b ∷ [] else [])) same) ∙ ap (λ bs. c.loop-binding.inputs ++ map (input_by roles) (filter p bs)) (sym left) ∙ inv.written;
    }
