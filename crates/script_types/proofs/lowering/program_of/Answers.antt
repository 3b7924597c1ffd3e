use Rattle.std.proofs.Common.{refl, ◌∙◌, ap, subst, arith, length}
use Rattle.std.specs.Option.{unwrap_or}
use mathlib.Core.Path.{fun_ext}
use Rattle.script_types.specs.Lowered.{inputs_of}
use Rattle.script_types.specs.Names.{binding_of}
use Rattle.script_types.specs.inside.Look.{look}
use Rattle.script_types.specs.inside.Programs.{AreBothWritten}
use Rattle.script_types.proofs.ProgramLemmas.{inputs-few}
use Rattle.script_types.proofs.Steps.{same-binding}
use Rattle.script_types.proofs.lowering.program_of.Goals as goal

pub write_lines-requires-clause-few_inputs : goal.write_lines-requires-clause-few_inputs
write_lines-requires-clause-few_inputs c =
    let e = ap length (c.as_slice.ensures ∙ c.in_ok-inputs.ensures) in
    let few = inputs-few c.args.script.now c.requires.made.entries in
    omega (arith, e, few)

pub returns : goal.returns
returns c =
    let script = c.args.script.now in
    let settled = c.args.settled.now in
    let below = c.requires.settled.below in
    let bound = fun_ext (same-binding script settled.scope settled.lines below) in
    let w = c.in_ok-written.written in
    record {
      written = w;
      both = subst (λ ls. AreBothWritten (binding_of script) (inputs_of script) ls w) c.as_slice-2.ensures
          (subst (λ is. AreBothWritten (binding_of script) is c.as_slice-2.result.now w) (c.as_slice.ensures ∙ c.in_ok-inputs.ensures)
          (subst (λ b. AreBothWritten b c.as_slice.result.now c.as_slice-2.result.now w) bound c.in_ok-written.ensures));
      kept = c.keep.new.written;
      keeps = c.in_ok-keep.ensures;
      inputs = c.in_ok-inputs.ensures;
      initial = refl;
      dynamic = refl;
      drains = refl;
      outputs = refl;
      area = c.unwrap_or-area.ensures ∙ ap (λ o. unwrap_or o 0) (c.get.ensures ∙ ap (look settled.scope.inputs.values) c.bytes.ensures ∙ below.inputs script.area);
      steps = refl;
    }
