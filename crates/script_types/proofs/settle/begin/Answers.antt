use Rattle.std.proofs.Common.{Ok, ◌∙◌, ap, subst, arith}
use Rattle.std.specs.Option.{is_some}
use Rattle.script_types.specs.Names.{binding_at, inputs_before}
use Rattle.script_types.specs.inside.Answers.{GivesPlaces}
use Rattle.script_types.specs.inside.Look.{look}
use Rattle.script_types.proofs.Steps.{begins-memory, same-inputs}
use Rattle.script_types.proofs.settle.begin.Goals as goal

pub returns-clause-begins : goal.returns-clause-begins
returns-clause-begins c =
    let script = c.args.script.now in
    let bs = script.bindings in
    let none = c.requires.unsettled in
    let h = subst (λ xs. GivesPlaces (Ok c.in-Ok.places) xs) c.as_slice-bindings.ensures c.in-Ok.ensures in (
      h.0,
      record {
        steps = none.steps;
        mean = none.mean;
        bindings = none.bindings;
        places = h.1;
        targets = c.in_ok-targets.ensures;
        samples = c.in_ok-samples.ensures;
        roles = c.in_ok-roles.ensures;
        inputs = λ name. c.in_ok-inputs.ensures name ∙ same-inputs script c.as_slice-bindings.result.now (λ n. is_some (look c.in_ok-targets.targets.values n)) (λ n. is_some (look c.in_ok-roles.roles.values n)) c.inputs_before-first.result name c.as_slice-bindings.ensures c.in_ok-targets.ensures (λ n. ap is_some (c.in_ok-roles.ensures n)) (c.inputs_before-first.ensures.value ∙ ap inputs_before (c.bound_in.ensures ∙ ap (λ n. binding_at bs (look c.in-Ok.places.values n)) c.bytes.ensures ∙ ap (binding_at bs) (h.1 script.area)));
        above = none.above;
        seen = c.in_ok-seen.ensures;
        stacks_read = none.read;
        few_read = (let e = none.read in omega (arith, e));
        stacks_written = none.written;
        few_written = (let e = none.written in omega (arith, e));
      },
    )

pub returns-in_err-targets-clause-begins : goal.returns-in_err-targets-clause-begins
returns-in_err-targets-clause-begins c = let h = c.from_residual.ensures in begins-memory c.from_residual.result _ c.args.script.now h.0 h.1

pub returns-in_err-samples-clause-begins : goal.returns-in_err-samples-clause-begins
returns-in_err-samples-clause-begins c = let h = c.from_residual-in_err-samples.ensures in begins-memory c.from_residual-in_err-samples.result _ c.args.script.now h.0 h.1

pub returns-in_err-roles-clause-begins : goal.returns-in_err-roles-clause-begins
returns-in_err-roles-clause-begins c = let h = c.from_residual-in_err-roles.ensures in begins-memory c.from_residual-in_err-roles.result _ c.args.script.now h.0 h.1

pub returns-in_err-seen-clause-begins : goal.returns-in_err-seen-clause-begins
returns-in_err-seen-clause-begins c = let h = c.from_residual-in_err-seen.ensures in begins-memory c.from_residual-in_err-seen.result _ c.args.script.now h.0 h.1

pub returns-in_err-inputs-clause-begins : goal.returns-in_err-inputs-clause-begins
returns-in_err-inputs-clause-begins c = let h = c.from_residual-in_err-inputs.ensures in begins-memory c.from_residual-in_err-inputs.result _ c.args.script.now h.0 h.1
