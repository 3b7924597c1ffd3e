-- All outputs were taken.
use Rattle.std.proofs.Common.{ap, ◌∙◌}
use Rattle.std.specs.List.{filter}
use Rattle.map_meaning.specs.declared.program.OutputUse.{OutputUse}
use Rattle.map_meaning.specs.Programs.{is_stack_grid}
use Rattle.run_session.proofs.Lists.{all_taken}
use Rattle.run_session.proofs.outputs.stack_grids.Goals as goal

pub returns : goal.returns
returns c = c.loop-output.invariant ∙ ap (filter (λ (output : OutputUse). is_stack_grid output.kind)) (all_taken c.args.outputs.now c.loop-output.output-index c.loop-output-test.false)
