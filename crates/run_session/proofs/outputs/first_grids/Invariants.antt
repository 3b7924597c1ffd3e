use Rattle.std.proofs.Common.{◌≡◌, take}
use Rattle.std.specs.List.{filter}
use Rattle.map_meaning.specs.declared.program.OutputUse.{OutputUse}
use Rattle.map_meaning.specs.Programs.{is_initial_grid}
use Rattle.run_session.proofs.outputs.first_grids.Given as goal

-- those so far
abbrev pub invariant-loop-output : goal.invariant-loop-output
invariant-loop-output l = l.grids ≡ filter (λ (output : OutputUse). is_initial_grid output.kind) (take l.output-index l.outputs)
