use Rattle.std.proofs.Common.{◌-◌, length}
use Rattle.task_board.specs.Boards.{NobodyHolds}
use Rattle.task_board.specs.inside.Held.{steps_at_most}
use Rattle.round_runtime.specs.Rounds.{GrowsByWorkers}
use Rattle.round_runtime.proofs.run.run_rounds.Given as goal

abbrev pub invariant-loop-alloc : goal.invariant-loop-alloc
invariant-loop-alloc g l = GrowsByWorkers l.initial.board.workers l.initial.board l.board × NobodyHolds l.board

abbrev pub decreases-loop-alloc : goal.decreases-loop-alloc
decreases-loop-alloc g l = steps_at_most l.board.plan l.board.workers - length l.board.history
