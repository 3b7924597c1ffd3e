use Rattle.std.proofs.Common.{◌-◌, length}
use Rattle.task_board.specs.inside.Held.{steps_at_most}
use Rattle.task_board.proofs.DriveLemmas.{Driven}
use Rattle.task_board.proofs.board.Board.drive_alone.Given as goal

abbrev pub invariant-tasks : goal.invariant-tasks
invariant-tasks g l = Driven l.initial.self l.self

abbrev pub decreases-tasks : goal.decreases-tasks
decreases-tasks g l = steps_at_most l.self.plan l.self.workers - length l.self.history
