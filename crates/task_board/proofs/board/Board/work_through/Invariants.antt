use Rattle.std.proofs.Common.{◌-◌, length}
use Rattle.task_board.specs.Holders.{GoesOn}
use Rattle.task_board.specs.inside.Held.{steps_at_most}
use Rattle.task_board.proofs.board.Board.work_through.Given as goal

abbrev pub invariant-loop-self : goal.invariant-loop-self
invariant-loop-self g l = GoesOn g.K.FlowKit.work_of l.initial.self l.self l.initial.ticket l.ticket

abbrev pub decreases-loop-self : goal.decreases-loop-self
decreases-loop-self g l = steps_at_most l.self.plan l.self.workers - length l.self.history
