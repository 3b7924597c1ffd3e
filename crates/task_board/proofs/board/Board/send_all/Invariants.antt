use Rattle.std.proofs.Common.{◌-◌, length}
use Rattle.task_board.specs.Holders.{GoesOn}
use Rattle.task_board.specs.inside.Held.{steps_at_most}
use Rattle.task_board.proofs.board.Board.send_all.Given as goal

abbrev pub invariant-loop : goal.invariant-loop
invariant-loop g l = GoesOn g.K.FlowKit.work_of l.initial.self l.self l.initial.ticket l.ticket

abbrev pub decreases-loop : goal.decreases-loop
decreases-loop g l = steps_at_most l.self.plan l.self.workers - length l.self.history
