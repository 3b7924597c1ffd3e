use Rattle.std.proofs.Common.{take}
use Rattle.task_board.specs.inside.Held.{AreRead}
use Rattle.task_board.proofs.unread.give_up.Given as goal

abbrev pub invariant-loop-need : goal.invariant-loop-need
invariant-loop-need l = AreRead l.initial.tiles l.tiles l.initial.unread l.unread l.kept (take l.need-index l.needs)
