use Rattle.std.proofs.Common.{◌≡◌, [], take}
use Rattle.core_model.specs.Graphs.{Each}
use Rattle.task_board.specs.inside.Channels.{numbers_from, queue_at}
use Rattle.task_board.proofs.channels.waiting_channel.Given as goal

abbrev pub invariant-loop-place : goal.invariant-loop-place
invariant-loop-place l = Each (λ c. (queue_at l.channels c).messages ≡ []) (numbers_from l.first (take l.place-index l.places))
