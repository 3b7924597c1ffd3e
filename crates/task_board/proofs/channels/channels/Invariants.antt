use Rattle.std.proofs.Common.{◌≡◌, ℕ, ◌<◌, ◌≤◌, [], length, get_or}
use Rattle.task_board.specs.inside.Channels.{queue_at}
use Rattle.task_board.proofs.channels.channels.Given as goal

abbrev pub invariant-loop-room : goal.invariant-loop-room
invariant-loop-room l = record {
  all : length l.list.items ≡ l.room-index;
  empty : (c : ℕ) → c < l.room-index → (queue_at l.list.items c).messages ≡ [];
  rooms : (c : ℕ) → c < l.room-index → get_or l.rooms c 0 ≤ (queue_at l.list.items c).capacity;
}
