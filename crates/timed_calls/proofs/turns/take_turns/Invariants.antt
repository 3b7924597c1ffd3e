use Rattle.std.proofs.Common.{◌≡◌, [], ◌∷◌}
use Rattle.turn_cell.specs.Seats.{authors_of, IsSeatOf}
use Rattle.timed_calls.proofs.turns.take_turns.Given as goal

abbrev pub invariant-loop-n : goal.invariant-loop-n
invariant-loop-n g l = record {
  cell : IsSeatOf l.cell l.seat;
  author : authors_of l.seat ≡ 0 ∷ [];
}
