use Rattle.std.proofs.Common.{◌≡◌, [], ◌∷◌}
use Rattle.turn_cell.specs.Seats.{authors_of, IsSeatOf}
use Rattle.timed_calls.proofs.turns.time_rounds.Given as goal

abbrev pub invariant-loop : goal.invariant-loop
invariant-loop g l = record {
  cell : IsSeatOf l.cell l.seat;
  author : authors_of l.seat ≡ 0 ∷ [];
}
