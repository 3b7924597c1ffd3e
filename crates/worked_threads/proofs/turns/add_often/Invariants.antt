use Rattle.std.proofs.Common.{◌≡◌, [], ◌∷◌}
use Rattle.turn_cell.specs.Seats.{authors_of, IsSeatOf}
use Rattle.worked_threads.proofs.turns.add_often.Given as goal

abbrev pub invariant-loop-number : goal.invariant-loop-number
invariant-loop-number g l = record {
  cell : IsSeatOf l.cell l.seat;
  author : authors_of l.seat ≡ l.by ∷ [];
}
