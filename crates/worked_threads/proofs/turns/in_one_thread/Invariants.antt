use Rattle.std.proofs.Common.{◌≡◌, [], ◌∷◌}
use Rattle.turn_cell.specs.Seats.{authors_of, IsSeatOf}
use Rattle.worked_threads.proofs.turns.in_one_thread.Given as goal

abbrev pub invariant-loop-number : goal.invariant-loop-number
invariant-loop-number g l = record {
  root : IsSeatOf l.cell l.root;
  other : IsSeatOf l.cell l.other;
  root_author : authors_of l.root ≡ 0 ∷ [];
  other_author : authors_of l.other ≡ 1 ∷ [];
}
