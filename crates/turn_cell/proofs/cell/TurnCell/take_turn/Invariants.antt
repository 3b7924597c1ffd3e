use Rattle.std.proofs.Common.{◌≡◌}
use Rattle.turn_cell.proofs.cell.TurnCell.take_turn.Given as goal

abbrev pub invariant-loop : goal.invariant-loop
invariant-loop g l = record {
  cell : l.seat.table_id ≡ l.initial.seat.table_id;
  same : l.seat.me ≡ l.initial.seat.me;
}
