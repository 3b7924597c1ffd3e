use Rattle.std.proofs.Common.{◌≡◌, ◌≤◌, ◌*◌, length}
use Rattle.number_lists.specs.inside.Joined.{EndsAt, lists_of}
use Rattle.flow_task.specs.inside.Begins.{fed_in_tile, over_cells}
use Rattle.flow_task.proofs.begin.fed_lists.Given as goal

-- the lists of the first cells are there
abbrev pub invariant-loop-cell : goal.invariant-loop-cell
invariant-loop-cell l = record {
  ends : EndsAt 0 l.ends.items (length l.cells.items);
  lists : lists_of 0 l.ends.items l.cells.items ≡ over_cells (fed_in_tile l.orient l.drain l.tiling l.tile) l.cell;
  few : length l.cells.items ≤ 9 * l.cell;
}
