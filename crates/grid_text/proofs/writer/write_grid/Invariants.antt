use Rattle.std.proofs.Common.{◌≡◌, ◌-◌, ◌*◌, ◌++◌, length}
use Rattle.grid_text.specs.Written.{row_lines}
use Rattle.grid_text.proofs.writer.write_grid.Given as goal

-- what stands there and the lines of the rows that are left make the whole
abbrev pub invariant-loop : goal.invariant-loop
invariant-loop l = record {
  whole : l.out.items ++ row_lines l.kind (l.rows - l.counter) l.cols l.rest ≡ l.initial.out.items ++ row_lines l.kind l.rows l.cols l.cells;
  left : length l.rest ≡ (l.rows - l.counter) * l.cols;
}
