use Rattle.std.proofs.Common.{◌≡◌, ◌-◌, length, take}
use Rattle.lookup_table.specs.inside.Reading.{row_at}
use Rattle.lookup_table.specs.inside.Steps.{behind_keys}
use Rattle.lookup_table.proofs.row.read_columns.Given as goal

-- the ranges so far, and the row of the rest
abbrev pub invariant-loop-i : goal.invariant-loop-i
invariant-loop-i l = record {
  same : behind_keys (take l.i l.ranges) (row_at (l.fn.keys - l.i) l.fn.kind l.rest) ≡ row_at l.fn.keys l.fn.kind l.fn.line;
  room : length l.ranges ≡ 4;
}
