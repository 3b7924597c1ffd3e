use Rattle.std.proofs.Common.{◌≡◌, take, map}
use Rattle.flow_task.specs.inside.Packed.{packed_number}
use Rattle.flow_task.proofs.packed.PackedCells.pack.Given as goal

-- the numbers of the first cells are there
abbrev pub invariant-loop-cell : goal.invariant-loop-cell
invariant-loop-cell l = l.numbers.items ≡ map packed_number (take l.cell-index l.cells)
