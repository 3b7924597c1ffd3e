use Rattle.std.proofs.Common.{◌≡◌, map}
use Rattle.std.specs.List.{range_with_len}
use Rattle.model_maker.specs.Cells.{zone_cell}
use Rattle.model_maker.proofs.cells.zone_cells.Given as goal

-- the zones of the places so far
abbrev pub invariant-loop-place : goal.invariant-loop-place
invariant-loop-place l = l.cells.items ≡ map zone_cell (range_with_len 0 l.place)
