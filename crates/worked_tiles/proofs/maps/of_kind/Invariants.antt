use Rattle.std.proofs.Common.{ℕ}
use Rattle.cell_values.specs.Kinds.{IsCell}
use Rattle.tile_map.specs.Cuts.{cell_at}
use Rattle.worked_tiles.proofs.maps.of_kind.Given as goal

-- the cells so far
abbrev pub invariant-loop-cell : goal.invariant-loop-cell
invariant-loop-cell l = (place : ℕ) → IsCell l.kind (cell_at l.cells.items place)
