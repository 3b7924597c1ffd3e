-- The cells of the made maps, which have as many rows as columns. Places are counted from 0, in row-major order.
use Rattle.std.specs.Prelude.{ℕ, ◌+◌, ◌*◌, ◌/◌, ◌%◌, List, [], ◌∷◌, map, slice_index, pos, nat_le, if◌then◌else◌}
use Rattle.std.specs.List.{range_with_len}
use Rattle.cell_values.specs.declared.cell.Cell.{Cell}
use Rattle.cell_values.specs.declared.cell.Cell.TheVariants.{Val}
use Rattle.drain_meaning.specs.declared.next.Next.{Next}
use Rattle.drain_meaning.specs.declared.next.Next.TheVariants as next
use Rattle.drain_meaning.specs.Drains.{next_of}

-- how many rows a made map has, and how many columns
abbrev pub side : ℕ
side = 512

-- how many cells a made map has
unfoldable pub cells_in_all : ℕ
cells_in_all = side * side

-- the directions that are drawn: to the south-west, the south, the south-east and the east
abbrev pub directions : List ℕ
directions = 1 ∷ 2 ∷ 3 ∷ 6 ∷ []

-- the code of a direction, and that of a pit where it leads out of the map
abbrev pub or_pit : Next → ℕ → ℕ
or_pit next.Outside code = 5
or_pit other code = code

-- the cell of the drain map at a place, by its draw
unfoldable pub drain_cell : ℕ → ℕ → Cell
drain_cell place draw =
    let code = slice_index directions (draw % 4) in
    Val (pos (or_pit (next_of side side place (Val (pos code))) code))

-- the cell of the zones at a place: the four quarters of the map, in row-major order
abbrev pub zone_cell : ℕ → Cell
zone_cell place =
    Val (pos (1 + (if nat_le 256 (place / side) then 2 else 0) + (if nat_le 256 (place % side) then 1 else 0)))

-- the cell of the soils, by its draw: less than ten, in hundredths
abbrev pub soil_cell : ℕ → Cell
soil_cell draw = Val (pos (draw / 4 % 1000 * 10000))

-- the cells that draws give, the first of them at this place and each other at the place behind the one before
abbrev pub by_place : (ℕ → ℕ → Cell) → ℕ → List ℕ → List Cell
by_place rule place [] = []
by_place rule place (draw ∷ more) = rule place draw ∷ by_place rule (place + 1) more

-- the drain map of the draws, one for each cell
abbrev pub drain_cells : List ℕ → List Cell
drain_cells draws = by_place drain_cell 0 draws

-- the soils of the same draws
abbrev pub soil_cells : List ℕ → List Cell
soil_cells draws = map soil_cell draws

-- the zones
abbrev pub zone_cells : List Cell
zone_cells = map zone_cell (range_with_len 0 cells_in_all)
