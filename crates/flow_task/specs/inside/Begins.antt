-- What a transport over a tile begins with. Words of private contracts.
use Rattle.std.specs.Prelude.{ℕ, ◌<◌, ◌==◌, List, length, map, Bool, true, false, slice_index_or}
use Rattle.std.specs.List.{filter, range_with_len}
use Rattle.cell_values.specs.declared.cell.Cell.{Cell}
use Rattle.cell_values.specs.declared.cell.Cell.TheVariants as cell
use Rattle.tile_map.specs.Cuts.{cell_at}
use Rattle.tile_map.specs.Rects.{HoldsPlace, number_in, place_in}
use Rattle.tile_map.specs.Tiles.{rect_of, tile_at}
use Rattle.tile_map.specs.declared.tiling.Tiling.{Tiling}
use Rattle.drain_meaning.specs.declared.op.Orient.{Orient}
use Rattle.drain_meaning.specs.declared.op.Orient.TheVariants.{Down, Up}
use Rattle.drain_meaning.specs.Drains.{DrainMap}
use Rattle.border_channel.specs.declared.edge.Edge.{Edge}
use Rattle.border_channel.specs.Edges.{edge_at, fed_by}
use Rattle.flow_task.specs.declared.link.Link.{Link}

-- a place lies in the tile
abbrev pub lies_in_tile : Tiling → ℕ → ℕ → Bool
lies_in_tile g tile c = tile_at g c == tile

-- the place in the map of a cell by its number in the tile
abbrev pub tile_place_of : Tiling → ℕ → ℕ → ℕ
tile_place_of g tile i = place_in g.cols (rect_of g tile) i

-- the number of a place in the tile
abbrev pub tile_number : Tiling → ℕ → ℕ → ℕ
tile_number g tile c = number_in g.cols (rect_of g tile) c

-- the numbers of those of some places that lie in the tile
abbrev pub tile_numbers : Tiling → ℕ → List ℕ → List ℕ
tile_numbers g tile cells = map (tile_number g tile) (filter (lies_in_tile g tile) cells)

-- the numbers of the cells of the tile that one of its cells feeds
abbrev pub fed_in_tile : Orient → DrainMap → Tiling → ℕ → ℕ → List ℕ
fed_in_tile o m g tile i = tile_numbers g tile (fed_by o m (tile_place_of g tile i))

-- something over the first cells of the tile
abbrev pub over_cells : {A : Type 0} → (ℕ → A) → ℕ → List A
over_cells f many = map f (range_with_len 0 many)

-- the orientation in which what feeds and what is fed change places
abbrev pub turned_round : Orient → Orient
turned_round Down = Up
turned_round Up = Down

-- from how many cells flow comes to a cell of the tile
abbrev pub missing_first : Orient → DrainMap → Tiling → ℕ → ℕ → ℕ
missing_first o m g tile i = length (fed_by (turned_round o) m (tile_place_of g tile i))

-- a cell has a code
abbrev pub is_coded : Cell → Bool
is_coded cell.Mv = false
is_coded (cell.Val n) = true

-- a cell of the tile has one
abbrev pub coded_first : List Cell → Tiling → ℕ → ℕ → Bool
coded_first codes g tile i = is_coded (cell_at codes (tile_place_of g tile i))

-- the cells to which nothing is to come
abbrev pub none_missing : List ℕ → List ℕ
none_missing missing = filter (λ i. slice_index_or missing i 0 == 0) (range_with_len 0 (length missing))

-- the end of an edge that lies in the tile
abbrev pub edge_end : Bool → Edge → ℕ
edge_end true e = e.target
edge_end false e = e.source

-- the link of an edge into the tile, or out of it
abbrev pub tile_link : Tiling → ℕ → List Edge → Bool → ℕ → Link
tile_link g tile edges inward e = record { edge = e; cell = tile_number g tile (edge_end inward (edge_at edges e)) }

-- an edge of the list has this end in the tile
pub record CanLink (g : Tiling) (tile : ℕ) (edges : List Edge) (inward : Bool) (e : ℕ) : Type 0 where
  pub within : e < length edges
  pub holds : HoldsPlace g.cols (rect_of g tile) (edge_end inward (edge_at edges e))
