-- The cells of a rectangle, cut from a map or gathered from tiles.
use Rattle.std.specs.Prelude.{ℕ, List, map, get_or}
use Rattle.cell_values.specs.declared.cell.Cell.{Cell}
use Rattle.cell_values.specs.declared.cell.Cell.TheVariants.{Mv}
use Rattle.tile_map.specs.Rects.{number_in, places_of}
use Rattle.tile_map.specs.Tiles.{rect_of, tile_at}
use Rattle.tile_map.specs.declared.rect.Rect.{Rect}
use Rattle.tile_map.specs.declared.tiling.Tiling.{Tiling}

-- the cell of a map at a place
abbrev pub cell_at : List Cell → ℕ → Cell
cell_at cells place = get_or cells place Mv

-- the cells of a map of so many columns at the places of a rectangle
abbrev pub cut_of : ℕ → List Cell → Rect → List Cell
cut_of cols cells r = map (cell_at cells) (places_of cols r)

-- the cell at a place, from the tile that it lies in
abbrev pub gathered_cell : Tiling → (ℕ → List Cell) → ℕ → Cell
gathered_cell g tiles place = let tile = tile_at g place in cell_at (tiles tile) (number_in g.cols (rect_of g tile) place)

-- the cells at the places of a rectangle, from the tiles that they lie in
abbrev pub gathered : Tiling → (ℕ → List Cell) → Rect → List Cell
gathered g tiles r = map (gathered_cell g tiles) (places_of g.cols r)
