-- The cells of an operand at a tile's places.
use Rattle.std.specs.Prelude.{◌≡◌, ◌<◌, ◌+◌, ℕ, List, length, true, false, ⊤}
use Rattle.cell_values.specs.declared.cell.Cell.{Cell}
use Rattle.cell_values.specs.declared.cell.Cell.TheVariants.{Mv}
use Rattle.tile_map.specs.Cuts.{cell_at}
use Rattle.tile_map.specs.Rects.{cell_count, place_in}
use Rattle.tile_map.specs.Tiles.{rect_of}
use Rattle.tile_map.specs.declared.tiling.Tiling.{Tiling}
use Rattle.map_meaning.specs.declared.known.Known.{Known}
use Rattle.map_meaning.specs.declared.known.Span.{Span}
use Rattle.map_meaning.specs.declared.program.Operand.{Operand}
use Rattle.map_meaning.specs.declared.program.Program.{Program}
use Rattle.map_meaning.specs.Evaluation.{Done, operand_cell}
use Rattle.map_meaning.specs.Spans.{scene_of}
use Rattle.span_operands.specs.Made.{AgreesWith, is_made}
use Rattle.tile_tasks.specs.declared.own.Own.{Own}
use Rattle.tile_tasks.specs.declared.own.Own.TheVariants.{Unused, One, Cut, Handed}
use Rattle.task_tiles.specs.declared.tile.Tile.{Tile}
use Rattle.tile_tasks.specs.declared.own.Operands.{Operands}
use Rattle.tile_tasks.specs.inside.Tasks.{many_for}
use Rattle.tile_tasks.specs.inside.Tiles.{IsMapTile, part_cells, tile_handed}
use Rattle.map_meaning.specs.declared.program.Operation.{Operation}

-- the cell with a number; those of an operand that is handed in are the tile's
abbrev pub own_cell : Own → Tile → ℕ → Cell
own_cell Unused t = λ i. Mv
own_cell (One cell) t = λ i. cell
own_cell (Cut cells) t = cell_at cells
own_cell Handed t = cell_at (part_cells t)

-- there are so many cells, where there are not as many as are asked for
abbrev pub OwnSpans : Own → Tile → ℕ → Type 0
OwnSpans Unused t size = ⊤
OwnSpans (One cell) t size = ⊤
OwnSpans (Cut cells) t size = length cells ≡ size
OwnSpans Handed t size = IsMapTile t × (length (part_cells t) ≡ size)

-- no tile has the cells, and they are those of an operand at a rectangle's places
pub record IsOwnCells (program : Program) (s : Span) (known : Known) (g : Tiling) (step tile : ℕ) (operand : Operand) (own : Own)
    (t : Tile) : Type 0 where
  pub alone : own ≡ Handed → ⊥
  pub spans : OwnSpans own t (cell_count (rect_of g tile))
  pub cells : (done : Done) → AgreesWith program s known step done → (i : ℕ) → i < cell_count (rect_of g tile) →
      own_cell own t i ≡ operand_cell (scene_of program.inputs known step) done operand (place_in g.cols (rect_of g tile) i)

-- the cells of an operand are those of a tile that is handed in where the span makes its map, and else its own
pub record IsOwnOf (program : Program) (s : Span) (known : Known) (g : Tiling) (step tile : ℕ) (operand : Operand)
    (own : Own) : Type 0 where
  pub handed : is_made s step operand ≡ true → own ≡ Handed
  pub alone : is_made s step operand ≡ false → (t : Tile) → IsOwnCells program s known g step tile operand own t

-- the cells of an operand are there, so many; the tile that has them, where one does, stands at an index of the list
pub record IsShownFor (own : Own) (ts : List Tile) (index size : ℕ) : Type 0 where
  pub below : own ≡ Handed → index < length ts
  pub spans : OwnSpans own (tile_handed ts index) size

-- the cells of the operands of an operation
pub record AreOwnOf (program : Program) (s : Span) (known : Known) (g : Tiling) (step tile : ℕ) (o : Operation)
    (xs : Operands) : Type 0 where
  pub a : IsOwnOf program s known g step tile o.a xs.a
  pub b : IsOwnOf program s known g step tile o.b xs.b
  pub c : IsOwnOf program s known g step tile o.c xs.c
  pub d : IsOwnOf program s known g step tile o.d xs.d

-- the cells of all operands are there, so many; those that are handed in stand in the list in order
pub record AreShown (s : Span) (step : ℕ) (o : Operation) (xs : Operands) (ts : List Tile) (size : ℕ) : Type 0 where
  pub a : IsShownFor xs.a ts 0 size
  pub b : IsShownFor xs.b ts (many_for s step 1 o.a) size
  pub c : IsShownFor xs.c ts (many_for s step 1 o.a + many_for s step 1 o.b) size
  pub d : IsShownFor xs.d ts (many_for s step 1 o.a + many_for s step 1 o.b + many_for s step 1 o.c) size

-- the cells of the first operand
abbrev pub cells_a : Operands → List Tile → ℕ → Cell
cells_a xs ts = own_cell xs.a (tile_handed ts 0)

-- the cells of the second operand
abbrev pub cells_b : Span → ℕ → Operation → Operands → List Tile → ℕ → Cell
cells_b s step o xs ts = own_cell xs.b (tile_handed ts (many_for s step 1 o.a))

-- the cells of the third operand
abbrev pub cells_c : Span → ℕ → Operation → Operands → List Tile → ℕ → Cell
cells_c s step o xs ts = own_cell xs.c (tile_handed ts (many_for s step 1 o.a + many_for s step 1 o.b))

-- the cells of the fourth operand
abbrev pub cells_d : Span → ℕ → Operation → Operands → List Tile → ℕ → Cell
cells_d s step o xs ts = own_cell xs.d (tile_handed ts (many_for s step 1 o.a + many_for s step 1 o.b + many_for s step 1 o.c))
