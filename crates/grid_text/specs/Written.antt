-- The one text of a grid.
use Rattle.std.specs.Prelude.{◌≡◌, ℕ, zero, suc, ◌+◌, ◌*◌, ◌<◌, true, List}
use Rattle.std.specs.Prelude.{[], ◌∷◌, ◌++◌, length, take, drop, slice_get, codes, decimal, if◌then◌else◌}
use Rattle.std.specs.List.{All}
use Rattle.text_base.specs.Bytes.{line_feed, space}
use Rattle.cell_values.specs.declared.cell.Cell.{Cell}
use Rattle.cell_values.specs.declared.kind.Kind.{Kind}
use Rattle.cell_values.specs.Kinds.{IsCell}
use Rattle.cell_values.specs.inside.Printed.{printed_cell}
use Rattle.grid_text.specs.declared.grid.Grid.{Grid}
use Rattle.grid_text.specs.declared.grid.Head.{Head}
use Rattle.grid_text.specs.Key.{is_coordinate, is_cell_size}
use Rattle.grid_text.specs.Form.{IsSize, IsGrid}

-- a line of a key word and its value
abbrev pub key_line : List ℕ → List ℕ → List ℕ
key_line key value = key ++ space ∷ (value ++ line_feed ∷ [])

-- the lines of a head, which end with the size of a cell
abbrev pub head_lines : ℕ → ℕ → Head → List ℕ
head_lines rows cols head =
    key_line (codes "ncols") (decimal cols)
    ++ (key_line (codes "nrows") (decimal rows)
    ++ (key_line (if head.x_center then codes "xllcenter" else codes "xllcorner") head.x
    ++ (key_line (if head.y_center then codes "yllcenter" else codes "yllcorner") head.y
    ++ key_line (codes "cellsize") head.size)))

-- a space where more cells follow in a row, and else a line feed
abbrev pub behind_cell : List Cell → ℕ
behind_cell [] = line_feed
behind_cell (cell ∷ more) = space

-- the cells of a row, each with what stands behind it
abbrev pub row_line : Kind → List Cell → List ℕ
row_line kind [] = []
row_line kind (cell ∷ more) = printed_cell kind cell ++ behind_cell more ∷ row_line kind more

-- so many rows of cells, a line each
abbrev pub row_lines : Kind → ℕ → ℕ → List Cell → List ℕ
row_lines kind zero cols cells = []
row_lines kind (suc rows) cols cells = row_line kind (take cols cells) ++ row_lines kind rows cols (drop cols cells)

-- the text of a grid
unfoldable pub written_grid : Kind → ℕ → ℕ → Head → List Cell → List ℕ
written_grid kind rows cols head cells =
    head_lines rows cols head ++ (key_line (codes "NODATA_value") (codes "1e31") ++ row_lines kind rows cols cells)

-- the text of the values of a grid
abbrev pub text_of : Kind → Grid → List ℕ
text_of kind grid = written_grid kind grid.rows grid.cols grid.head grid.cells

-- values that a grid of the kind can have
pub record AreGridValues (kind : Kind) (grid : Grid) : Type 0 where
  pub within : IsSize grid.rows grid.cols
  pub x : is_coordinate grid.head.x ≡ true
  pub y : is_coordinate grid.head.y ≡ true
  pub size : is_cell_size grid.head.size ≡ true
  pub count : length grid.cells ≡ grid.rows * grid.cols
  pub cells : All (IsCell kind) grid.cells

-- the text of such values is a grid with exactly these values, and with no others
abbrev pub WrittenGridsReadBack : Type 0
WrittenGridsReadBack = (kind : Kind) (grid : Grid) → AreGridValues kind grid
    → IsGrid kind (text_of kind grid) grid × ((other : Grid) → IsGrid kind (text_of kind grid) other → other ≡ grid)

-- the values of a grid that is read can be written
abbrev pub GridsCanBeWritten : Type 0
GridsCanBeWritten = (kind : Kind) (text : List ℕ) (grid : Grid) → IsGrid kind text grid → AreGridValues kind grid

-- the cells at all places but the last are those
abbrev pub AgreeButTheLast : List Cell → List Cell → Type 0
AgreeButTheLast cells written = (i : ℕ) → i + 1 < length written → slice_get cells i ≡ slice_get written i

-- Where a text of such values that ends early is a grid at all, it is one of their rows, columns and head, and its cells are
-- theirs but for the last one, which may be cut.
abbrev pub CutGridsLoseTheLastCellAlone : Type 0
CutGridsLoseTheLastCellAlone = (kind : Kind) (grid cut : Grid) (text lost : List ℕ) → AreGridValues kind grid
    → text ++ lost ≡ text_of kind grid → IsGrid kind text cut
    → (cut.rows ≡ grid.rows) × (cut.cols ≡ grid.cols) × (cut.head ≡ grid.head) × AgreeButTheLast cut.cells grid.cells
