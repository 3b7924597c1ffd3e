-- The one text of a series.
use Rattle.std.specs.Prelude.{ℕ, ◌+◌, List, [], ◌∷◌, ◌++◌, length, codes, decimal, ℤ}
use Rattle.std.specs.Fmt.{signed_decimal}
use Rattle.cell_values.specs.declared.cell.Cell.{Cell}
use Rattle.cell_values.specs.declared.kind.Kind.{Kind}
use Rattle.cell_values.specs.declared.kind.Kind.TheVariants.{Boolean, Nominal, Ordinal, Scalar, Directional, Ldd}
use Rattle.cell_values.specs.inside.Printed.{printed_cell}
use Rattle.text_base.specs.Bytes.{line_feed, space}
use Rattle.time_series.specs.declared.row.SeriesRow.{SeriesRow}

-- the word of a kind
abbrev pub kind_text : Kind → List ℕ
kind_text Boolean = codes "boolean"
kind_text Nominal = codes "nominal"
kind_text Ordinal = codes "ordinal"
kind_text Scalar = codes "scalar"
kind_text Directional = codes "directional"
kind_text Ldd = codes "ldd"

-- a line for each name of a column
abbrev pub name_lines : List ℤ → List ℕ
name_lines [] = []
name_lines (name ∷ names) = signed_decimal name ++ line_feed ∷ name_lines names

-- cells, each behind a space
abbrev pub spaced_cells : Kind → List Cell → List ℕ
spaced_cells kind [] = []
spaced_cells kind (cell ∷ cells) = space ∷ (printed_cell kind cell ++ spaced_cells kind cells)

-- a line for each row: its step and its cells
abbrev pub step_lines : Kind → List SeriesRow → List ℕ
step_lines kind [] = []
step_lines kind (row ∷ rows) = decimal row.step ++ (spaced_cells kind row.cells ++ line_feed ∷ step_lines kind rows)

-- the lines before the names: the title, the number of columns, and the name of the column of steps
abbrev pub title_lines : Kind → ℕ → List ℕ
title_lines kind count =
    codes "timeseries " ++ (kind_text kind ++ line_feed ∷ (decimal (count + 1) ++ line_feed ∷ (codes "timestep" ++ line_feed ∷ [])))

-- the text of a series of the kind with these names and rows
unfoldable pub written_series : Kind → List ℤ → List SeriesRow → List ℕ
written_series kind names rows = title_lines kind (length names) ++ (name_lines names ++ step_lines kind rows)
