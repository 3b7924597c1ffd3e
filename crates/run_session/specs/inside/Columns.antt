-- The columns of a time series with their first places.
use Rattle.std.specs.Prelude.{ℕ, ◌+◌, ℤ, pos, List, [], ◌∷◌, int_lt, if◌then◌else◌}
use Rattle.std.specs.BTreeMap.{insert_entry}
use Rattle.std.specs.Ordering.{int_cmp}
use Rattle.cell_values.specs.declared.cell.Cell.{Cell}
use Rattle.cell_values.specs.declared.cell.Cell.TheVariants.{Mv, Val}

-- the positive ids of some cells, of which the first has this place, in ascending order, each with its first place
abbrev pub first_places : ℕ → List Cell → List (ℤ × ℕ)
first_places place [] = []
first_places place (Mv ∷ cells) = first_places (place + 1) cells
first_places place (Val id ∷ cells) =
    if int_lt (pos 0) id then insert_entry int_cmp (first_places (place + 1) cells) id place else first_places (place + 1) cells
