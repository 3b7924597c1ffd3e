-- What holds of all time series.
use Rattle.std.specs.Prelude.{ℕ, ◌<◌, pos, List, All, AllPairs, Contains}
use Rattle.cell_values.specs.declared.cell.Cell.TheVariants.{Val}
use Rattle.map_meaning.specs.Maps.{WholeMap}
use Rattle.run_session.specs.Samples.{id_columns}

-- the map has a cell with this id
abbrev pub HasId : WholeMap → ℕ → Type 0
HasId ids n = Contains ids (Val (pos n))

-- these numbers are the columns of a time series with these ids: they ascend strictly, each is a positive id, and each positive
-- id is one of them
pub record AreColumnsOf (ids : WholeMap) (columns : List ℕ) : Type 0 where
  pub ascend : AllPairs (λ m n. m < n) columns
  pub only : All (λ n. (0 < n) × HasId ids n) columns
  pub all : (n : ℕ) → 0 < n → HasId ids n → Contains columns n

-- the columns of each time series are those of its ids
abbrev pub ColumnsAreIds : Type 0
ColumnsAreIds = (ids : WholeMap) → AreColumnsOf ids (id_columns ids)
