-- What an operation gives over some places: a cell or Over at each.
use Rattle.std.specs.Prelude.{◌≡◌, ℕ, zero, suc, ◌<◌, List, [], ◌∷◌, ◌++◌, length, Option, Some, None, Result, Ok, Err, IsOk, IsErr}
use Rattle.cell_values.specs.declared.cell.Cell.{Cell}
use Rattle.cell_values.specs.declared.cell.Cell.TheVariants.{Mv}
use Rattle.cell_values.specs.declared.cell.Over.{Over}
use Rattle.tile_map.specs.Cuts.{cell_at}
use Rattle.tile_map.specs.declared.part.Part.{Part}

-- a cell, or Over where the result is out of the range of its kind
abbrev pub Outcome : Type 0
Outcome = Result Cell Over

-- the cell of an outcome: a missing value where it is Over
abbrev pub or_missing : Outcome → Cell
or_missing (Ok cell) = cell
or_missing (Err over) = Mv

-- it is the first of so many places whose outcome is Over, or none where no outcome is
abbrev pub TellsFirstOver : (ℕ → Outcome) → ℕ → Option ℕ → Type 0
TellsFirstOver outcome places None = (place : ℕ) → place < places → IsOk (outcome place)
TellsFirstOver outcome places (Some first) =
    (first < places) × IsErr (outcome first) × ((place : ℕ) → place < first → IsOk (outcome place))

-- the part of the outcomes at so many places
pub record IsPart (outcome : ℕ → Outcome) (places : ℕ) (part : Part) : Type 0 where
  pub size : length part.cells ≡ places
  pub cells : (place : ℕ) → place < places → cell_at part.cells place ≡ or_missing (outcome place)
  pub over : TellsFirstOver outcome places part.over

-- the values of a function at so many places, counted from 0
abbrev pub tabulate : {A : Type 0} → (ℕ → A) → ℕ → List A
tabulate f zero = []
tabulate f (suc places) = tabulate f places ++ f places ∷ []

-- a place that was found before, or this one where its outcome is Over
abbrev pub or_over_at : ℕ → Outcome → Option ℕ → Option ℕ
or_over_at place outcome (Some first) = Some first
or_over_at place (Ok cell) None = None
or_over_at place (Err over) None = Some place

-- the first of so many places whose outcome is Over
abbrev pub first_over : (ℕ → Outcome) → ℕ → Option ℕ
first_over outcome zero = None
first_over outcome (suc places) = or_over_at places (outcome places) (first_over outcome places)

-- the part of the outcomes at so many places, as a value
abbrev pub part_of : (ℕ → Outcome) → ℕ → Part
part_of outcome places = record { cells = tabulate (λ place. or_missing (outcome place)) places; over = first_over outcome places }
