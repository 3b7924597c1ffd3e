-- Partials: what is kept of some places.
use Rattle.std.specs.Prelude.{◌≡◌, ℕ, ℤ, true, false, List, length}
use Rattle.region_meaning.specs.declared.area.AreaOp.{AreaOp}
use Rattle.area_ops.specs.declared.tally.Tally.{Tally}
use Rattle.region_meaning.specs.Areas.{AreaPlace, numbers_of}
use Rattle.region_meaning.specs.Numbers.{occurrences}
use Rattle.area_ops.specs.inside.Counts.{Member, count_in, counts_numbers}
use Rattle.area_ops.specs.inside.Tallies.{tally_in, number_tally}

-- a partial by its operation, the number of its cells, the tallies of classes, and the counts of numbers of classes
pub record PartialValue : Type 0 where
  pub op : AreaOp
  pub cells : ℕ
  pub tallies : List (ℤ × Tally)
  pub counts : List (Member × ℕ)

-- the partial is that of these places: of so many, with what its operation needs of the numbers of each class
pub record StandsFor (partial : PartialValue) (places : List AreaPlace) : Type 0 where
  pub cells : partial.cells ≡ length places
  pub tallies : counts_numbers partial.op ≡ false → (class : ℤ) →
      tally_in partial.tallies class ≡ number_tally (numbers_of partial.op places class)
  pub counts : counts_numbers partial.op ≡ true → (class number : ℤ) →
      count_in partial.counts (class, number) ≡ occurrences (numbers_of partial.op places class) number
