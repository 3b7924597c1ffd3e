-- Numbers in ascending order, each once.
use Rattle.std.specs.Prelude.{ℕ, ◌≤◌, List, length}
use Rattle.std.specs.List.{Contains}
use Rattle.std.specs.List.Sorted.{IsStrictlyIncreasing}

-- The list has these numbers and no others, in ascending order, each once.
pub record IsSortedSet (numbers set : List ℕ) : Type 0 where
  pub rises : IsStrictlyIncreasing set
  pub all : (n : ℕ) → Contains numbers n → Contains set n
  pub only : (n : ℕ) → Contains set n → Contains numbers n
  pub few : length set ≤ length numbers
