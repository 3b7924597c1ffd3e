-- Lists of numbers.
use Rattle.std.specs.Prelude.{ℕ, ◌+◌, List, [], ◌∷◌, length}

-- how many numbers the lists have together
abbrev pub numbers_in : List (List ℕ) → ℕ
numbers_in [] = 0
numbers_in (xs ∷ more) = length xs + numbers_in more
