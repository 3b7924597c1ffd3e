-- Lists turned round: for each number the lists that have it.
use Rattle.std.specs.Prelude.{ℕ, ◌≡◌, ◌+◌, ◌<◌, ◌≤◌, ◌==◌, List, [], ◌∷◌, ◌++◌, get_or, length, map, replicate}
use Rattle.std.specs.List.{count_by, range_with_len}

-- how often a list has the number
abbrev pub times : ℕ → List ℕ → ℕ
times k xs = count_by (λ x. x == k) xs

-- the lists that have the number, by ascending numbers from n on, each as often as it has it
abbrev pub holders_from : ℕ → ℕ → List (List ℕ) → List ℕ
holders_from k n [] = []
holders_from k n (xs ∷ more) = replicate (times k xs) n ++ holders_from k (n + 1) more

-- for each number below the count the lists that have it
abbrev pub turned_of : ℕ → List (List ℕ) → List (List ℕ)
turned_of count lists = map (λ k. holders_from k 0 lists) (range_with_len 0 count)

-- each number of each list is below the count
abbrev pub HaveNumbersBelow : ℕ → List (List ℕ) → Type 0
HaveNumbersBelow count lists = (i j : ℕ) → i < length lists → j < length (get_or lists i []) → get_or (get_or lists i []) j 0 < count

-- ---- what turned lists are

-- the numbers do not fall
abbrev pub DoNotFall : List ℕ → Type 0
DoNotFall xs = (i j : ℕ) → i < j → j < length xs → get_or xs i 0 ≤ get_or xs j 0

-- There is a list for each number below the count. It has the number of each list just as often as that list has it, and no other
-- number, in ascending order.
pub record AreTurned (count : ℕ) (lists turned : List (List ℕ)) : Type 0 where
  pub many : length turned ≡ count
  pub times : (k n : ℕ) → k < count → times n (get_or turned k []) ≡ times k (get_or lists n [])
  pub order : (k : ℕ) → k < count → DoNotFall (get_or turned k [])

-- lists turned round are so
abbrev pub TurnedAreTurned : Type 0
TurnedAreTurned = (count : ℕ) (lists : List (List ℕ)) → AreTurned count lists (turned_of count lists)
