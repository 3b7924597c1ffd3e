-- The items of some lists, numbered over all of them: those of one list after those of the lists before.
use Rattle.std.specs.Prelude.{ℕ, suc, ◌+◌, ◌-◌, nat_lt, if◌then◌else◌, List, [], ◌∷◌, length, take}

-- how many items the lists have together
abbrev pub count_all : {A : Type 0} → List (List A) → ℕ
count_all [] = 0
count_all (xs ∷ more) = length xs + count_all more

-- how many the lists before the one with this number have
abbrev pub count_before : {A : Type 0} → List (List A) → ℕ → ℕ
count_before lists f = count_all (take f lists)

-- the number of the list that has the item with this number
abbrev pub list_of_number : {A : Type 0} → List (List A) → ℕ → ℕ
list_of_number [] n = 0
list_of_number (xs ∷ more) n = if nat_lt n (length xs) then 0 else suc (list_of_number more (n - length xs))

-- the place of the item with this number in its list
abbrev pub place_of_number : {A : Type 0} → List (List A) → ℕ → ℕ
place_of_number [] n = n
place_of_number (xs ∷ more) n = if nat_lt n (length xs) then n else place_of_number more (n - length xs)
