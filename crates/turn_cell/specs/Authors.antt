-- Authors: the numbers below that of the seats, each with one seat.
use Rattle.std.specs.Prelude.{ℕ, zero, suc, ◌+◌, ◌≤◌, ◌==◌, not, min, max, List, [], ◌∷◌, ◌++◌, if◌then◌else◌}
use Rattle.std.specs.List.{filter}

-- all authors of a cell with so many seats
abbrev pub authors_below : ℕ → List ℕ
authors_below zero = []
authors_below (suc n) = authors_below n ++ n ∷ []

-- the author of the seat that acts first: the least of its authors
abbrev pub least_author : List ℕ → ℕ
least_author [] = 0
least_author (a ∷ []) = a
least_author (a ∷ (b ∷ authors)) = min a (least_author (b ∷ authors))

-- the author that a split gives away
abbrev pub greatest_author : List ℕ → ℕ
greatest_author [] = 0
greatest_author (a ∷ authors) = max a (greatest_author authors)

-- the other authors
abbrev pub without_author : ℕ → List ℕ → List ℕ
without_author a authors = filter (λ b. not (a == b)) authors

-- how often a number stands among authors
abbrev pub times_among : ℕ → List ℕ → ℕ
times_among a [] = 0
times_among a (b ∷ authors) = (if a == b then 1 else 0) + times_among a authors

-- no author stands there twice
abbrev pub AreDistinct : List ℕ → Type 0
AreDistinct authors = (a : ℕ) → times_among a authors ≤ 1
