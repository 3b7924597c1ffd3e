-- Histories, which only grow, and the entries of some authors in them.
use Rattle.std.specs.Prelude.{◌≡◌, ℕ, ◌⊎◌, ◌==◌, List, [], ◌∷◌, ◌++◌, length, if◌then◌else◌, nat_le, Bool}
use Rattle.std.specs.List.{filter, list_any}

-- the history stays, or has one more entry, which is by this author
abbrev pub Appends : {E : Type 0} → (E → ℕ) → ℕ → List E → List E → Type 0
Appends {E} author a before after = (after ≡ before) ⊎ ((e : E) × (author e ≡ a) × (after ≡ before ++ e ∷ []))

-- whether the number is one of these authors
abbrev pub is_author : ℕ → List ℕ → Bool
is_author a authors = list_any (λ b. a == b) authors

-- the entries of a history that are by one of these authors
abbrev pub entries_by : {E : Type 0} → (E → ℕ) → List ℕ → List E → List E
entries_by author authors history = filter (λ e. is_author (author e) authors) history

-- the longer of two histories of which one begins the other
abbrev pub longer : {E : Type 0} → List E → List E → List E
longer xs ys = if nat_le (length xs) (length ys) then ys else xs
