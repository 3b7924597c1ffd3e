-- Lists with one more. Words of private contracts.
use Rattle.std.specs.Prelude.{◌≡◌, ℕ, ◌+◌, ◌-◌, ◌<◌, List, [], ◌∷◌, ◌++◌, length, slice_index_or}

-- the second list is the first with one more behind it, of which both are so
pub record IsOneMore {X : Type 0} (P Q : X → Type 0) (xs ys : List X) : Type 0 where
  pub last : X
  pub is : ys ≡ xs ++ last ∷ []
  pub one : P last
  pub two : Q last

-- the list has a last one, of which this is so
abbrev pub LastIs : {X : Type 0} → (X → Type 0) → List X → Type 0
LastIs {X} P xs = (0 < length xs) × ((d : X) → P (slice_index_or xs (length xs - 1) d))

-- the second list is the first without its last
abbrev pub IsFrontOf : {X : Type 0} → List X → List X → Type 0
IsFrontOf {X} xs ys = (length ys + 1 ≡ length xs) × ((k : ℕ) (d : X) → k < length ys → slice_index_or ys k d ≡ slice_index_or xs k d)
