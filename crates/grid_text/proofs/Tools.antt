-- Lists with something in them, and lists of which the image has one element.
use Rattle.std.proofs.Common.{◌≡◌, ◌≤◌, true, false, List, [], ◌∷◌, ◌++◌, length, map, refl, arith}
use Rattle.text_base.proofs.Callers.{head_is}
use Rattle.grid_text.specs.inside.Reading.{is_filled}

pub not_filled : {A : Type 0} (xs : List A) → is_filled xs ≡ false → xs ≡ []
not_filled [] e = refl
not_filled (x ∷ xs) e = absurd (cc)

pub filled_or_not : {A : Type 0} (xs : List A) → is_filled xs ≡ true → xs ≡ [] → ⊥
filled_or_not [] e h = absurd (cc)
filled_or_not (x ∷ xs) e h = absurd (cc)

pub filled : {A : Type 0} (xs : List A) → (xs ≡ [] → ⊥) → is_filled xs ≡ true
filled [] h = absurd (h refl)
filled (x ∷ xs) h = refl

-- a list of which the image has one element has one itself
pub record One {A B : Type 0} (f : A → B) (xs : List A) (b : B) : Type 0 where
  pub element : A
  pub alone : xs ≡ element ∷ []
  pub image : f element ≡ b

pub one_of : {A B : Type 0} (f : A → B) (xs : List A) (b : B) → map f xs ≡ b ∷ [] → One f xs b
one_of f [] b e = absurd (cc)
one_of f (x ∷ []) b e = record { element = x; alone = refl; image = head_is _ _ _ _ e }
one_of f (x ∷ y ∷ ys) b e = absurd (cc)

pub one_long : {A B : Type 0} (f : A → B) (xs : List A) (b : B) → map f xs ≡ b ∷ [] → length xs ≤ 1
one_long f [] b e = omega arith
one_long f (x ∷ []) b e = omega arith
one_long f (x ∷ y ∷ ys) b e = absurd (cc)

-- where a part in the middle is there, and the whole has one element at most, nothing stands before
pub nothing_before : {A : Type 0} (xs ys : List A) (y : A) → length (xs ++ y ∷ ys) ≤ 1 → xs ≡ []
nothing_before [] ys y h = refl
nothing_before (x ∷ []) ys y h = absurd (omega arith)
nothing_before (x ∷ w ∷ ws) ys y h = absurd (omega arith)
