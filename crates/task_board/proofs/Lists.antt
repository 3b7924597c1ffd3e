-- Lists of tiles and of tasks.
use Rattle.std.proofs.Common.{◌≡◌, ℕ, zero, suc, ◌+◌, ◌<◌, List, [], ◌∷◌, ◌++◌, length, get_or, take, arith, refl, ap, ◌∙◌, add-one}
use Rattle.std.proofs.Common.{inl, inr}
use Rattle.std.specs.Prelude.{MatchOption, Option, Some, None, slice_get}
use Rattle.std.specs.List.{AllZip}
use Rattle.core_model.specs.Graphs.{In}

-- a pair of items behind two lists
pub zip_snoc : {A B : Type 0} (P : A → B → Type 0) (xs : List A) (ys : List B) (x : A) (y : B) → AllZip P xs ys → P x y → AllZip P (xs ++ x ∷ []) (ys ++ y ∷ [])
zip_snoc P [] [] x y p q = (q, tt)
zip_snoc P [] (b ∷ ys) x y p q = absurd p
zip_snoc P (a ∷ xs) [] x y p q = absurd p
zip_snoc P (a ∷ xs) (b ∷ ys) x y p q = (p.0, zip_snoc P xs ys x y p.1 q)

-- pairs that are so, and otherwise
pub zip_map : {A B : Type 0} (P Q : A → B → Type 0) (xs : List A) (ys : List B) → AllZip P xs ys → ((x : A) (y : B) → In y ys → P x y → Q x y) → AllZip Q xs ys
zip_map P Q [] [] p h = tt
zip_map P Q [] (b ∷ ys) p h = absurd p
zip_map P Q (a ∷ xs) [] p h = absurd p
zip_map P Q (a ∷ xs) (b ∷ ys) p h = (h a b (inl refl) p.0, zip_map P Q xs ys p.1 (λ x y i. h x y (inr i)))

take_suc : {A : Type 0} (xs : List A) (i : ℕ) (d : A) → i < length xs → take (suc i) xs ≡ take i xs ++ get_or xs i d ∷ []
take_suc [] i d lt = absurd (omega arith)
take_suc (y ∷ ys) zero d lt = refl
take_suc (y ∷ ys) (suc i) d lt = ap (λ (l : List _). y ∷ l) (take_suc ys i d (omega arith))

-- one item more of a list
pub take_snoc : {A : Type 0} (xs : List A) (i : ℕ) (d : A) → i < length xs → take (i + 1) xs ≡ take i xs ++ get_or xs i d ∷ []
take_snoc xs i d lt = ap (λ k. take k xs) (add-one i) ∙ take_suc xs i d lt

-- an item of a list that was made longer
pub get_snoc_old : {A : Type 0} (xs : List A) (x d : A) (k : ℕ) → k < length xs → get_or (xs ++ x ∷ []) k d ≡ get_or xs k d
get_snoc_old [] x d k lt = absurd (omega arith)
get_snoc_old (y ∷ ys) x d zero lt = refl
get_snoc_old (y ∷ ys) x d (suc k) lt = get_snoc_old ys x d k (omega arith)

-- its last item
pub get_snoc_last : {A : Type 0} (xs : List A) (x d : A) → get_or (xs ++ x ∷ []) (length xs) d ≡ x
get_snoc_last [] x d = refl
get_snoc_last (y ∷ ys) x d = get_snoc_last ys x d

-- a list of one value, made longer by it
pub get_snoc_same : {A : Type 0} (xs : List A) (d : A) (k : ℕ) → get_or (xs ++ d ∷ []) k d ≡ get_or xs k d
get_snoc_same [] d zero = refl
get_snoc_same [] d (suc k) = refl
get_snoc_same (y ∷ ys) d zero = refl
get_snoc_same (y ∷ ys) d (suc k) = get_snoc_same ys d k

-- an item that is there
pub get_there : {A : Type 0} (xs : List A) (i : ℕ) (d x : A) → slice_get xs i ≡ Some x → get_or xs i d ≡ x
get_there [] i d x e = absurd (cc)
get_there (y ∷ ys) zero d x e = cc
get_there (y ∷ ys) (suc i) d x e = get_there ys i d x e

-- a case of two, and otherwise
pub match_map : {A : Type 0} {P P' : Type 0} {Q Q' : A → Type 0} (o : Option A) → MatchOption o P Q → (P → P') → ((a : A) → Q a → Q' a) → MatchOption o P' Q'
match_map None h f k = f h
match_map (Some a) h f k = k a h
