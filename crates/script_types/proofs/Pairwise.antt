-- Facts of each element and of each two elements of a list, by recursion.
use Rattle.std.proofs.Common.{List, [], ◌∷◌, ◌++◌, map, arith}
use Rattle.std.specs.Prelude.{⊤, All, AllPairs}
use Rattle.std.proofs.lemmas.List.Elements.{All-cons, All-nil}
use Rattle.std.proofs.lemmas.List.Kept.{AllPairs-cons}

-- P holds of each element
abbrev pub Each : {A : Type 0} → (A → Type 0) → List A → Type 0
Each P [] = ⊤
Each P (x ∷ xs) = P x × Each P xs

-- R holds of each element and each later one
abbrev pub Pairs : {A : Type 0} → (A → A → Type 0) → List A → Type 0
Pairs R [] = ⊤
Pairs R (x ∷ xs) = Each (R x) xs × Pairs R xs

-- as std says it
pub all-each : {A : Type 0} (P : A → Type 0) (xs : List A) → Each P xs → All P xs
all-each P [] h = All-nil P
all-each P (x ∷ xs) h = All-cons P x xs h.0 (all-each P xs h.1)

pub all-pairs : {A : Type 0} (R : A → A → Type 0) (xs : List A) → Pairs R xs → AllPairs R xs
all-pairs R [] h = λ i j d lt within. absurd (omega arith)
all-pairs R (x ∷ xs) h = AllPairs-cons R x xs (all-each (R x) xs h.0) (all-pairs R xs h.1)

-- what follows from a fact of each
pub each-weaken : {A : Type 0} (P Q : A → Type 0) (xs : List A) → ((x : A) → P x → Q x) → Each P xs → Each Q xs
each-weaken P Q [] f h = tt
each-weaken P Q (x ∷ xs) f h = (f x h.0, each-weaken P Q xs f h.1)

pub each-append : {A : Type 0} (P : A → Type 0) (xs ys : List A) → Each P xs → Each P ys → Each P (xs ++ ys)
each-append P [] ys hx hy = hy
each-append P (x ∷ xs) ys hx hy = (hx.0, each-append P xs ys hx.1 hy)

-- of mapped elements, and of the elements
pub each-from_map : {A B : Type 0} (f : A → B) (P : B → Type 0) (xs : List A) → Each P (map f xs) → Each (λ x. P (f x)) xs
each-from_map f P [] h = tt
each-from_map f P (x ∷ xs) h = (h.0, each-from_map f P xs h.1)

pub each-map : {A B : Type 0} (f : A → B) (P : B → Type 0) (xs : List A) → Each (λ x. P (f x)) xs → Each P (map f xs)
each-map f P [] h = tt
each-map f P (x ∷ xs) h = (h.0, each-map f P xs h.1)

pub pairs-from_map : {A B : Type 0} (f : A → B) (R : B → B → Type 0) (xs : List A) → Pairs R (map f xs) → Pairs (λ x y. R (f x) (f y)) xs
pairs-from_map f R [] h = tt
pairs-from_map f R (x ∷ xs) h = (each-from_map f (R (f x)) xs h.0, pairs-from_map f R xs h.1)
