-- Lists in which something is found.
use Rattle.std.proofs.Common.{◌≡◌, ℕ, zero, suc, ◌<◌, Bool, true, false, cond, ◌&&◌, ◌||◌, ◌==◌, eq-eqb, eqb-true, ◌⊎◌, inl, inr, ⊎_elim, List, [], ◌∷◌, map, Option, Some, None}
use Rattle.std.proofs.Common.{refl, ap, sym, ◌∙◌, arith}
use Rattle.std.specs.List.{Contains, filter, find, list_all, list_any, range_with_len}
use Rattle.std.proofs.lemmas.List.FromFn.{get_or-range_with_len, length-range_with_len}
use Rattle.core_model.specs.Graphs.{In}

pub contains_in : {A : Type 0} (xs : List A) (x : A) → Contains xs x → In x xs
contains_in [] x has = absurd (let l = has.1 in omega arith)
contains_in (y ∷ ys) x (zero, lt, is) = inl (sym is)
contains_in (y ∷ ys) x (suc k, lt, is) = inr (contains_in ys x (k, omega arith, is))

pub in_contains : {A : Type 0} (xs : List A) (x : A) → In x xs → Contains xs x
in_contains [] x i = absurd i
in_contains (y ∷ ys) x i = ⊎_elim (λ q. (zero, omega arith, sym q)) (λ j. let r = in_contains ys x j in (suc r.0, (let l = r.1 in omega arith), r.2)) i

-- an item of a list that was mapped is that of one of the list
pub in_mapped : {A : Type 0} (f : A → ℕ) (xs : List A) (e : ℕ) → In e (map f xs) → (x : A) × Contains xs x × (f x ≡ e)
in_mapped f [] e i = absurd i
in_mapped f (x ∷ xs) e i = ⊎_elim (λ q. (x, in_contains (x ∷ xs) x (inl refl), sym q)) (λ j. let r = in_mapped f xs e j in (r.0, in_contains (x ∷ xs) r.0 (inr (contains_in xs r.0 r.1)), r.2)) i

pub mapped_in : {A : Type 0} (f : A → ℕ) (xs : List A) (x : A) → In x xs → In (f x) (map f xs)
mapped_in f [] x i = absurd i
mapped_in f (y ∷ ys) x i = ⊎_elim (λ q. inl (ap f q)) (λ j. inr (mapped_in f ys x j)) i

-- the first that passes a test
find_by : {A : Type 0} (p : A → Bool) (x : A) (rest : Option A) (y : A) (b : Bool) → p x ≡ b → (rest ≡ Some y → p y ≡ true) → cond b (Some x) rest ≡ Some y → p y ≡ true
find_by p x rest y true e more h = let q : x ≡ y = cc in ap p (sym q) ∙ e
find_by p x rest y false e more h = more h

find_in : {A : Type 0} (p : A → Bool) (x : A) (xs : List A) (rest : Option A) (y : A) (b : Bool) → (rest ≡ Some y → In y xs) → cond b (Some x) rest ≡ Some y → In y (x ∷ xs)
find_in p x xs rest y true more h = let q : x ≡ y = cc in inl (sym q)
find_in p x xs rest y false more h = inr (more h)

pub find_passes : (p : ℕ → Bool) (xs : List ℕ) (y : ℕ) → find p xs ≡ Some y → p y ≡ true
find_passes p [] y h = absurd (cc)
find_passes p (x ∷ xs) y h = find_by p x (find p xs) y (p x) refl (find_passes p xs y) h

pub find_there : (p : ℕ → Bool) (xs : List ℕ) (y : ℕ) → find p xs ≡ Some y → In y xs
find_there p [] y h = absurd (cc)
find_there p (x ∷ xs) y h = find_in p x xs (find p xs) y (p x) (find_there p xs y) h

none_first : {A : Type 0} (x : A) (rest : Option A) (b : Bool) → cond b (Some x) rest ≡ None → (b ≡ false) × (rest ≡ None)
none_first x rest true h = absurd (cc)
none_first x rest false h = (refl, h)

pub find_none : (p : ℕ → Bool) (xs : List ℕ) → find p xs ≡ None → (y : ℕ) → In y xs → p y ≡ false
find_none p [] h y i = absurd i
find_none p (x ∷ xs) h y i = let r = none_first x (find p xs) (p x) h in ⊎_elim (λ q. ap p q ∙ r.0) (λ j. find_none p xs r.1 y j) i

-- numbers below n
pub in_below : (n k : ℕ) → In k (range_with_len 0 n) → k < n
in_below n k i =
    let c = in_contains (range_with_len 0 n) k i in
    let l = length-range_with_len 0 n in
    let lt : c.0 < n = (let a = c.1 in omega arith) in
    let e = sym c.2 ∙ get_or-range_with_len 0 n c.0 k lt in omega arith

pub below_in : (n k : ℕ) → k < n → In k (range_with_len 0 n)
below_in n k lt =
    let l = length-range_with_len 0 n in
    contains_in (range_with_len 0 n) k (k, omega arith, (let e = get_or-range_with_len 0 n k k lt in omega arith))

-- all, and some, pass a test
all_first : (b c : Bool) → (b && c) ≡ false → (b ≡ true → c ≡ false) × ((b ≡ false) ⊎ (b ≡ true))
all_first true c h = (λ _. h, inr refl)
all_first false c h = (λ e. absurd (cc), inl refl)

pub not_all : (p : ℕ → Bool) (xs : List ℕ) → list_all p xs ≡ false → (y : ℕ) × In y xs × (p y ≡ false)
not_all p [] h = absurd (cc)
not_all p (x ∷ xs) h =
    let r = all_first (p x) (list_all p xs) h in
    ⊎_elim (λ e. (x, inl refl, e)) (λ e. let k = not_all p xs (r.0 e) in (k.0, inr k.1, k.2)) r.1

all_parts : (b c : Bool) → (b && c) ≡ true → (b ≡ true) × (c ≡ true)
all_parts true c h = (refl, h)
all_parts false c h = absurd (cc)

pub all_pass : (p : ℕ → Bool) (xs : List ℕ) → list_all p xs ≡ true → (y : ℕ) → In y xs → p y ≡ true
all_pass p [] h y i = absurd i
all_pass p (x ∷ xs) h y i = let r = all_parts (p x) (list_all p xs) h in ⊎_elim (λ q. ap p q ∙ r.0) (λ j. all_pass p xs r.1 y j) i

any_first : (b c : Bool) → (b || c) ≡ true → (b ≡ true) ⊎ (c ≡ true)
any_first true c h = inl refl
any_first false c h = inr h

first_any : (b c : Bool) → b ≡ true → (b || c) ≡ true
first_any true c h = refl
first_any false c h = absurd (cc)

later_any : (b c : Bool) → c ≡ true → (b || c) ≡ true
later_any true c h = refl
later_any false c h = h

-- a number stands in a list
pub any_in : (e : ℕ) (xs : List ℕ) → list_any (λ s. s == e) xs ≡ true → In e xs
any_in e [] h = absurd (cc)
any_in e (x ∷ xs) h = ⊎_elim (λ q. inl (sym (eqb-true x e q))) (λ q. inr (any_in e xs q)) (any_first (x == e) (list_any (λ s. s == e) xs) h)

pub in_any : (e : ℕ) (xs : List ℕ) → In e xs → list_any (λ s. s == e) xs ≡ true
in_any e [] i = absurd i
in_any e (x ∷ xs) i = ⊎_elim (λ q. first_any (x == e) (list_any (λ s. s == e) xs) (eq-eqb x e (sym q))) (λ j. later_any (x == e) (list_any (λ s. s == e) xs) (in_any e xs j)) i

-- what passes a test is among what is kept by it
pub kept_in : (p : ℕ → Bool) (xs : List ℕ) (y : ℕ) → In y xs → p y ≡ true → In y (filter p xs)
kept_in p [] y i e = absurd i
kept_in p (x ∷ xs) y i e = by (p x) refl (λ k. kept_in p xs y k e) i
  where
    by : (v : Bool) → p x ≡ v → (In y xs → In y (filter p xs)) → In y (x ∷ xs) → In y (cond v (x ∷ filter p xs) (filter p xs))
    by true q rest i = ⊎_elim (λ k. inl k) (λ k. inr (rest k)) i
    by false q rest i = ⊎_elim (λ k. absurd (let z : true ≡ false = sym e ∙ ap p k ∙ q in cc)) rest i

-- and nothing else is
pub in_kept : (p : ℕ → Bool) (xs : List ℕ) (y : ℕ) → In y (filter p xs) → In y xs × (p y ≡ true)
in_kept p [] y i = absurd i
in_kept p (x ∷ xs) y i = by (p x) refl (in_kept p xs y) i
  where
    by : (v : Bool) → p x ≡ v → (In y (filter p xs) → In y xs × (p y ≡ true)) → In y (cond v (x ∷ filter p xs) (filter p xs)) → In y (x ∷ xs) × (p y ≡ true)
    by true is rest i = ⊎_elim (λ q. (inl q, ap p q ∙ is)) (λ k. let r = rest k in (inr r.0, r.1)) i
    by false is rest i = let r = rest i in (inr r.0, r.1)
