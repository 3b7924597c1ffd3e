-- Ascending numbers.
use Rattle.std.proofs.Common.{◌≡◌, ℕ, zero, suc, ◌+◌, ◌<◌, ◌≤◌, List, [], ◌∷◌, ◌++◌, length, get_or, map, arith, subst}
use Rattle.std.specs.Prelude.{⊤}
use Rattle.std.specs.List.{All, range_with_len}
use Rattle.task_graph.specs.inside.Keys.{Climbs}

-- P holds of each item
abbrev pub Each : {A : Type 0} → (A → Type 0) → List A → Type 0
Each P [] = ⊤
Each P (x ∷ xs) = P x × Each P xs

-- from a lower number on
pub climbs_lower : {X : Type 0} (f : X → ℕ) (b c : ℕ) (xs : List X) → b ≤ c → Climbs f c xs → Climbs f b xs
climbs_lower f b c [] less h = tt
climbs_lower f b c (x ∷ xs) less h = (let low = h.0 in omega arith, h.1)

-- further items from a number on that those before do not come up to
pub climbs_append : {X : Type 0} (f : X → ℕ) (b c : ℕ) (xs ys : List X) → Climbs f b xs → Each (λ x. f x < c) xs → b ≤ c → Climbs f c ys → Climbs f b (xs ++ ys)
climbs_append f b c [] ys h each less later = climbs_lower f b c ys less later
climbs_append f b c (x ∷ xs) ys h each less later = (h.0, climbs_append f (f x + 1) c xs ys h.1 each.1 (let top = each.0 in omega arith) later)

-- an item's number is at least its place further
pub climbs_at : {X : Type 0} (f : X → ℕ) (b : ℕ) (xs : List X) (i : ℕ) (d : X) → Climbs f b xs → i < length xs → b + i ≤ f (get_or xs i d)
climbs_at f b [] i d h below = absurd (omega arith)
climbs_at f b (x ∷ xs) zero d h below = let low = h.0 in omega arith
climbs_at f b (x ∷ xs) (suc i) d h below = let low = h.0 in let later = climbs_at f (f x + 1) xs i d h.1 (omega arith) in omega arith

-- and so of two items
pub climbs_between : {X : Type 0} (f : X → ℕ) (b : ℕ) (xs : List X) (i k : ℕ) (d : X) → Climbs f b xs → i + k < length xs → f (get_or xs i d) + k ≤ f (get_or xs (i + k) d)
climbs_between f b [] i k d h below = absurd (omega arith)
climbs_between f b (x ∷ xs) zero zero d h below = omega arith
climbs_between {X = X} f b (x ∷ xs) zero (suc k) d h below = subst (λ (j : ℕ). f x + suc k ≤ f (get_or (x ∷ xs) j d)) (own k) (let later = climbs_at f (f x + 1) xs k d h.1 (omega arith) in omega arith)
  where
    own : (n : ℕ) → suc n ≡ 0 + suc n
    own n = omega arith
climbs_between f b (x ∷ xs) (suc i) k d h below = subst (λ (j : ℕ). f (get_or xs i d) + k ≤ f (get_or (x ∷ xs) j d)) (own i k) (climbs_between f (f x + 1) xs i k d h.1 (omega arith))
  where
    own : (n m : ℕ) → suc (n + m) ≡ suc n + m
    own n m = omega arith

-- ---- what holds of each item

pub each_append : {A : Type 0} (P : A → Type 0) (xs ys : List A) → Each P xs → Each P ys → Each P (xs ++ ys)
each_append P [] ys a b = b
each_append P (x ∷ xs) ys a b = (a.0, each_append P xs ys a.1 b)

pub each_map : {A B : Type 0} (P : B → Type 0) (f : A → B) (xs : List A) → Each (λ x. P (f x)) xs → Each P (map f xs)
each_map P f [] a = tt
each_map P f (x ∷ xs) a = (a.0, each_map P f xs a.1)

pub each_more : {A : Type 0} (P Q : A → Type 0) → ((x : A) → P x → Q x) → (xs : List A) → Each P xs → Each Q xs
each_more P Q h [] a = tt
each_more P Q h (x ∷ xs) a = (h x a.0, each_more P Q h xs a.1)

pub each_range : (P : ℕ → Type 0) (a n : ℕ) → ((k : ℕ) → k < a + n → P k) → Each P (range_with_len a n)
each_range P a zero h = tt
each_range P a (suc n) h = (h a (omega arith), each_range P (a + 1) n (λ k below. h k (omega arith)))

-- what holds of each holds at an index
pub each_at : {A : Type 0} (P : A → Type 0) (xs : List A) (i : ℕ) (d : A) → Each P xs → i < length xs → P (get_or xs i d)
each_at P [] i d a below = absurd (omega arith)
each_at P (x ∷ xs) zero d a below = a.0
each_at P (x ∷ xs) (suc i) d a below = each_at P xs i d a.1 (omega arith)

-- what holds at each index holds of each
pub each_of : {A : Type 0} (P : A → Type 0) (xs : List A) (d : A) → ((i : ℕ) → i < length xs → P (get_or xs i d)) → Each P xs
each_of P [] d h = tt
each_of P (x ∷ xs) d h = (h 0 (omega arith), each_of P xs d (λ i below. h (suc i) (omega arith)))

-- and in the words of std
pub each_all : {A : Type 0} (P : A → Type 0) (xs : List A) → Each P xs → All P xs
each_all P [] a k d below = absurd (omega arith)
each_all P (x ∷ xs) a zero d below = a.0
each_all P (x ∷ xs) a (suc k) d below = each_all P xs a.1 k d (omega arith)
