-- A list cut where a test first fails.
use Rattle.std.proofs.Common.{◌≡◌, ℕ, suc, ◌+◌, Bool, true, false, cond, not, ◌||◌, List, [], ◌∷◌, ◌++◌, length, take, drop, refl, sym, ap, ◌∙◌, arith}
use Rattle.std.specs.List.{list_all, list_any, prefix_len}
use Rattle.std.proofs.lemmas.Bool.{and_parts, and_from, not-true}
use Rattle.text_base.proofs.Callers.{bool_cases}

-- the test fails at the front
abbrev pub Stops : (ℕ → Bool) → List ℕ → Type 0
Stops p [] = Unit {0}
Stops p (x ∷ xs) = p x ≡ false

pub prefix_yes : (p : ℕ → Bool) (x : ℕ) (xs : List ℕ) → p x ≡ true → prefix_len p (x ∷ xs) ≡ suc (prefix_len p xs)
prefix_yes p x xs h = ap (λ b. cond b (1 + prefix_len p xs) 0) h ∙ omega arith

pub prefix_no : (p : ℕ → Bool) (x : ℕ) (xs : List ℕ) → p x ≡ false → prefix_len p (x ∷ xs) ≡ 0
prefix_no p x xs h = ap (λ b. cond b (1 + prefix_len p xs) 0) h

-- the prefix passes
pub prefix_all : (p : ℕ → Bool) (xs : List ℕ) → list_all p (take (prefix_len p xs) xs) ≡ true
prefix_all p [] = refl
prefix_all p (x ∷ xs) =
    bool_cases (p x)
    (λ yes. ap (λ n. list_all p (take n (x ∷ xs))) (prefix_yes p x xs yes) ∙ and_from (p x) _ yes (prefix_all p xs))
    (λ no. ap (λ n. list_all p (take n (x ∷ xs))) (prefix_no p x xs no))

-- what stands behind it does not
pub prefix_stops : (p : ℕ → Bool) (xs : List ℕ) → Stops p (drop (prefix_len p xs) xs)
prefix_stops p [] = tt
prefix_stops p (x ∷ xs) =
    bool_cases (p x)
    (λ yes. rw (prefix_yes p x xs yes) (prefix_stops p xs))
    (λ no. rw (prefix_no p x xs no) no)

-- a prefix that passes, before what does not, is the whole prefix
pub prefix_is : (p : ℕ → Bool) (xs ys : List ℕ) → list_all p xs ≡ true → Stops p ys → prefix_len p (xs ++ ys) ≡ length xs
prefix_is p [] [] all stops = refl
prefix_is p [] (y ∷ ys) all stops = prefix_no p y ys stops
prefix_is p (x ∷ xs) ys all stops =
    let parts = and_parts (p x) (list_all p xs) all in
    prefix_yes p x (xs ++ ys) parts.0 ∙ ap suc (prefix_is p xs ys parts.1 stops)

-- none passes where each fails
pub none_pass : (p : ℕ → Bool) (xs : List ℕ) → list_any p xs ≡ false → list_all (λ x. not (p x)) xs ≡ true
none_pass p [] none = refl
none_pass p (x ∷ xs) none =
    bool_cases (p x)
    (λ yes. let both : true ≡ false = sym (ap (λ b. b || list_any p xs) yes) ∙ none in absurd (cc))
    (λ no. let rest : list_any p xs ≡ false = sym (ap (λ b. b || list_any p xs) no) ∙ none in
    and_from (not (p x)) _ (ap not no) (none_pass p xs rest))

pub all_fail : (p : ℕ → Bool) (xs : List ℕ) → list_all (λ x. not (p x)) xs ≡ true → list_any p xs ≡ false
all_fail p [] all = refl
all_fail p (x ∷ xs) all =
    let parts = and_parts (not (p x)) _ all in
    ap (λ b. b || list_any p xs) (not-true (p x) parts.0) ∙ all_fail p xs parts.1
