-- Who reads which map last.
use Rattle.std.proofs.Common.{◌≡◌, ℕ, zero, suc, ◌+◌, ◌<◌, ◌≤◌, Bool, true, false, cond, ◌||◌, ◌&&◌, List, [], ◌∷◌, drop, get_or, refl, sym, ap, subst, ◌∙◌, inl, inr, ◌⊎◌, arith}
use Rattle.std.specs.List.{list_any}
use Rattle.map_meaning.specs.declared.known.Span.{Span}
use Rattle.map_meaning.specs.declared.program.Operation.{Operation}
use Rattle.plain_eval.specs.inside.Readers.{last_reader, reads}

-- the last reader is no lower than a number that neither the first operation's nor the other answer is lower than
not_below : (s : Span) (k d n m : ℕ) (operations : List Operation) → m ≤ d → m ≤ n → m ≤ last_reader s k d n operations
not_below s k d n m [] low first = low
not_below s k d n m (o ∷ more) low first = by_case (reads s k o) (λ e is. not_below s k e (n + 1) m more is (omega arith))
  where
    by_case : (r : Bool) → ((e : ℕ) → m ≤ e → m ≤ last_reader s k e (n + 1) more) → m ≤ last_reader s k (cond r n d) (n + 1) more
    by_case true later = later n first
    by_case false later = later d low

-- where operations from place i on read a map, its last reader stands there or behind
pub read_later : (s : Span) (k d n i : ℕ) (operations : List Operation) → list_any (reads s k) (drop i operations) ≡ true → n + i ≤ last_reader s k d n operations
read_later s k d n zero [] is = absurd (cc)
read_later s k d n (suc i) [] is = absurd (cc)
read_later s k d n zero (o ∷ more) is = by_case (reads s k o) is (λ is. read_later s k d (n + 1) zero more is)
  where
    by_case : (r : Bool) → (r || list_any (reads s k) more) ≡ true → (list_any (reads s k) more ≡ true → n + 1 + 0 ≤ last_reader s k d (n + 1) more) → n + 0 ≤ last_reader s k (cond r n d) (n + 1) more
    by_case true is later = not_below s k n (n + 1) (n + 0) more (omega arith) (omega arith)
    by_case false is later = let h : n + 1 + 0 ≤ last_reader s k d (n + 1) more = later is in omega arith
read_later s k d n (suc i) (o ∷ more) is =
    let h : n + 1 + i ≤ last_reader s k (cond (reads s k o) n d) (n + 1) more = read_later s k (cond (reads s k o) n d) (n + 1) i more is in omega arith

-- the operation at this place, behind the others, reads the map
abbrev IsReaderAt : Span → ℕ → ℕ → List Operation → ℕ → Type 0
IsReaderAt s k n operations r = (i : ℕ) × (r ≡ n + i) × ((d : Operation) → reads s k (get_or operations i d) ≡ true)

-- the last reader reads the map, where there is one
last_reads : (s : Span) (k d n r : ℕ) (operations : List Operation) → last_reader s k d n operations ≡ r → (r ≡ d) ⊎ IsReaderAt s k n operations r
last_reads s k d n r [] is = inl (sym is)
last_reads s k d n r (o ∷ more) is = by_case (reads s k o) refl (last_reads s k (cond (reads s k o) n d) (n + 1) r more is)
  where
    by_case : (b : Bool) → reads s k o ≡ b → (r ≡ cond b n d) ⊎ IsReaderAt s k (n + 1) more r → (r ≡ d) ⊎ IsReaderAt s k n (o ∷ more) r
    by_case true it (inl same) = inr (0, omega arith, λ e. it)
    by_case false it (inl same) = inl same
    by_case b it (inr later) = let at : r ≡ n + 1 + later.0 = later.1 in inr (suc later.0, omega arith, later.2)

-- a last reader behind the operation itself reads its map
pub last_one_reads : (s : Span) (k n : ℕ) (operations : List Operation) (d : Operation) → last_reader s k k 0 operations ≡ n → k < n → reads s k (get_or operations n d) ≡ true
last_one_reads s k n operations d is behind = elim (last_reads s k k 0 n operations is) [
  | inl same ↦ absurd (omega arith)
  | inr at ↦ let place : at.0 ≡ n = (let e : n ≡ 0 + at.0 = at.1 in omega arith) in subst (λ i. reads s k (get_or operations i d) ≡ true) place (at.2 d)
]

-- ---- four operands, one after the other

-- a choice between the same
same_choice : {A : Type 0} (b : Bool) (y : A) → cond b y y ≡ y
same_choice true y = refl
same_choice false y = refl

-- four tests, one after the other, are their disjunction
pub four_tests : {A : Type 0} (a b c d : Bool) (y x : A) → cond d y (cond c y (cond b y (cond a y x))) ≡ cond (a || (b || (c || (d || false)))) y x
four_tests true b c d y x = ap (λ z. cond d y (cond c y z)) (same_choice b y) ∙ (ap (cond d y) (same_choice c y) ∙ same_choice d y)
four_tests false true c d y x = ap (cond d y) (same_choice c y) ∙ same_choice d y
four_tests false false true d y x = same_choice d y
four_tests false false false true y x = refl
four_tests false false false false y x = refl

-- the same where each is made together with another one
pub four_tests_both : {A : Type 0} (e a b c d : Bool) (y x : A) → cond (e && d) y (cond (e && c) y (cond (e && b) y (cond (e && a) y x))) ≡ cond (e && (a || (b || (c || (d || false))))) y x
four_tests_both true a b c d y x = four_tests a b c d y x
four_tests_both false a b c d y x = refl

-- four steps, each a choice
pub four_steps : {A : Type 0} (a b c d : Bool) (y x0 x1 x2 x3 x4 : A) → x1 ≡ cond a y x0 → x2 ≡ cond b y x1 → x3 ≡ cond c y x2 → x4 ≡ cond d y x3 → x4 ≡ cond d y (cond c y (cond b y (cond a y x0)))
four_steps a b c d y x0 x1 x2 x3 x4 p q r s = s ∙ ap (cond d y) (r ∙ ap (cond c y) (q ∙ ap (cond b y) p))
