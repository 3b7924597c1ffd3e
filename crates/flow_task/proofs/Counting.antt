-- Lists of feeding cells: how many have not come, what has come of them, and their loads.
use Rattle.std.proofs.Common.{◌≡◌, ◌≢◌, ℕ, ◌+◌, ◌<◌, ◌≤◌, List, [], ◌∷◌, ◌++◌, length, map, refl, sym, ap, subst, ◌∙◌, arith, inl, inr, Bool, true, false}
use Rattle.std.specs.Prelude.{if◌then◌else◌}
use Rattle.std.specs.List.{AllByRecursion, Contains, IsDistinct}
use Rattle.std.proofs.Math.Dec.{eqb}
use Rattle.std.proofs.lemmas.Bool.{cases_eq, eqb-true}
use Rattle.std.proofs.lemmas.Bool.Decides.{eqb_tells}
use Rattle.std.proofs.lemmas.List.Elements.{Contains-append_cases}
use Rattle.std.proofs.lemmas.Map.Steps.{length-le_from_distinct_below}
use Rattle.std.proofs.lemmas.Map.Views.{Contains-from_any}
use Rattle.text_base.specs.Limits.{most_cells}
use Rattle.drain_meaning.specs.declared.flow.Flow.{Flow}
use Rattle.drain_meaning.specs.declared.op.Orient.{Orient}
use Rattle.drain_meaning.specs.Drains.{DrainMap}
use Rattle.drain_meaning.specs.Flows.{FlowFits}
use Rattle.drain_meaning.specs.Rules.{Accumulator, RuleLaws, joined_all}
use Rattle.drain_meaning.specs.Transports.{Transport}
use Rattle.drain_meaning.proofs.Callers.{contains_cases, contains_first, contains_later}
use Rattle.border_channel.specs.Loads.{load_of, load_together}
use Rattle.flow_task.specs.inside.Underway.{Distinct, one_if, joined_over, passing_many}

-- ---- tallies

pub tally_alike : (p q : ℕ → Bool) (xs : List ℕ) → ((u : ℕ) → Contains xs u → p u ≡ q u) → passing_many p xs ≡ passing_many q xs
tally_alike p q [] e = refl
tally_alike p q (x ∷ xs) e =
    let here : p x ≡ q x = e x (contains_first x xs) in
    let rest = tally_alike p q xs (λ u h. e u (contains_later x xs u h)) in
    ap (λ (y : Bool). one_if y + passing_many p xs) here ∙ ap (λ (y : ℕ). one_if (q x) + y) rest

-- one of them is no more in it
pub tally_less : (p q : ℕ → Bool) (x : ℕ) (xs : List ℕ) → Distinct xs → Contains xs x → p x ≡ true → q x ≡ false → ((u : ℕ) → Contains xs u → u ≢ x → p u ≡ q u) → passing_many p xs ≡ passing_many q xs + 1
tally_less p q x [] apart on passed failed same = absurd (omega (arith, on.1))
tally_less p q x (y ∷ ys) apart on passed failed same = elim (cases_eq y x) as (λ _. passing_many p (y ∷ ys) ≡ passing_many q (y ∷ ys) + 1) [
  | inl e ↦
      let one : one_if (p y) ≡ 1 = ap (λ (z : ℕ). one_if (p z)) e ∙ rw passed refl in
      let none : one_if (q y) ≡ 0 = ap (λ (z : ℕ). one_if (q z)) e ∙ rw failed refl in
      let rest = tally_alike p q ys (λ u h. same u (contains_later y ys u h) (λ k. apart.0 (subst (λ (z : ℕ). Contains ys z) (k ∙ sym e) h))) in
      omega (arith, one, none, rest)
  | inr ne ↦
      let later : Contains ys x = elim (contains_cases y ys x on) as (λ _. Contains ys x) [ inl k ↦ absurd (ne (sym k)) | inr k ↦ k ] in
      let here : one_if (p y) ≡ one_if (q y) = ap one_if (same y (contains_first y ys) ne) in
      let rest = tally_less p q x ys apart.1 later passed failed (λ u h k. same u (contains_later y ys u h) k) in
      omega (arith, here, rest)
]

pub tally_some : (p : ℕ → Bool) (xs : List ℕ) (x : ℕ) → Contains xs x → p x ≡ true → 1 ≤ passing_many p xs
tally_some p [] x on e = absurd (omega (arith, on.1))
tally_some p (y ∷ ys) x on e = elim (contains_cases y ys x on) as (λ _. 1 ≤ passing_many p (y ∷ ys)) [
  | inl same ↦ let one : one_if (p y) ≡ 1 = ap (λ (z : ℕ). one_if (p z)) (sym same) ∙ rw e refl in omega (arith, one)
  | inr later ↦ let rest = tally_some p ys x later e in omega (arith, rest)
]

-- where none is counted no test is passed
pub tally_none : (p : ℕ → Bool) (xs : List ℕ) → passing_many p xs ≡ 0 → (x : ℕ) → Contains xs x → p x ≡ true → ⊥
tally_none p xs e x on passed = let some = tally_some p xs x on passed in omega (arith, some, e)

-- where each test fails none is counted
pub tally_zero : (p : ℕ → Bool) (xs : List ℕ) → ((x : ℕ) → Contains xs x → p x ≡ false) → passing_many p xs ≡ 0
tally_zero p [] e = refl
tally_zero p (x ∷ xs) e =
    let none : one_if (p x) ≡ 0 = (let h : p x ≡ false = e x (contains_first x xs) in rw h refl) in
    let rest = tally_zero p xs (λ u h. e u (contains_later x xs u h)) in
    omega (arith, none, rest)

-- ---- values together

pub gathered_alike : {A : Type 0} (rule : Accumulator A) (f g : ℕ → A) (xs : List ℕ) → ((u : ℕ) → Contains xs u → f u ≡ g u) → joined_over rule f xs ≡ joined_over rule g xs
gathered_alike rule f g [] e = refl
gathered_alike rule f g (x ∷ xs) e =
    let rest : joined_over rule f xs ≡ joined_over rule g xs = gathered_alike rule f g xs (λ u h. e u (contains_later x xs u h)) in
    let here : f x ≡ g x = e x (contains_first x xs) in
    cc

-- one more has come
pub gathered_more : {A : Type 0} (t : Transport) (rule : Accumulator A) → RuleLaws t rule → (f g : ℕ → A) (x : ℕ) (xs : List ℕ) → Distinct xs → Contains xs x → f x ≡ rule.none → ((u : ℕ) → Contains xs u → u ≢ x → f u ≡ g u) →
    joined_over rule g xs ≡ rule.joined (joined_over rule f xs) (g x)
gathered_more t rule laws f g x [] apart on none same = absurd (omega (arith, on.1))
gathered_more t rule laws f g x (y ∷ ys) apart on none same = elim (cases_eq y x) as (λ _. joined_over rule g (y ∷ ys) ≡ rule.joined (joined_over rule f (y ∷ ys)) (g x)) [
  | inl e ↦
      let rest : joined_over rule f ys ≡ joined_over rule g ys = gathered_alike rule f g ys (λ u h. same u (contains_later y ys u h) (λ k. apart.0 (subst (λ (z : ℕ). Contains ys z) (k ∙ sym e) h))) in
      let mine : g y ≡ g x = ap g e in
      let nothing : f y ≡ rule.none = ap f e ∙ none in
      let unit = laws.unit (joined_over rule f ys) in
      cc
  | inr ne ↦
      let later : Contains ys x = elim (contains_cases y ys x on) as (λ _. Contains ys x) [ inl k ↦ absurd (ne (sym k)) | inr k ↦ k ] in
      let here : f y ≡ g y = same y (contains_first y ys) ne in
      let rest : joined_over rule g ys ≡ rule.joined (joined_over rule f ys) (g x) = gathered_more t rule laws f g x ys apart.1 later none (λ u h k. same u (contains_later y ys u h) k) in
      let one = laws.regroup (joined_over rule f ys) (g x) (g y) in
      let two = laws.swap (g x) (g y) in
      let three = laws.regroup (joined_over rule f ys) (g y) (g x) in
      cc
]

-- all flows, joined
pub gathered_all : {A : Type 0} (t : Transport) (rule : Accumulator A) → RuleLaws t rule → (flows : ℕ → Flow) (xs : List ℕ) → joined_over rule (λ u. rule.lifted (flows u)) xs ≡ joined_all rule (map flows xs)
gathered_all t rule laws flows [] = refl
gathered_all {A = A} t rule laws flows (x ∷ xs) =
    ap (λ (y : A). rule.joined y (rule.lifted (flows x))) (gathered_all t rule laws flows xs)
    ∙ laws.swap (joined_all rule (map flows xs)) (rule.lifted (flows x))

-- ---- loads

-- the loads of those that pass a test
abbrev pub load_where : Orient → DrainMap → (ℕ → Bool) → List ℕ → ℕ
load_where o m p [] = 0
load_where o m p (x ∷ xs) = load_where o m p xs + (if p x then load_of o m x else 0)

choice_few : (o : Bool) (n : ℕ) → (if o then n else 0) ≤ n
choice_few true n = omega arith
choice_few false n = omega arith

pub load_where_few : (o : Orient) (m : DrainMap) (p : ℕ → Bool) (xs : List ℕ) → load_where o m p xs ≤ load_together o m xs
load_where_few o m p [] = omega arith
load_where_few o m p (x ∷ xs) = omega (arith, load_where_few o m p xs, choice_few (p x) (load_of o m x))

-- one that does not pass has room beside them
pub load_where_beside : (o : Orient) (m : DrainMap) (p : ℕ → Bool) (xs : List ℕ) (x : ℕ) → Contains xs x → p x ≡ false → load_where o m p xs + load_of o m x ≤ load_together o m xs
load_where_beside o m p [] x on e = absurd (omega (arith, on.1))
load_where_beside o m p (y ∷ ys) x on e = elim (contains_cases y ys x on) as (λ _. load_where o m p (y ∷ ys) + load_of o m x ≤ load_together o m (y ∷ ys)) [
  | inl same ↦
      let none : (if p y then load_of o m y else 0) ≡ 0 = (let h : p y ≡ false = ap p (sym same) ∙ e in rw h refl) in
      let load : load_of o m x ≡ load_of o m y = ap (load_of o m) same in
      omega (arith, none, load, load_where_few o m p ys)
  | inr later ↦ omega (arith, load_where_beside o m p ys x later e, choice_few (p y) (load_of o m y))
]

pub load_where_all : (o : Orient) (m : DrainMap) (p : ℕ → Bool) (xs : List ℕ) → ((x : ℕ) → Contains xs x → p x ≡ true) → load_where o m p xs ≡ load_together o m xs
load_where_all o m p [] e = refl
load_where_all o m p (x ∷ xs) e =
    let one : (if p x then load_of o m x else 0) ≡ load_of o m x = (let h : p x ≡ true = e x (contains_first x xs) in rw h refl) in
    let rest = load_where_all o m p xs (λ u h. e u (contains_later x xs u h)) in
    omega (arith, one, rest)

value_fits : {A : Type 0} (t : Transport) (rule : Accumulator A) → RuleLaws t rule → (o : Bool) (f : Flow) (n : ℕ) → (o ≡ true → FlowFits f n) → rule.FitsLoad (if o then rule.lifted f else rule.none) (if o then n else 0)
value_fits t rule laws true f n e = laws.lifted_fits f n (e refl)
value_fits t rule laws false f n e = laws.none_fits

-- what has come fits the loads of those that it has come from
pub gathered_fits : {A : Type 0} (t : Transport) (rule : Accumulator A) → RuleLaws t rule → (m : DrainMap) (p : ℕ → Bool) (flows : ℕ → Flow) (xs : List ℕ) → ((u : ℕ) → Contains xs u → p u ≡ true → FlowFits (flows u) (load_of t.orient m u)) → load_together t.orient m xs ≤ most_cells →
    rule.FitsLoad (joined_over rule (λ u. if p u then rule.lifted (flows u) else rule.none) xs) (load_where t.orient m p xs)
gathered_fits t rule laws m p flows [] fits few = laws.none_fits
gathered_fits t rule laws m p flows (x ∷ xs) fits few =
    laws.joined_fits (joined_over rule (λ u. if p u then rule.lifted (flows u) else rule.none) xs) (if p x then rule.lifted (flows x) else rule.none) (load_where t.orient m p xs) (if p x then load_of t.orient m x else 0)
    (gathered_fits t rule laws m p flows xs (λ u h e. fits u (contains_later x xs u h) e) (omega arith))
    (value_fits t rule laws (p x) (flows x) (load_of t.orient m x) (fits x (contains_first x xs)))
    (omega (arith, load_where_few t.orient m p xs, choice_few (p x) (load_of t.orient m x)))

-- ---- lists without repetition

none_equal : (x : ℕ) (ys : List ℕ) → (Contains ys x → ⊥) → AllByRecursion (λ y. eqb x y ≡ false) ys
none_equal x [] e = tt
none_equal x (y ∷ ys) e = (
  elim (eqb_tells x y) as (λ _. eqb x y ≡ false) [ inl b ↦ absurd (e (subst (λ (z : ℕ). Contains (y ∷ ys) z) (sym b.1) (contains_first y ys))) | inr b ↦ b.0 ],
  none_equal x ys (λ h. e (contains_later y ys x h)),
)

distinct_of : (xs : List ℕ) → Distinct xs → IsDistinct eqb xs
unfolding IsDistinct
distinct_of [] d = tt
distinct_of (x ∷ xs) d = (none_equal x xs d.0, distinct_of xs d.1)

-- distinct numbers below n are no more than n
pub distinct_few : (xs : List ℕ) (n : ℕ) → Distinct xs → ((x : ℕ) → Contains xs x → x < n) → length xs ≤ n
distinct_few xs n apart below = length-le_from_distinct_below xs n (distinct_of xs apart) (λ q h. below q (Contains-from_any eqb-true q xs h))

pub distinct_push : (xs : List ℕ) (x : ℕ) → Distinct xs → (Contains xs x → ⊥) → Distinct (xs ++ x ∷ [])
distinct_push [] x apart out = ((λ h. omega (arith, h.1)), tt)
distinct_push (y ∷ ys) x apart out = (
  (λ h. elim (Contains-append_cases ys (x ∷ []) y h) as (λ _. ⊥) [
    | inl k ↦ apart.0 k
    | inr k ↦ elim (contains_cases x [] y k) as (λ _. ⊥) [ inl same ↦ out (subst (λ (z : ℕ). Contains (y ∷ ys) z) same (contains_first y ys)) | inr none ↦ omega (arith, none.1) ]
  ]),
  distinct_push ys x apart.1 (λ h. out (contains_later y ys x h)),
)
