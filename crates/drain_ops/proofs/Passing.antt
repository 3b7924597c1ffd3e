-- How far the flow has come down.
use Rattle.std.proofs.Common.{◌≡◌, ◌≢◌, inl, inr, ℕ, ◌+◌, ◌<◌, ◌≤◌, List, [], ◌∷◌, ◌++◌, length, refl, sym, ap, subst, ◌∙◌, arith, suc, zero, get_or, get_or-set_same, get_or-set_other, false, length-append}
use Rattle.std.specs.Prelude.{if◌then◌else◌}
use Rattle.std.specs.List.{Contains}
use Rattle.std.proofs.Math.ListN.{set, length-set}
use Rattle.std.proofs.lemmas.Bool.{cases_eq}
use Rattle.text_base.specs.Limits.{most_cells}
use Rattle.cell_values.specs.declared.cell.Cell.{Cell}
use Rattle.cell_values.specs.declared.cell.Cell.TheVariants as cell
use Rattle.tile_map.specs.Cuts.{cell_at}
use Rattle.drain_meaning.specs.declared.end.FlowEnd.{FlowEnd}
use Rattle.drain_meaning.specs.declared.next.Next.TheVariants as next
use Rattle.drain_meaning.specs.Drains.{DrainMap, next_at}
use Rattle.drain_meaning.specs.Flows.{FlowFits}
use Rattle.drain_meaning.specs.Rules.{Accumulator, RuleLaws}
use Rattle.drain_meaning.specs.Transports.{Transport, drains_into}
use Rattle.drain_meaning.proofs.Callers.{contains_cases, contains_first, contains_later, drains_tells}
use Rattle.drain_ops.proofs.Gathered.{gathered}
use Rattle.drain_ops.proofs.Loads.{drains_true, loads, loads_other, loads_same}

-- what the cell u passes on to c
abbrev pub passed : {A : Type 0} → Accumulator A → DrainMap → (ℕ → FlowEnd) → ℕ → ℕ → A
passed rule drains ends c u = if drains_into c (next_at drains u) then rule.lifted (ends u).out else rule.none

pub passed_none : {A : Type 0} (rule : Accumulator A) (drains : DrainMap) (ends : ℕ → FlowEnd) (c u : ℕ) → drains_into c (next_at drains u) ≡ false → passed rule drains ends c u ≡ rule.none
passed_none rule drains ends c u e = rw e

-- The flow of these cells has been passed on, and their results stand.
pub record Passing {A : Type 0} (rule : Accumulator A) (drains : DrainMap) (ends : ℕ → FlowEnd) (value : ℕ → Cell) (done : List ℕ) (inflows : List A) (results : List Cell) : Type 0 where
  pub inflows_many : length inflows ≡ length drains.codes
  pub results_many : length results ≡ length drains.codes
  pub came : (d : ℕ) → d < length drains.codes → get_or inflows d rule.none ≡ gathered rule (passed rule drains ends d) done
  pub fitting : (d : ℕ) → d < length drains.codes → rule.FitsLoad (get_or inflows d rule.none) (loads drains done d)
  pub given : (u : ℕ) → Contains done u → cell_at results u ≡ value u
  pub other : (u : ℕ) → (Contains done u → ⊥) → cell_at results u ≡ cell.Mv

-- the results after one more
given_more : (value : ℕ → Cell) (done : List ℕ) (results : List Cell) (c : ℕ) → c < length results → ((u : ℕ) → Contains done u → cell_at results u ≡ value u) → (u : ℕ) → Contains (c ∷ done) u → cell_at (set results c (value c)) u ≡ value u
given_more value done results c w before u h = elim (cases_eq u c) as (λ _. cell_at (set results c (value c)) u ≡ value u) [
  | inl same ↦ ap (λ (y : ℕ). cell_at (set results c (value c)) y) same ∙ (get_or-set_same results c (value c) cell.Mv w ∙ ap (λ (y : ℕ). value y) (sym same))
  | inr ne ↦ get_or-set_other results c u (value c) cell.Mv ne ∙ elim (contains_cases c done u h) as (λ _. cell_at results u ≡ value u) [ inl b ↦ absurd (ne b) | inr b ↦ before u b ]
]

other_more : (value : ℕ → Cell) (done : List ℕ) (results : List Cell) (c : ℕ) → ((u : ℕ) → (Contains done u → ⊥) → cell_at results u ≡ cell.Mv) → (u : ℕ) → (Contains (c ∷ done) u → ⊥) → cell_at (set results c (value c)) u ≡ cell.Mv
other_more value done results c before u h =
    let ne : u ≢ c = λ same. h (subst (λ (y : ℕ). Contains (c ∷ done) y) (sym same) (contains_first c done)) in
    get_or-set_other results c u (value c) cell.Mv ne ∙ before u (λ k. h (contains_later c done u k))

-- a cell that passes nothing on
pub passing_rest : {A : Type 0} (t : Transport) (rule : Accumulator A) → RuleLaws t rule → (drains : DrainMap) (ends : ℕ → FlowEnd) (value : ℕ → Cell) (done : List ℕ) (inflows : List A) (results : List Cell) (c : ℕ) → Passing rule drains ends value done inflows results → c < length drains.codes → ((d : ℕ) → drains_into d (next_at drains c) ≡ false) → Passing rule drains ends value (c ∷ done) inflows (set results c (value c))
passing_rest {A = A} t rule laws drains ends value done inflows results c p w none = record {
  inflows_many = p.inflows_many;
  results_many = length-set results c (value c) ∙ p.results_many;
  came = λ d h. p.came d h ∙ sym (ap (λ (y : A). rule.joined (gathered rule (passed rule drains ends d) done) y) (passed_none rule drains ends d c (none d)) ∙ laws.unit (gathered rule (passed rule drains ends d) done));
  fitting = λ d h. subst (λ (y : ℕ). rule.FitsLoad (get_or inflows d rule.none) y) (sym (loads_other drains done c d (none d))) (p.fitting d h);
  given = given_more value done results c (omega (arith, p.results_many)) p.given;
  other = other_more value done results c p.other;
}

-- what a cell that drains into d passes on to it
passed_on : {A : Type 0} (rule : Accumulator A) (drains : DrainMap) (ends : ℕ → FlowEnd) (d c : ℕ) → next_at drains c ≡ next.Cell d → passed rule drains ends d c ≡ rule.lifted (ends c).out
passed_on rule drains ends d c e = rw (drains_true (next_at drains c) d e)

drains_elsewhere : (drains : DrainMap) (c d e : ℕ) → next_at drains c ≡ next.Cell d → e ≢ d → drains_into e (next_at drains c) ≡ false
drains_elsewhere drains c d e h ne = elim (drains_tells (next_at drains c) e) as (λ _. drains_into e (next_at drains c) ≡ false) [ inl b ↦ absurd (ne (cc (b, h))) | inr b ↦ b ]

-- a cell that passes its flow on
pub passing_on : {A : Type 0} (t : Transport) (rule : Accumulator A) → RuleLaws t rule → (drains : DrainMap) (ends : ℕ → FlowEnd) (value : ℕ → Cell) (done : List ℕ) (inflows : List A) (results : List Cell) (c d : ℕ) → Passing rule drains ends value done inflows results → c < length drains.codes → d < length drains.codes → next_at drains c ≡ next.Cell d → FlowFits (ends c).out (loads drains done c + 1) → loads drains done d + (loads drains done c + 1) ≤ most_cells → Passing rule drains ends value (c ∷ done) (set inflows d (rule.joined (get_or inflows d rule.none) (rule.lifted (ends c).out))) (set results c (value c))
passing_on {A = A} t rule laws drains ends value done inflows results c d p w v e fit few =
    let more : A = rule.joined (get_or inflows d rule.none) (rule.lifted (ends c).out) in
    let low : d < length inflows = omega (arith, p.inflows_many) in
    record {
      inflows_many = length-set inflows d more ∙ p.inflows_many;
      results_many = length-set results c (value c) ∙ p.results_many;
      came = λ x h. elim (cases_eq x d) as (λ _. get_or (set inflows d more) x rule.none ≡ gathered rule (passed rule drains ends x) (c ∷ done)) [
        | inl same ↦ subst (λ (y : ℕ). get_or (set inflows d more) y rule.none ≡ gathered rule (passed rule drains ends y) (c ∷ done)) (sym same)
            (let one = get_or-set_same inflows d more rule.none low in
            let two = p.came d v in
            let three = passed_on rule drains ends d c e in
            one ∙ (ap (λ (y : A). rule.joined y (rule.lifted (ends c).out)) two ∙ ap (λ (y : A). rule.joined (gathered rule (passed rule drains ends d) done) y) (sym three)))
        | inr ne ↦ get_or-set_other inflows d x more rule.none ne ∙ (p.came x h ∙ sym (ap (λ (y : A). rule.joined (gathered rule (passed rule drains ends x) done) y) (passed_none rule drains ends x c (drains_elsewhere drains c d x e ne)) ∙ laws.unit (gathered rule (passed rule drains ends x) done)))
      ];
      fitting = λ x h. elim (cases_eq x d) as (λ _. rule.FitsLoad (get_or (set inflows d more) x rule.none) (loads drains (c ∷ done) x)) [
        | inl same ↦ subst (λ (y : ℕ). rule.FitsLoad (get_or (set inflows d more) y rule.none) (loads drains (c ∷ done) y)) (sym same)
            (subst (λ (y : A). rule.FitsLoad y (loads drains (c ∷ done) d)) (sym (get_or-set_same inflows d more rule.none low))
            (subst (λ (y : ℕ). rule.FitsLoad more y) (sym (loads_same drains done c d e))
            (laws.joined_fits (get_or inflows d rule.none) (rule.lifted (ends c).out) (loads drains done d) (loads drains done c + 1) (p.fitting d v) (laws.lifted_fits (ends c).out (loads drains done c + 1) fit) few)))
        | inr ne ↦ subst (λ (y : A). rule.FitsLoad y (loads drains (c ∷ done) x)) (sym (get_or-set_other inflows d x more rule.none ne))
            (subst (λ (y : ℕ). rule.FitsLoad (get_or inflows x rule.none) y) (sym (loads_other drains done c x (drains_elsewhere drains c d x e ne))) (p.fitting x h))
      ];
      given = given_more value done results c (omega (arith, p.results_many)) p.given;
      other = other_more value done results c p.other;
    }

-- nothing came to one cell more
pub pushed_none : {A : Type 0} (x : A) (xs : List A) → ((d : ℕ) → get_or xs d x ≡ x) → (d : ℕ) → get_or (xs ++ x ∷ []) d x ≡ x
pushed_none x [] e zero = refl
pushed_none x [] e (suc d) = refl
pushed_none x (y ∷ ys) e zero = e 0
pushed_none x (y ∷ ys) e (suc d) = pushed_none x ys (λ k. e (suc k)) d

pub pushed_count : {A : Type 0} (x : A) (xs : List A) (n : ℕ) → length xs ≡ n → length (xs ++ x ∷ []) ≡ n + 1
pushed_count x xs n e = omega (arith, length-append xs (x ∷ []))
