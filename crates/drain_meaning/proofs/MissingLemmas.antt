-- Where steps up and down stream are missing.
use Rattle.std.proofs.Common.{◌≡◌, ◌⊎◌, inl, inr, ℕ, ◌<◌, List, [], ◌∷◌, length, map, refl, sym, ap, subst, ◌∙◌, arith, Bool, true, false, cond}
use Rattle.std.specs.Prelude.{ℤ, Ok, Err}
use Rattle.std.specs.List.{Contains, filter, range_with_len}
use Rattle.std.proofs.lemmas.Bool.{eq-eqb}
use Rattle.std.proofs.lemmas.List.FromFn.{length-range_with_len, get_or-range_with_len}
use Rattle.cell_values.specs.declared.cell.Cell.{Cell}
use Rattle.cell_values.specs.declared.cell.Cell.TheVariants as cell
use Rattle.cell_values.specs.declared.cell.Over.{Over}
use Rattle.cell_values.specs.declared.kind.Kind.{Kind}
use Rattle.cell_values.specs.declared.kind.Kind.TheVariants.{Scalar}
use Rattle.cell_values.specs.Kinds.{is_value}
use Rattle.drain_meaning.specs.declared.flow.Flow.{Flow}
use Rattle.drain_meaning.specs.declared.flow.Flow.TheVariants as flow
use Rattle.drain_meaning.specs.declared.next.Next.{Next}
use Rattle.drain_meaning.specs.declared.next.Next.TheVariants as next
use Rattle.drain_meaning.specs.declared.op.NearOp.{NearOp}
use Rattle.drain_meaning.specs.declared.op.NearOp.TheVariants.{Upstream, Downstream}
use Rattle.drain_meaning.specs.Drains.{DrainMap, next_at}
use Rattle.drain_meaning.specs.Flows.{flow_outcome, material, together, total_flow}
use Rattle.drain_meaning.specs.Laws.{IsLookedAt, StepsAreMissing, TransportsAreMissing}
use Rattle.drain_meaning.specs.Near.{drained_place, near_flow, near_outcome}
use Rattle.drain_meaning.specs.Paths.{HasPath, IsFollowedBy, IsSound}
use Rattle.drain_meaning.specs.Transports.{drains_into, end_of, tributaries, where_directed}
use Rattle.drain_meaning.proofs.EndLemmas.{tributary_drains}
use Rattle.drain_meaning.proofs.MapLemmas.{cases_directed, directed_within}
use Rattle.drain_meaning.proofs.SumLemmas.{contains_cases, contains_first, contains_later}

-- ---- outcomes

chosen_cell : (b : Bool) (n : ℤ) (over : Over) → cond b (Ok (cell.Val n)) (Err over) ≡ Ok cell.Mv → ⊥
chosen_cell true n over e = cc e
chosen_cell false n over e = cc e

-- an outcome is missing only where the flow is
pub flow_of_missing : (kind : Kind) (f : Flow) → flow_outcome kind f ≡ Ok cell.Mv → f ≡ flow.Mv
flow_of_missing kind flow.Mv e = refl
flow_of_missing kind (flow.Num n) e = absurd (chosen_cell (is_value kind n) n (record {}) e)

-- a number is missing only where its cell is
pub material_missing : (a : Cell) → material a ≡ flow.Mv → a ≡ cell.Mv
material_missing cell.Mv e = refl
material_missing (cell.Val n) e = cc e

directed_missing : (n : Next) (f : Flow) → where_directed n f ≡ flow.Mv → (n ≡ next.Missing) ⊎ (f ≡ flow.Mv)
directed_missing next.Pit f e = inr e
directed_missing (next.Cell d) f e = inr e
directed_missing next.Outside f e = inr e
directed_missing next.Missing f e = inl refl

missing_directed : (n : Next) → where_directed n flow.Mv ≡ flow.Mv
missing_directed next.Pit = refl
missing_directed (next.Cell d) = refl
missing_directed next.Outside = refl
missing_directed next.Missing = refl

-- ---- totals

together_missing : (x : Flow) → together x flow.Mv ≡ flow.Mv
together_missing flow.Mv = refl
together_missing (flow.Num n) = refl

-- two flows together are missing only where one of them is
pub missing_of_two : (x y : Flow) → together x y ≡ flow.Mv → (x ≡ flow.Mv) ⊎ (y ≡ flow.Mv)
missing_of_two flow.Mv y e = inl refl
missing_of_two (flow.Num n) flow.Mv e = inr refl
missing_of_two (flow.Num n) (flow.Num k) e = cc e

-- a total of which one is missing
pub total-missing : (f : ℕ → Flow) (xs : List ℕ) (u : ℕ) → Contains xs u → f u ≡ flow.Mv → total_flow (map f xs) ≡ flow.Mv
total-missing f [] u h e = absurd (omega (arith, h.1))
total-missing f (x ∷ xs) u h e = elim (contains_cases x xs u h) as (λ _. total_flow (map f (x ∷ xs)) ≡ flow.Mv) [
  | inl same ↦ ap (λ (y : Flow). together y (total_flow (map f xs))) (ap f (sym same) ∙ e)
  | inr later ↦ ap (λ (y : Flow). together (f x) y) (total-missing f xs u later e) ∙ together_missing (f x)
]

-- a total is missing only where one of it is
pub missing-total : (f : ℕ → Flow) (xs : List ℕ) → total_flow (map f xs) ≡ flow.Mv → (u : ℕ) × Contains xs u × (f u ≡ flow.Mv)
missing-total f [] e = cc e
missing-total f (x ∷ xs) e = elim (missing_of_two (f x) (total_flow (map f xs)) e) as (λ _. (u : ℕ) × Contains (x ∷ xs) u × (f u ≡ flow.Mv)) [
  | inl here ↦ (x, contains_first x xs, here)
  | inr there ↦ let r = missing-total f xs there in (r.0, contains_later x xs r.0 r.1, r.2)
]

-- ---- the cells that drain into another one

kept_front : (p : ℕ → Bool) (x : ℕ) (xs : List ℕ) (o : Bool) (u : ℕ) → Contains (filter p xs) u → Contains (cond o (x ∷ filter p xs) (filter p xs)) u
kept_front p x xs true u h = contains_later x (filter p xs) u h
kept_front p x xs false u h = h

passes_kept : (p : ℕ → Bool) (xs : List ℕ) (u : ℕ) → Contains xs u → p u ≡ true → Contains (filter p xs) u
passes_kept p [] u h e = absurd (omega (arith, h.1))
passes_kept p (x ∷ xs) u h e = elim (contains_cases x xs u h) as (λ _. Contains (filter p (x ∷ xs)) u) [
  | inl same ↦ subst (λ (o : Bool). Contains (cond o (x ∷ filter p xs) (filter p xs)) u) (sym (ap p (sym same) ∙ e)) (subst (λ (y : ℕ). Contains (x ∷ filter p xs) y) (sym same) (contains_first x (filter p xs)))
  | inr later ↦ kept_front p x xs (p x) u (passes_kept p xs u later e)
]

place_listed : (count u : ℕ) → u < count → Contains (range_with_len 0 count) u
place_listed count u low = (u, omega (arith, low, length-range_with_len 0 count), (let at = get_or-range_with_len 0 count u u low in omega (arith, at)))

-- a cell that drains into c is one of its tributaries
pub drains_tributary : (m : DrainMap) (c u : ℕ) → next_at m u ≡ next.Cell c → Contains (tributaries m c) u
drains_tributary m c u e =
    let low = directed_within m u (λ k. cc (k, e)) in
    passes_kept (λ v. drains_into c (next_at m v)) (range_with_len 0 (length m.codes)) u (place_listed (length m.codes) u low)
    (ap (drains_into c) e ∙ eq-eqb c c refl)

-- ---- steps

missing_up : (m : DrainMap) (values : ℕ → Cell) (c : ℕ) → total_flow (map (λ u. material (values u)) (tributaries m c)) ≡ flow.Mv →
    (u : ℕ) × IsLookedAt Upstream m c u × (values u ≡ cell.Mv)
missing_up m values c e =
    let r = missing-total (λ u. material (values u)) (tributaries m c) e in
    (r.0, tributary_drains m c r.0 r.1, material_missing (values r.0) r.2)

down_by : (m : DrainMap) (values : ℕ → Cell) (c : ℕ) (behind : List ℕ) → IsFollowedBy m c behind → material (values (drained_place c (next_at m c))) ≡ flow.Mv →
    (u : ℕ) × IsLookedAt Downstream m c u × (values u ≡ cell.Mv)
down_by m values c [] f e =
    (c, inr (f, refl), material_missing (values c) (ap (λ (n : Next). material (values (drained_place c n))) (sym f) ∙ e))
down_by m values c (d ∷ behind) f e =
    (d, inl f.0, material_missing (values d) (ap (λ (n : Next). material (values (drained_place c n))) (sym f.0) ∙ e))

step_missing : (o : NearOp) (m : DrainMap) (values : ℕ → Cell) → IsSound m → (c : ℕ) → near_flow o m values c ≡ flow.Mv →
    (next_at m c ≡ next.Missing) ⊎ ((u : ℕ) × IsLookedAt o m c u × (values u ≡ cell.Mv))
step_missing Upstream m values sound c e = inr (missing_up m values c e)
step_missing Downstream m values sound c e = elim (cases_directed m c) as (λ _. (next_at m c ≡ next.Missing) ⊎ ((u : ℕ) × IsLookedAt Downstream m c u × (values u ≡ cell.Mv))) [
  | inl directed ↦ let p : HasPath m c = sound c directed in inr (down_by m values c p.behind p.followed e)
  | inr gone ↦ inl gone
]

looked_missing : (o : NearOp) (m : DrainMap) (values : ℕ → Cell) (c u : ℕ) → IsLookedAt o m c u → values u ≡ cell.Mv → near_flow o m values c ≡ flow.Mv
looked_missing Upstream m values c u looked e = total-missing (λ v. material (values v)) (tributaries m c) u (drains_tributary m c u looked) (ap material e)
looked_missing Downstream m values c u (inl there) e =
    ap (λ (n : Next). material (values (drained_place c n))) there ∙ ap material e
looked_missing Downstream m values c u (inr own) e =
    ap (λ (n : Next). material (values (drained_place c n))) own.0 ∙ (ap (λ (y : ℕ). material (values y)) (sym own.1) ∙ ap material e)

step_outcome : (o : NearOp) (m : DrainMap) (values : ℕ → Cell) (c : ℕ) → (next_at m c ≡ next.Missing) ⊎ ((u : ℕ) × IsLookedAt o m c u × (values u ≡ cell.Mv)) →
    near_outcome o m values c ≡ Ok cell.Mv
unfolding near_outcome
step_outcome o m values c (inl gone) = ap (λ (n : Next). flow_outcome Scalar (where_directed n (near_flow o m values c))) gone
step_outcome o m values c (inr some) =
    ap (λ (f : Flow). flow_outcome Scalar (where_directed (next_at m c) f)) (looked_missing o m values c some.0 some.1 some.2)
    ∙ ap (flow_outcome Scalar) (missing_directed (next_at m c))

outcome_step : (o : NearOp) (m : DrainMap) (values : ℕ → Cell) → IsSound m → (c : ℕ) → near_outcome o m values c ≡ Ok cell.Mv →
    (next_at m c ≡ next.Missing) ⊎ ((u : ℕ) × IsLookedAt o m c u × (values u ≡ cell.Mv))
unfolding near_outcome
outcome_step o m values sound c e =
    let gone = flow_of_missing Scalar (where_directed (next_at m c) (near_flow o m values c)) e in
    elim (directed_missing (next_at m c) (near_flow o m values c) gone) as (λ _. (next_at m c ≡ next.Missing) ⊎ ((u : ℕ) × IsLookedAt o m c u × (values u ≡ cell.Mv))) [
      | inl none ↦ inl none
      | inr some ↦ step_missing o m values sound c some
    ]

-- a step is missing exactly where there is no direction, or a value that it looks at is missing
pub steps_missing : StepsAreMissing
steps_missing o m values sound c = (outcome_step o m values sound c, step_outcome o m values c)

-- a transport is missing where there is no direction
pub transports_missing : TransportsAreMissing
transports_missing t kind m a b c gone = ap (λ (n : Next). flow_outcome kind (where_directed n (end_of t m a b c).result)) gone
