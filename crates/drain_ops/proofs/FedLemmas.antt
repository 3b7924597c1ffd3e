-- What comes to the cells of a rectangle's map, cell by cell.
use Rattle.std.proofs.Common.{◌≡◌, inl, inr, ℕ, ◌+◌, ◌<◌, List, [], ◌∷◌, ◌++◌, length, map, sym, ap, subst, ◌∙◌, arith, get_or, get_or-set_same, get_or-set_other, Bool, true, false, zero, suc}
use Rattle.std.specs.List.{Contains, range_with_len}
use Rattle.std.specs.Prelude.{if◌then◌else◌}
use Rattle.std.proofs.Math.ListN.{set}
use Rattle.std.proofs.lemmas.List.{get_or_append_left, get_or_push}
use Rattle.drain_meaning.specs.Sums.{accu_rule}
use Rattle.drain_ops.proofs.Gathered.{IsApart, apart_range, gathered, gathered_same, in_range, joined_all-filter, of_range}
use Rattle.std.proofs.lemmas.Bool.{cases_eq}
use Rattle.std.proofs.lemmas.Int.{ints}
use Rattle.cell_values.specs.declared.cell.Cell.{Cell}
use Rattle.cell_values.specs.declared.cell.Cell.TheVariants as cell
use Rattle.cell_values.specs.declared.kind.Kind.TheVariants.{Scalar}
use Rattle.cell_values.specs.Kinds.{IsCell}
use Rattle.drain_meaning.specs.declared.flow.Flow.{Flow}
use Rattle.drain_meaning.specs.declared.flow.Flow.TheVariants as flow
use Rattle.drain_meaning.specs.declared.next.Next.TheVariants as next
use Rattle.drain_meaning.specs.Drains.{DrainMap, next_at}
use Rattle.drain_meaning.specs.Flows.{FlowFits, material, nothing, together}
use Rattle.drain_meaning.specs.declared.op.FlowOp.TheVariants as op
use Rattle.drain_meaning.specs.Equations.{passing, transport_of}
use Rattle.drain_meaning.specs.Near.{upstream_of}
use Rattle.drain_meaning.specs.Transports.{drains_into, tributaries}
use Rattle.drain_meaning.specs.inside.SumLaws.{accu_laws, joined_all-adding, together_unit}
use Rattle.drain_meaning.proofs.Callers.{contains_cases, contains_first, contains_later, drains_tells}
use Rattle.drain_ops.proofs.Loads.{drains_true}
use Rattle.drain_ops.specs.inside.Cutout.{fed}

-- what one cell gives fits a load of one
pub material_one : (a : Cell) → IsCell Scalar a → FlowFits (material a) 1
material_one cell.Mv g = tt
material_one (cell.Val z) g = (omega (arith, ints, g.least, g.greatest), omega (arith, ints, g.least, g.greatest))

-- nothing comes from a cell that drains elsewhere
pub fed_nothing : (m : DrainMap) (values : ℕ → Cell) (d u : ℕ) → drains_into d (next_at m u) ≡ false → fed m values d u ≡ nothing
fed_nothing m values d u e = rw e

-- a cell gives its value to the one that it drains into
pub fed_same : (m : DrainMap) (values : ℕ → Cell) (d u : ℕ) → next_at m u ≡ next.Cell d → fed m values d u ≡ material (values u)
fed_same m values d u e = rw (drains_true (next_at m u) d e)

-- after the turn of a cell that drains into `down`
pub came_set : (m : DrainMap) (values : ℕ → Cell) (flows : List Flow) (u down : ℕ) (f : Flow) → down < length flows → next_at m u ≡ next.Cell down → f ≡ material (values u) →
    (d : ℕ) → get_or (set flows down (together (get_or flows down nothing) f)) d nothing ≡ together (get_or flows d nothing) (fed m values d u)
came_set m values flows u down f low e is d = elim (cases_eq d down) as (λ _. get_or (set flows down (together (get_or flows down nothing) f)) d nothing ≡ together (get_or flows d nothing) (fed m values d u)) [
  | inl same ↦
      subst (λ (y : ℕ). get_or (set flows down (together (get_or flows down nothing) f)) y nothing ≡ together (get_or flows y nothing) (fed m values y u)) (sym same)
      (get_or-set_same flows down (together (get_or flows down nothing) f) nothing low ∙ ap (λ (y : Flow). together (get_or flows down nothing) y) (is ∙ sym (fed_same m values down u e)))
  | inr other ↦
      let none : fed m values d u ≡ nothing = elim (drains_tells (next_at m u) d) as (λ _. fed m values d u ≡ nothing) [ inl b ↦ absurd (other (let k : down ≡ d = cc (e, b) in sym k)) | inr b ↦ fed_nothing m values d u b ] in
      get_or-set_other flows down d (together (get_or flows down nothing) f) nothing other ∙ (sym (together_unit (get_or flows d nothing)) ∙ ap (λ (y : Flow). together (get_or flows d nothing) y) (sym none))
]

-- what comes of two flows fits both loads
one_more_fits : (x y : Flow) (n : ℕ) → FlowFits x n → FlowFits y 1 → FlowFits (together x y) (n + 1)
one_more_fits flow.Mv y n f g = tt
one_more_fits (flow.Num x) flow.Mv n f g = tt
one_more_fits (flow.Num x) (flow.Num y) n f g = (omega (arith, ints, f.0, g.0), omega (arith, ints, f.1, g.1))

fed_fits : (o : Bool) (a : Cell) → IsCell Scalar a → FlowFits (if o then material a else nothing) 1
fed_fits true a g = material_one a g
fed_fits false a g = (omega (arith, ints), omega (arith, ints))

-- a flow to which one more cell has given fits one cell more
pub fits_more : (m : DrainMap) (values : ℕ → Cell) (d u : ℕ) (x y : Flow) → IsCell Scalar (values u) → FlowFits x u → y ≡ together x (fed m values d u) → FlowFits y (u + 1)
fits_more m values d u x y g f e = subst (λ (z : Flow). FlowFits z (u + 1)) (sym e) (one_more_fits x (fed m values d u) u f (fed_fits (drains_into d (next_at m u)) (values u) g))

-- the first places, the last one first
abbrev pub down_to : ℕ → List ℕ
down_to zero = []
down_to (suc n) = n ∷ down_to n

-- what has come to the cells when so many have had their turns
pub record HasCome (m : DrainMap) (values : ℕ → Cell) (flows : List Flow) (n : ℕ) : Type 0 where
  pub many : length flows ≡ length m.codes
  pub came : (d : ℕ) → get_or flows d nothing ≡ gathered accu_rule (fed m values d) (down_to n)
  pub fit : (d : ℕ) → FlowFits (get_or flows d nothing) n

-- before the first turn nothing has come
pub come_first : (m : DrainMap) (values : ℕ → Cell) (flows : List Flow) → length flows ≡ length m.codes → ((d : ℕ) → get_or flows d nothing ≡ nothing) → HasCome m values flows 0
come_first m values flows many none = record { many = many; came = none; fit = λ d. subst (λ (z : Flow). FlowFits z 0) (sym (none d)) (omega (arith, ints), omega (arith, ints)) }

-- one more turn
pub come_more : (m : DrainMap) (values : ℕ → Cell) (old new : List Flow) (n : ℕ) → HasCome m values old n → length new ≡ length old → ((d : ℕ) → get_or new d nothing ≡ together (get_or old d nothing) (fed m values d n)) → ((d : ℕ) → FlowFits (get_or new d nothing) (n + 1)) → HasCome m values new (n + 1)
come_more m values old new n h many came fit = record {
  many = many ∙ h.many;
  came = λ d. came d ∙ (ap (λ (y : Flow). together y (fed m values d n)) (h.came d) ∙ ap (λ (k : ℕ). gathered accu_rule (fed m values d) (down_to k)) (let e : suc n ≡ n + 1 = omega arith in e));
  fit = fit;
}

-- what comes to a cell is what each cell of the map gives to it
pub upstream-gathered : (m : DrainMap) (values : ℕ → Cell) (d : ℕ) → upstream_of m values d ≡ gathered accu_rule (fed m values d) (range_with_len 0 (length m.codes))
upstream-gathered m values d =
    sym (joined_all-adding (λ inflow a b. passing (together inflow (material a))) (map (λ u. material (values u)) (tributaries m d)))
    ∙ joined_all-filter (transport_of op.Accuflux) accu_rule accu_laws (λ u. drains_into d (next_at m u)) (λ u. material (values u)) (range_with_len 0 (length m.codes))

-- the first places, the last one first, are just those places, each once
below_down_to : (n u : ℕ) → Contains (down_to n) u → u < n
below_down_to zero u h = absurd (omega (arith, h.1))
below_down_to (suc n) u h = elim (contains_cases n (down_to n) u h) as (λ _. u < suc n) [ inl e ↦ omega (arith, e) | inr k ↦ let low = below_down_to n u k in omega (arith, low) ]

in_down_to : (n u : ℕ) → u < n → Contains (down_to n) u
in_down_to zero u h = absurd (omega arith)
in_down_to (suc n) u h = elim (cases_eq u n) as (λ _. Contains (down_to (suc n)) u) [
  | inl e ↦ subst (λ (y : ℕ). Contains (down_to (suc n)) y) (sym e) (contains_first n (down_to n))
  | inr other ↦ contains_later n (down_to n) u (in_down_to n u (omega arith))
]

apart_down_to : (n : ℕ) → IsApart (down_to n)
apart_down_to zero = tt
apart_down_to (suc n) = ((λ h. let low = below_down_to n n h in omega (arith, low)), apart_down_to n)

-- when all have had their turns, what is upstream has come to each
pub come_all : (m : DrainMap) (values : ℕ → Cell) (flows : List Flow) → HasCome m values flows (length m.codes) → (d : ℕ) → get_or flows d nothing ≡ upstream_of m values d
come_all m values flows h d =
    let n : ℕ = length m.codes in
    h.came d
    ∙ (sym (gathered_same (transport_of op.Accuflux) accu_rule accu_laws (fed m values d) (range_with_len 0 n) (down_to n) (apart_range n) (apart_down_to n)
    (λ u k. in_range n u (below_down_to n u k))
    (λ u k out. absurd (out (in_down_to n u (of_range n u k)))))
    ∙ sym (upstream-gathered m values d))

-- the flows of one more place
pub each_more : (flows : List Flow) (f : Flow) (value : ℕ → Flow) (n : ℕ) → length flows ≡ n → ((d : ℕ) → d < n → get_or flows d nothing ≡ value d) → f ≡ value n → (d : ℕ) → d < n + 1 → get_or (flows ++ f ∷ []) d nothing ≡ value d
each_more flows f value n many each is d low = elim (cases_eq d n) as (λ _. get_or (flows ++ f ∷ []) d nothing ≡ value d) [
  | inl same ↦ get_or_push flows f nothing d (many ∙ sym same) ∙ (is ∙ ap value (sym same))
  | inr other ↦ get_or_append_left flows (f ∷ []) nothing d (omega arith) ∙ each d (omega arith)
]
