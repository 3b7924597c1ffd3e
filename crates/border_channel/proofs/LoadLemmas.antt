-- Loads.
use Rattle.std.proofs.Common.{◌≡◌, ℕ, ◌+◌, ◌≤◌, List, [], ◌∷◌, length, map, refl, sym, ap, subst, ◌∙◌, arith, inl, inr, suc, zero}
use Rattle.std.specs.Prelude.{ℤ, pos, ◌+ℤ◌}
use Rattle.std.specs.List.{Contains, range_with_len}
use Rattle.std.proofs.lemmas.Int.{ints}
use Rattle.std.proofs.lemmas.List.FromFn.{length-range_with_len}
use Rattle.std.proofs.lemmas.List.Sums.{length-filter, count_by-le-length}
use Rattle.text_base.specs.Limits.{most_cells}
use Rattle.cell_values.specs.declared.cell.Cell.{Cell}
use Rattle.cell_values.specs.declared.cell.Cell.TheVariants as cell
use Rattle.cell_values.specs.declared.kind.Kind.TheVariants.{Scalar}
use Rattle.cell_values.specs.Kinds.{IsCell}
use Rattle.drain_meaning.specs.declared.end.FlowEnd.{FlowEnd}
use Rattle.drain_meaning.specs.declared.flow.Flow.{Flow}
use Rattle.drain_meaning.specs.declared.flow.Flow.TheVariants as flow
use Rattle.drain_meaning.specs.declared.next.Next.{Next}
use Rattle.drain_meaning.specs.declared.op.FlowOp.TheVariants as op
use Rattle.drain_meaning.specs.declared.op.Orient.{Orient}
use Rattle.drain_meaning.specs.declared.op.Orient.TheVariants.{Down, Up}
use Rattle.drain_meaning.specs.Accumulation.{holds_place, upstream_area}
use Rattle.drain_meaning.specs.Drains.{DrainMap, next_at}
use Rattle.drain_meaning.specs.Equations.{equation_of, transport_of}
use Rattle.drain_meaning.specs.Flows.{FlowFits, material, together, total_flow}
use Rattle.drain_meaning.specs.Paths.{IsDirected, IsFollowedBy, IsSound, path_of}
use Rattle.drain_meaning.specs.Rules.{Accumulator, RuleLaws, joined_all}
use Rattle.drain_meaning.specs.Sound.{IsDrain}
use Rattle.drain_meaning.specs.Transports.{Transport, end_of, feeders, outlet}
use Rattle.drain_meaning.proofs.Callers.{accuflux_by_paths, contains_cases, contains_first, contains_later, ends_meet, feeder_feeds, map_alike, path_of-is, path_short, steps_few, steps_to}
use Rattle.border_channel.specs.Loads.{load_of, load_together}

-- ---- how they add up

-- each cell has one unit of material
abbrev ones : ℕ → Cell
ones q = cell.Val (pos 1)

unit_total : (cells : List ℕ) → total_flow (map (λ q. material (ones q)) cells) ≡ flow.Num (pos (length cells))
unit_total [] = refl
unit_total (q ∷ cells) =
    ap (λ (y : Flow). together (flow.Num (pos 1)) y) (unit_total cells)
    ∙ ap (λ (y : ℤ). flow.Num y) (let e : (pos 1 +ℤ pos (length cells)) ≡ pos (suc (length cells)) = omega (arith, ints) in e)

-- the units that come to a cell are its load
units_come : (m : DrainMap) → IsSound m → (c : ℕ) → IsDirected m c → (end_of (transport_of op.Accuflux) m ones ones c).out ≡ flow.Num (pos (load_of Down m c))
unfolding load_of
units_come m sound c directed = ap (λ (e : FlowEnd). e.out) (accuflux_by_paths m ones ones sound c directed) ∙ unit_total (upstream_area m c)

loads_total : (m : DrainMap) (cells : List ℕ) → total_flow (map (λ u. flow.Num (pos (load_of Down m u))) cells) ≡ flow.Num (pos (load_together Down m cells))
loads_total m [] = refl
loads_total m (u ∷ cells) =
    ap (λ (y : Flow). together (flow.Num (pos (load_of Down m u))) y) (loads_total m cells)
    ∙ ap (λ (y : ℤ). flow.Num y) (let e : (pos (load_of Down m u) +ℤ pos (load_together Down m cells)) ≡ pos (load_of Down m u + load_together Down m cells) = omega (arith, ints) in e)

accu_meets : (m : DrainMap) → IsSound m → (c : ℕ) → IsDirected m c → (end_of (transport_of op.Accuflux) m ones ones c).out ≡ together (total_flow (map (λ u. (end_of (transport_of op.Accuflux) m ones ones u).out) (feeders Down m c))) (flow.Num (pos 1))
unfolding equation_of
accu_meets m sound c directed = ap (λ (e : FlowEnd). e.out) (ends_meet (transport_of op.Accuflux) m ones ones sound c directed)

load_down : (m : DrainMap) → IsSound m → (c : ℕ) → IsDirected m c → load_of Down m c ≡ load_together Down m (feeders Down m c) + 1
load_down m sound c directed =
    let flows = map_alike (λ u. (end_of (transport_of op.Accuflux) m ones ones u).out) (λ u. flow.Num (pos (load_of Down m u))) (feeders Down m c)
    (λ u h. units_come m sound u (feeder_feeds Down m sound c u directed h).directed) in
    let all : flow.Num (pos (load_of Down m c)) ≡ flow.Num (pos (load_together Down m (feeders Down m c)) +ℤ pos 1) =
    sym (units_come m sound c directed)
    ∙ (accu_meets m sound c directed
    ∙ ap (λ (y : Flow). together y (flow.Num (pos 1))) (ap total_flow flows ∙ loads_total m (feeders Down m c))) in
    let numbers : pos (load_of Down m c) ≡ (pos (load_together Down m (feeders Down m c)) +ℤ pos 1) = cc all in
    omega (arith, ints, numbers)

load_up_by : (m : DrainMap) → (c : ℕ) (behind : List ℕ) → IsFollowedBy m c behind → load_of Up m c ≡ load_together Up m (feeders Up m c) + 1
unfolding load_of feeders
load_up_by m c [] f =
    let one : length (path_of m c) ≡ 1 = ap length (path_of-is m c [] f) in
    let none : load_together Up m (outlet (next_at m c)) ≡ 0 = ap (λ (n : Next). load_together Up m (outlet n)) f in
    omega (arith, one, none)
load_up_by m c (d ∷ behind) f =
    let long : length (path_of m c) ≡ suc (suc (length behind)) = ap length (path_of-is m c (d ∷ behind) f) in
    let below : length (path_of m d) ≡ suc (length behind) = ap length (path_of-is m d behind f.1) in
    let fed : load_together Up m (outlet (next_at m c)) ≡ length (path_of m d) + 0 = ap (λ (n : Next). load_together Up m (outlet n)) f.0 in
    omega (arith, long, below, fed)

-- A cell has one more load than all that feed it together.
pub load_adds : (o : Orient) (m : DrainMap) → IsSound m → (c : ℕ) → IsDirected m c → load_of o m c ≡ load_together o m (feeders o m c) + 1
load_adds Down m sound c directed = load_down m sound c directed
load_adds Up m sound c directed = let p = sound c directed in load_up_by m c p.behind p.followed

-- No load is more than there are cells.
pub load_few : (o : Orient) (m : DrainMap) → IsSound m → (c : ℕ) → IsDirected m c → load_of o m c ≤ length m.codes
unfolding load_of
load_few Down m sound c directed =
    let test = λ (q : ℕ). holds_place c (path_of m q) in
    let places = range_with_len 0 (length m.codes) in
    omega (arith, length-filter test places, count_by-le-length test places, length-range_with_len 0 (length m.codes))
load_few Up m sound c directed =
    let p = sound c directed in
    let short = path_short m c p.behind p.followed in
    let long : length (path_of m c) ≡ suc (length p.behind) = ap length (path_of-is m c p.behind p.followed) in
    omega (arith, short, long)

pub loads_add_up : (o : Orient) (m : DrainMap) (c : ℕ) → IsDrain m → IsDirected m c → (load_of o m c ≡ load_together o m (feeders o m c) + 1) × (load_of o m c ≤ most_cells)
loads_add_up o m c drain directed =
    let few = load_few o m drain.sound c directed in
    (load_adds o m drain.sound c directed, omega (arith, few, drain.map.size, drain.map.few))

-- one of several loads is no more than all
pub load_within : (o : Orient) (m : DrainMap) (us : List ℕ) (u : ℕ) → Contains us u → load_of o m u ≤ load_together o m us
load_within o m [] u h = absurd (omega (arith, h.1))
load_within o m (v ∷ us) u h = elim (contains_cases v us u h) as (λ _. load_of o m u ≤ load_together o m (v ∷ us)) [
  | inl same ↦ let e : load_of o m u ≡ load_of o m v = ap (load_of o m) same in omega (arith, e)
  | inr later ↦ let rest = load_within o m us u later in omega (arith, rest)
]

-- ---- flows fit loads

joined_fits : {A : Type 0} (t : Transport) (rule : Accumulator A) → RuleLaws t rule → (m : DrainMap) (outs : ℕ → Flow) (us : List ℕ) → ((u : ℕ) → Contains us u → FlowFits (outs u) (load_of t.orient m u)) → load_together t.orient m us ≤ most_cells → rule.FitsLoad (joined_all rule (map outs us)) (load_together t.orient m us)
joined_fits t rule laws m outs [] fits few = laws.none_fits
joined_fits t rule laws m outs (u ∷ us) fits few =
    laws.joined_fits (rule.lifted (outs u)) (joined_all rule (map outs us)) (load_of t.orient m u) (load_together t.orient m us)
    (laws.lifted_fits (outs u) (load_of t.orient m u) (fits u (contains_first u us)))
    (joined_fits t rule laws m outs us (λ v h. fits v (contains_later u us v h)) (omega arith))
    (omega arith)

fits_after : {A : Type 0} (t : Transport) (rule : Accumulator A) → RuleLaws t rule → (m : DrainMap) (a b : ℕ → Cell) → IsDrain m → ((c : ℕ) → IsCell Scalar (a c)) → ((c : ℕ) → IsCell Scalar (b c)) →
    (k c : ℕ) → IsDirected m c → steps_to t.orient m c ≤ k → FlowFits (end_of t m a b c).out (load_of t.orient m c)
fits_after t rule laws m a b drain fa fb zero c directed few = let some = steps_few t.orient m drain.sound c directed in absurd (omega (arith, some.0))
fits_after t rule laws m a b drain fa fb (suc k) c directed few =
    let outs : (ℕ → Flow) = λ u. (end_of t m a b u).out in
    let add = loads_add_up t.orient m c drain directed in
    let fed = joined_fits t rule laws m outs (feeders t.orient m c)
    (λ u h. let feeds = feeder_feeds t.orient m drain.sound c u directed h in fits_after t rule laws m a b drain fa fb k u feeds.directed (omega (arith, feeds.fewer, few))) (omega (arith, add.0, add.1)) in
    let out = laws.out_fits (joined_all rule (map outs (feeders t.orient m c))) (a c) (b c) (load_together t.orient m (feeders t.orient m c)) fed (omega (arith, add.0, add.1)) (fa c) (fb c) in
    let is : rule.ended (joined_all rule (map outs (feeders t.orient m c))) (a c) (b c) ≡ end_of t m a b c =
    laws.means (map outs (feeders t.orient m c)) (a c) (b c) ∙ sym (ends_meet t m a b drain.sound c directed) in
    subst (λ (n : ℕ). FlowFits (end_of t m a b c).out n) (sym add.0) (subst (λ (e : FlowEnd). FlowFits e.out (load_together t.orient m (feeders t.orient m c) + 1)) is out)

-- What flows out of a cell on the whole map fits its load.
pub flows_fit : {A : Type 0} (t : Transport) (rule : Accumulator A) → RuleLaws t rule → (m : DrainMap) (a b : ℕ → Cell) → IsDrain m → ((c : ℕ) → IsCell Scalar (a c)) → ((c : ℕ) → IsCell Scalar (b c)) →
    (c : ℕ) → IsDirected m c → FlowFits (end_of t m a b c).out (load_of t.orient m c)
flows_fit t rule laws m a b drain fa fb c directed = fits_after t rule laws m a b drain fa fb (steps_to t.orient m c) c directed (omega arith)
