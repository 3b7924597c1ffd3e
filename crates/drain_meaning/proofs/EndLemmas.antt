-- The ends of a transport on a sound map.
use Rattle.std.proofs.Common.{◌≡◌, ◌⊎◌, inl, inr, ℕ, ◌-◌, ◌<◌, ◌≤◌, List, [], ◌∷◌, length, map, refl, sym, ap, ◌∙◌, arith, suc, zero, false}
use Rattle.std.specs.List.{Contains, range_with_len}
use Rattle.std.proofs.lemmas.Bool.Decides.{eqb_tells}
use Rattle.cell_values.specs.declared.cell.Cell.{Cell}
use Rattle.drain_meaning.specs.declared.end.FlowEnd.{FlowEnd}
use Rattle.drain_meaning.specs.declared.flow.Flow.{Flow}
use Rattle.drain_meaning.specs.declared.next.Next.{Next}
use Rattle.drain_meaning.specs.declared.next.Next.TheVariants as next
use Rattle.drain_meaning.specs.declared.op.Orient.{Orient}
use Rattle.drain_meaning.specs.declared.op.Orient.TheVariants.{Down, Up}
use Rattle.cell_values.specs.declared.kind.Kind.{Kind}
use Rattle.drain_meaning.specs.Drains.{DrainMap, IsDrainMap, next_at}
use Rattle.drain_meaning.specs.Flows.{flow_outcome}
use Rattle.drain_meaning.specs.Paths.{IsDirected, IsSound, path_of}
use Rattle.drain_meaning.specs.Transports.{AreEnds, Transport, drains_into, end_after, end_of, feeders, outlet, transport_outcome, tributaries, where_directed}
use Rattle.drain_meaning.proofs.MapLemmas.{directed_within, next_inside}
use Rattle.drain_meaning.proofs.PathLemmas.{next_directed, path_of-is, path_short}
use Rattle.drain_meaning.proofs.SumLemmas.{contains_cases, kept_passes, map_alike}

-- A test that says that a cell drains into c is right.
pub drains_tells : (n : Next) (c : ℕ) → (n ≡ next.Cell c) ⊎ (drains_into c n ≡ false)
drains_tells next.Pit c = inr refl
drains_tells (next.Cell d) c = elim (eqb_tells d c) as (λ _. (next.Cell d ≡ next.Cell c) ⊎ (drains_into c (next.Cell d) ≡ false)) [ inl b ↦ inl (ap (λ (y : ℕ). next.Cell y) b.1) | inr b ↦ inr b.0 ]
drains_tells next.Outside c = inr refl
drains_tells next.Missing c = inr refl

-- A tributary drains into the cell.
pub tributary_drains : (m : DrainMap) (c u : ℕ) → Contains (tributaries m c) u → next_at m u ≡ next.Cell c
tributary_drains m c u h =
    let passes = kept_passes (λ v. drains_into c (next_at m v)) (range_with_len 0 (length m.codes)) u h in
    elim (drains_tells (next_at m u) c) as (λ _. next_at m u ≡ next.Cell c) [ inl b ↦ b | inr b ↦ absurd (cc (b, passes.0)) ]

-- The outlet of a cell is what it drains into.
pub outlet_is : (n : Next) (d : ℕ) → Contains (outlet n) d → n ≡ next.Cell d
outlet_is (next.Cell e) d h = elim (contains_cases e [] d h) as (λ _. next.Cell e ≡ next.Cell d) [ inl same ↦ ap (λ (y : ℕ). next.Cell y) (sym same) | inr none ↦ absurd (omega (arith, none.1)) ]
outlet_is next.Pit d h = absurd (omega (arith, h.1))
outlet_is next.Outside d h = absurd (omega (arith, h.1))
outlet_is next.Missing d h = absurd (omega (arith, h.1))

-- how many steps flow has come to a cell at most
abbrev pub steps_to : Orient → DrainMap → ℕ → ℕ
steps_to Down m c = suc (length m.codes) - length (path_of m c)
steps_to Up m c = length (path_of m c)

-- The path of a cell that drains into another is one cell longer.
longer_path : (m : DrainMap) → IsSound m → (u c : ℕ) → IsDirected m c → next_at m u ≡ next.Cell c → length (path_of m u) ≡ suc (length (path_of m c))
longer_path m sound u c directed e =
    let p = sound c directed in
    let one = path_of-is m c p.behind p.followed in
    let two = path_of-is m u (c ∷ p.behind) (e, p.followed) in
    ap length two ∙ ap (λ (y : List ℕ). suc (length y)) (sym one)

-- A path has a cell, and no more than there are.
path_bounds : (m : DrainMap) → IsSound m → (c : ℕ) → IsDirected m c → (1 ≤ length (path_of m c)) × (length (path_of m c) ≤ length m.codes)
path_bounds m sound c directed =
    let p = sound c directed in
    let same : length (path_of m c) ≡ suc (length p.behind) = ap length (path_of-is m c p.behind p.followed) in
    let short = path_short m c p.behind p.followed in
    (omega (arith, same), omega (arith, same, short))

-- a cell that feeds another has a direction, and flow has come to it over fewer steps
pub record Feeds (o : Orient) (m : DrainMap) (u c : ℕ) : Type 0 where
  pub directed : IsDirected m u
  pub fewer : steps_to o m u < steps_to o m c

-- What feeds a cell with a direction has one.
pub feeder_feeds : (o : Orient) (m : DrainMap) → IsSound m → (c u : ℕ) → IsDirected m c → Contains (feeders o m c) u → Feeds o m u c
unfolding feeders
feeder_feeds Down m sound c u directed h =
    let e = tributary_drains m c u h in
    let mine : IsDirected m u = λ k. cc (k, e) in
    let long = longer_path m sound u c directed e in
    let one = path_bounds m sound u mine in
    record { directed = mine; fewer = omega (arith, long, one.0, one.1) }
feeder_feeds Up m sound c u directed h =
    let e = outlet_is (next_at m c) u h in
    let theirs = next_directed m c u (sound c directed) e in
    record { directed = theirs; fewer = omega (arith, longer_path m sound c u theirs e) }

-- Flow comes over a step at least, and over no more steps than there are cells.
pub steps_few : (o : Orient) (m : DrainMap) → IsSound m → (c : ℕ) → IsDirected m c → (1 ≤ steps_to o m c) × (steps_to o m c ≤ length m.codes)
steps_few Down m sound c directed = let b = path_bounds m sound c directed in (omega (arith, b.0, b.1), omega (arith, b.0, b.1))
steps_few Up m sound c directed = path_bounds m sound c directed

-- Ends that meet the equation are those after enough steps.
pub ends_agree : (t : Transport) (m : DrainMap) (a b : ℕ → Cell) (ends : ℕ → FlowEnd) → IsSound m → AreEnds t m a b ends → (k c : ℕ) → IsDirected m c → steps_to t.orient m c ≤ k → end_after t m a b k c ≡ ends c
ends_agree t m a b ends sound are zero c directed few = let some = steps_few t.orient m sound c directed in absurd (omega (arith, some.0))
ends_agree t m a b ends sound are (suc k) c directed few =
    let same = map_alike (λ u. (end_after t m a b k u).out) (λ u. (ends u).out) (feeders t.orient m c) (λ u h.
    let feeds = feeder_feeds t.orient m sound c u directed h in
    ap (λ (y : FlowEnd). y.out) (ends_agree t m a b ends sound are k u feeds.directed (omega (arith, feeds.fewer)))) in
    ap (λ (y : List Flow). t.equation y (a c) (b c)) same ∙ sym (are c directed)

-- Any two numbers of steps that are enough give the same end.
enough_steps : (t : Transport) (m : DrainMap) (a b : ℕ → Cell) → IsSound m → (k l c : ℕ) → IsDirected m c → steps_to t.orient m c ≤ k → steps_to t.orient m c ≤ l → end_after t m a b k c ≡ end_after t m a b l c
enough_steps t m a b sound zero l c directed one two = let some = steps_few t.orient m sound c directed in absurd (omega (arith, some.0))
enough_steps t m a b sound (suc k) zero c directed one two = let some = steps_few t.orient m sound c directed in absurd (omega (arith, some.0))
enough_steps t m a b sound (suc k) (suc l) c directed one two =
    ap (λ (y : List Flow). t.equation y (a c) (b c)) (map_alike (λ u. (end_after t m a b k u).out) (λ u. (end_after t m a b l u).out) (feeders t.orient m c) (λ u h.
    let feeds = feeder_feeds t.orient m sound c u directed h in
    ap (λ (y : FlowEnd). y.out) (enough_steps t m a b sound k l u feeds.directed (omega (arith, feeds.fewer)) (omega (arith, feeds.fewer)))))

-- On a sound map the ends are those of the transport.
pub ends_meet : (t : Transport) (m : DrainMap) (a b : ℕ → Cell) → IsSound m → AreEnds t m a b (end_of t m a b)
unfolding end_of
ends_meet t m a b sound c directed =
    let few = steps_few t.orient m sound c directed in
    enough_steps t m a b sound (length m.codes) (suc (length m.codes)) c directed few.1 (omega (arith, few.1))

-- There are no other ends.
pub ends_unique : (t : Transport) (m : DrainMap) (a b : ℕ → Cell) (ends : ℕ → FlowEnd) → IsSound m → AreEnds t m a b ends → (c : ℕ) → IsDirected m c → end_of t m a b c ≡ ends c
unfolding end_of
ends_unique t m a b ends sound are c directed =
    let few = steps_few t.orient m sound c directed in
    ends_agree t m a b ends sound are (length m.codes) c directed few.1

-- ---- operands that are alike

-- The cells that feed a cell are in the map.
pub feeder_within : (o : Orient) (m : DrainMap) → IsDrainMap m → (c u : ℕ) → Contains (feeders o m c) u → u < length m.codes
unfolding feeders
feeder_within Down m is c u h = let e = tributary_drains m c u h in directed_within m u (λ k. cc (k, e))
feeder_within Up m is c u h = next_inside m is c u (outlet_is (next_at m c) u h)

-- Operands that the equation takes alike in each cell of the map give the same ends.
pub ends_alike : (t : Transport) (m : DrainMap) (a b x y : ℕ → Cell) → IsDrainMap m → ((inflows : List Flow) (c : ℕ) → c < length m.codes → t.equation inflows (a c) (b c) ≡ t.equation inflows (x c) (y c)) →
    (steps c : ℕ) → c < length m.codes → end_after t m a b steps c ≡ end_after t m x y steps c
ends_alike t m a b x y is alike zero c within = refl
ends_alike t m a b x y is alike (suc steps) c within =
    ap (λ (flows : List Flow). t.equation flows (a c) (b c)) (map_alike (λ u. (end_after t m a b steps u).out) (λ u. (end_after t m x y steps u).out) (feeders t.orient m c) (λ u h.
    ap (λ (e : FlowEnd). e.out) (ends_alike t m a b x y is alike steps u (feeder_within t.orient m is c u h))))
    ∙ alike (map (λ u. (end_after t m x y steps u).out) (feeders t.orient m c)) c within

-- So they give the same outcomes.
pub outcomes_alike : (t : Transport) (kind : Kind) (m : DrainMap) (a b x y : ℕ → Cell) → IsDrainMap m → ((inflows : List Flow) (c : ℕ) → c < length m.codes → t.equation inflows (a c) (b c) ≡ t.equation inflows (x c) (y c)) →
    (c : ℕ) → c < length m.codes → transport_outcome t kind m a b c ≡ transport_outcome t kind m x y c
unfolding end_of
outcomes_alike t kind m a b x y is alike c within =
    ap (λ (e : FlowEnd). flow_outcome kind (where_directed (next_at m c) e.result)) (ends_alike t m a b x y is alike (length m.codes) c within)
