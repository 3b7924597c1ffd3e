-- A flow comes to a cell.
use Rattle.std.proofs.Common.{◌≡◌, ◌≢◌, ◌⊎◌, ℕ, ◌-◌, ◌<◌, ◌≤◌, List, [], ◌∷◌, ◌++◌, length, refl, sym, ap, subst, ◌∙◌, arith, inl, inr, Bool, true, false, get_or-set_same, get_or-set_other}
use Rattle.std.specs.Prelude.{if◌then◌else◌, not, ◌==◌, ◌&&◌, ◌||◌}
use Rattle.std.specs.List.{Contains}
use Rattle.std.proofs.Math.ListN.{length-set}
use Rattle.std.proofs.lemmas.Bool.{and_from, and_parts, cases_eq, eq-eqb, or_cases}
use Rattle.std.proofs.lemmas.Bool.Decides.{eqb_tells}
use Rattle.std.proofs.lemmas.List.Elements.{Contains-append_cases, Contains-append_left, Contains-append_right}
use Rattle.text_base.specs.Limits.{most_cells}
use Rattle.drain_meaning.specs.declared.flow.Flow.{Flow}
use Rattle.drain_meaning.specs.Flows.{FlowFits}
use Rattle.drain_meaning.specs.Rules.{Accumulator, RuleLaws}
use Rattle.drain_meaning.specs.Transports.{Transport, feeders}
use Rattle.drain_meaning.proofs.Callers.{cases_directed, contains_cases, contains_first, contains_later}
use Rattle.tile_map.proofs.Callers.{number_in-place_in, tile_in_map}
use Rattle.border_channel.specs.Laws.{IsTileOf}
use Rattle.border_channel.specs.Loads.{load_of, load_together}
use Rattle.border_channel.specs.TileFlows.{TileFlow}
use Rattle.border_channel.proofs.Callers.{feeders_apart}
use Rattle.border_channel.proofs.Callers.{Apart}
use Rattle.border_channel.proofs.Callers.{loads_add_up}
use Rattle.border_channel.proofs.Callers.{no_feeders}
use Rattle.flow_task.specs.inside.States.{CanPass, CanReceive, State, inflow_at, missing_at, passed_on, queued, received}
use Rattle.flow_task.specs.inside.Underway.{Counted, Distinct, came, flow_into, joined_over, cell_number, cell_place, passing_many, tile_size}
use Rattle.flow_task.proofs.Counting.{distinct_few, distinct_push, gathered_alike, gathered_fits, gathered_more, load_where, load_where_beside, tally_alike, tally_less, tally_some}

-- ---- small things

pub distinct_from : (xs : List ℕ) → Apart xs → Distinct xs
distinct_from [] a = tt
distinct_from (x ∷ xs) a = (a.0, distinct_from xs a.1)

eqb_false : (a b : ℕ) → a ≢ b → (a == b) ≡ false
eqb_false a b ne = elim (eqb_tells a b) as (λ _. (a == b) ≡ false) [ inl t ↦ absurd (ne t.1) | inr t ↦ t.0 ]

pub eqb_same : (a b : ℕ) → (a == b) ≡ true → a ≡ b
eqb_same a b e = elim (eqb_tells a b) as (λ _. a ≡ b) [ inl t ↦ t.1 | inr t ↦ cc (e, t.0) ]

-- two cells of the tile at one place are one
pub place_once : (w : TileFlow) → IsTileOf w → (i j : ℕ) → i < tile_size w → j < tile_size w → cell_place w i ≡ cell_place w j → i ≡ j
place_once w is i j low high same =
    let in_map = (tile_in_map w.tiling w.tile is.tile).0 in
    sym (number_in-place_in w.tiling.rows w.tiling.cols _ i in_map low)
    ∙ (ap (cell_number w) same ∙ number_in-place_in w.tiling.rows w.tiling.cols _ j in_map high)

no_more : (xs : List ℕ) → ((u : ℕ) → Contains xs u → ⊥) → xs ≡ []
no_more [] e = refl
no_more (x ∷ xs) e = absurd (e x (contains_first x xs))

-- the cells that feed one have together less than the cells of a map
pub feeders_few : (t : Transport) (w : TileFlow) → IsTileOf w → (c : ℕ) → load_together t.orient w.drain (feeders t.orient w.drain c) < most_cells
feeders_few t w is c = elim (cases_directed w.drain c) as (λ _. load_together t.orient w.drain (feeders t.orient w.drain c) < most_cells) [
  | inl directed ↦ let add = loads_add_up t.orient w.drain c is.drain directed in omega (arith, add.0, add.1)
  | inr missing ↦
      let none : feeders t.orient w.drain c ≡ [] = no_more (feeders t.orient w.drain c) (λ u h. no_feeders t.orient w.drain is.drain.sound c u missing h) in
      let sum : load_together t.orient w.drain (feeders t.orient w.drain c) ≡ 0 = ap (load_together t.orient w.drain) none in
      omega (arith, sum)
]

-- ---- one more pair

-- the flow of u has come to c as well
abbrev pub also : (ℕ → ℕ → Bool) → ℕ → ℕ → ℕ → ℕ → Bool
also come u c x y = come x y || ((x == u) && (y == c))

or_right : (a b : Bool) → b ≡ true → (a || b) ≡ true
or_right true b e = refl
or_right false b e = e

or_left : (a b : Bool) → b ≡ false → (a || b) ≡ a
or_left true b e = refl
or_left false b e = e

and_none : (a b : Bool) → b ≡ false → (a && b) ≡ false
and_none true b e = e
and_none false b e = refl

and_first : (a b : Bool) → a ≡ false → (a && b) ≡ false
and_first true b e = cc e
and_first false b e = refl

pub also_here : (come : ℕ → ℕ → Bool) (u c : ℕ) → also come u c u c ≡ true
also_here come u c = or_right (come u c) ((u == u) && (c == c)) (and_from (u == u) (c == c) (eq-eqb u u refl) (eq-eqb c c refl))

pub also_other : (come : ℕ → ℕ → Bool) (u c x y : ℕ) → y ≢ c → also come u c x y ≡ come x y
also_other come u c x y ne = or_left (come x y) ((x == u) && (y == c)) (and_none (x == u) (y == c) (eqb_false y c ne))

pub also_else : (come : ℕ → ℕ → Bool) (u c x y : ℕ) → x ≢ u → also come u c x y ≡ come x y
also_else come u c x y ne = or_left (come x y) ((x == u) && (y == c)) (and_first (x == u) (y == c) (eqb_false x u ne))

-- ---- a flow comes

-- what is known where the flow of u comes to the cell i
pub record Comes {A : Type 0} (t : Transport) (rule : Accumulator A) (w : TileFlow) (come : ℕ → ℕ → Bool) (i u : ℕ) (flow : Flow) : Type 0 where
  pub low : i < tile_size w
  pub feeds : Contains (feeders t.orient w.drain (cell_place w i)) u
  pub not_yet : come u (cell_place w i) ≡ false
  pub is : flow ≡ flow_into t w (cell_place w i) u
  pub fits : FlowFits flow (load_of t.orient w.drain u)

missing_some : {A : Type 0} (t : Transport) (rule : Accumulator A) (w : TileFlow) (come : ℕ → ℕ → Bool) (s : State A) (i u : ℕ) (flow : Flow) → Counted t rule w come s → Comes t rule w come i u flow → 0 < missing_at s i
missing_some t rule w come s i u flow counted comes =
    let some = tally_some (λ x. not (come x (cell_place w i))) (feeders t.orient w.drain (cell_place w i)) u comes.feeds (ap not comes.not_yet) in
    omega (arith, some, counted.missing i comes.low)

-- a cell to which something is missing is not queued
not_queued : {A : Type 0} (t : Transport) (rule : Accumulator A) (w : TileFlow) (come : ℕ → ℕ → Bool) (s : State A) (i : ℕ) → Counted t rule w come s → 0 < missing_at s i → Contains s.queue i → ⊥
not_queued t rule w come s i counted some on = let none = (counted.waits i on).1 in omega (arith, some, none)

pub can_receive : {A : Type 0} (t : Transport) (rule : Accumulator A) → RuleLaws t rule → (w : TileFlow) → IsTileOf w → (come : ℕ → ℕ → Bool) (s : State A) (i u : ℕ) (flow : Flow) (room : ℕ) → Counted t rule w come s → Comes t rule w come i u flow → tile_size w ≤ room →
    CanReceive rule s i flow room
can_receive {A = A} t rule laws w is come s i u flow room counted comes wide =
    let fs = feeders t.orient w.drain (cell_place w i) in
    let few = feeders_few t w is (cell_place w i) in
    let some = missing_some t rule w come s i u flow counted comes in
    let fits = gathered_fits t rule laws w.drain (λ x. come x (cell_place w i)) (flow_into t w (cell_place w i)) fs (λ x h e. counted.fits i x comes.low h e) (omega (arith, few)) in
    let beside = load_where_beside t.orient w.drain (λ x. come x (cell_place w i)) fs u comes.feeds comes.not_yet in
    record {
      inflow_within = omega (arith, comes.low, counted.inflows_many);
      missing_within = omega (arith, comes.low, counted.missing_many);
      fit = (
        load_where t.orient w.drain (λ x. come x (cell_place w i)) fs,
        load_of t.orient w.drain u,
        omega (arith, beside, few),
        subst (λ (y : A). rule.FitsLoad y (load_where t.orient w.drain (λ x. come x (cell_place w i)) fs)) (sym (counted.inflow i comes.low)) fits,
        laws.lifted_fits flow (load_of t.orient w.drain u) comes.fits,
      );
      some = some;
      room_left = λ one.
          let fewer = distinct_few (i ∷ s.queue) (tile_size w) ((not_queued t rule w come s i counted some), counted.apart)
          (λ x h. elim (contains_cases i s.queue x h) as (λ _. x < tile_size w) [ inl same ↦ omega (arith, same, comes.low) | inr on ↦ (counted.waits x on).0 ]) in
          omega (arith, fewer, wide);
    }

-- the queue after a flow has come
queued_one : (queue : List ℕ) (missed cell : ℕ) → missed ≡ 1 → queued queue missed cell ≡ queue ++ cell ∷ []
queued_one queue missed cell e = let t : (missed == 1) ≡ true = eq-eqb missed 1 e in rw t refl

queued_more : (queue : List ℕ) (missed cell : ℕ) → missed ≢ 1 → queued queue missed cell ≡ queue
queued_more queue missed cell ne = let t : (missed == 1) ≡ false = eqb_false missed 1 ne in rw t refl

queued_has : (queue : List ℕ) (missed cell x : ℕ) → Contains queue x → Contains (queued queue missed cell) x
queued_has queue missed cell x on = elim (cases_eq missed 1) as (λ _. Contains (queued queue missed cell) x) [
  | inl e ↦ subst (λ (q : List ℕ). Contains q x) (sym (queued_one queue missed cell e)) (Contains-append_left queue (cell ∷ []) x on)
  | inr ne ↦ subst (λ (q : List ℕ). Contains q x) (sym (queued_more queue missed cell ne)) on
]

queued_is : (queue : List ℕ) (missed cell x : ℕ) → Contains (queued queue missed cell) x → Contains queue x ⊎ ((missed ≡ 1) × (x ≡ cell))
queued_is queue missed cell x on = elim (cases_eq missed 1) as (λ _. Contains queue x ⊎ ((missed ≡ 1) × (x ≡ cell))) [
  | inl e ↦ elim (Contains-append_cases queue (cell ∷ []) x (subst (λ (q : List ℕ). Contains q x) (queued_one queue missed cell e) on)) as (λ _. Contains queue x ⊎ ((missed ≡ 1) × (x ≡ cell))) [
    | inl k ↦ inl k
    | inr k ↦ elim (contains_cases cell [] x k) as (λ _. Contains queue x ⊎ ((missed ≡ 1) × (x ≡ cell))) [ inl same ↦ inr (e, same) | inr none ↦ absurd (omega (arith, none.1)) ]
  ]
  | inr ne ↦ inl (subst (λ (q : List ℕ). Contains q x) (queued_more queue missed cell ne) on)
]

queued_apart : (queue : List ℕ) (missed cell : ℕ) → Distinct queue → (Contains queue cell → ⊥) → Distinct (queued queue missed cell)
queued_apart queue missed cell apart out = elim (cases_eq missed 1) as (λ _. Distinct (queued queue missed cell)) [
  | inl e ↦ subst (λ (q : List ℕ). Distinct q) (sym (queued_one queue missed cell e)) (distinct_push queue cell apart out)
  | inr ne ↦ subst (λ (q : List ℕ). Distinct q) (sym (queued_more queue missed cell ne)) apart
]

-- what has come where one more pair has
came_other : {A : Type 0} (t : Transport) (rule : Accumulator A) (w : TileFlow) (come other : ℕ → ℕ → Bool) (c x : ℕ) → other x c ≡ come x c → came t rule w other c x ≡ came t rule w come c x
came_other t rule w come other c x e = ap (λ (o : Bool). if o then rule.lifted (flow_into t w c x) else rule.none) e

came_yes : {A : Type 0} (t : Transport) (rule : Accumulator A) (w : TileFlow) (come : ℕ → ℕ → Bool) (c x : ℕ) → come x c ≡ true → came t rule w come c x ≡ rule.lifted (flow_into t w c x)
came_yes t rule w come c x e = rw e refl

came_no : {A : Type 0} (t : Transport) (rule : Accumulator A) (w : TileFlow) (come : ℕ → ℕ → Bool) (c x : ℕ) → come x c ≡ false → came t rule w come c x ≡ rule.none
came_no t rule w come c x e = rw e refl

-- how many are missing at a cell, and what has come to it, after the flow
missing_after : {A : Type 0} (t : Transport) (rule : Accumulator A) (w : TileFlow) → IsTileOf w → (come : ℕ → ℕ → Bool) (s : State A) (i u : ℕ) (flow : Flow) → Counted t rule w come s → Comes t rule w come i u flow → (j : ℕ) → j < tile_size w →
    missing_at (received rule s i flow) j ≡ passing_many (λ x. not (also come u (cell_place w i) x (cell_place w j))) (feeders t.orient w.drain (cell_place w j))
missing_after t rule w is come s i u flow counted comes j low = elim (cases_eq j i) as (λ _. missing_at (received rule s i flow) j ≡ passing_many (λ x. not (also come u (cell_place w i) x (cell_place w j))) (feeders t.orient w.drain (cell_place w j))) [
  | inl same ↦ subst (λ (k : ℕ). missing_at (received rule s i flow) k ≡ passing_many (λ x. not (also come u (cell_place w i) x (cell_place w k))) (feeders t.orient w.drain (cell_place w k))) (sym same)
      (let less = tally_less (λ x. not (come x (cell_place w i))) (λ x. not (also come u (cell_place w i) x (cell_place w i))) u (feeders t.orient w.drain (cell_place w i)) (distinct_from (feeders t.orient w.drain (cell_place w i)) (feeders_apart t.orient w.drain (cell_place w i))) comes.feeds
      (ap not comes.not_yet) (ap not (also_here come u (cell_place w i))) (λ x h ne. ap not (sym (also_else come u (cell_place w i) x (cell_place w i) ne))) in
      let here = get_or-set_same s.missing i (missing_at s i - 1) 0 (omega (arith, comes.low, counted.missing_many)) in
      omega (arith, less, here, counted.missing i comes.low))
  | inr ne ↦
      let apart : cell_place w j ≢ cell_place w i = λ e. ne (place_once w is j i low comes.low e) in
      get_or-set_other s.missing i j (missing_at s i - 1) 0 ne
      ∙ (counted.missing j low
      ∙ tally_alike (λ x. not (come x (cell_place w j))) (λ x. not (also come u (cell_place w i) x (cell_place w j))) (feeders t.orient w.drain (cell_place w j)) (λ x h. ap not (sym (also_other come u (cell_place w i) x (cell_place w j) apart))))
]

inflow_after : {A : Type 0} (t : Transport) (rule : Accumulator A) → RuleLaws t rule → (w : TileFlow) → IsTileOf w → (come : ℕ → ℕ → Bool) (s : State A) (i u : ℕ) (flow : Flow) → Counted t rule w come s → Comes t rule w come i u flow → (j : ℕ) → j < tile_size w →
    inflow_at rule (received rule s i flow) j ≡ joined_over rule (came t rule w (also come u (cell_place w i)) (cell_place w j)) (feeders t.orient w.drain (cell_place w j))
inflow_after {A = A} t rule laws w is come s i u flow counted comes j low = elim (cases_eq j i) as (λ _. inflow_at rule (received rule s i flow) j ≡ joined_over rule (came t rule w (also come u (cell_place w i)) (cell_place w j)) (feeders t.orient w.drain (cell_place w j))) [
  | inl same ↦ subst (λ (k : ℕ). inflow_at rule (received rule s i flow) k ≡ joined_over rule (came t rule w (also come u (cell_place w i)) (cell_place w k)) (feeders t.orient w.drain (cell_place w k))) (sym same)
      (let c = cell_place w i in
      let fs = feeders t.orient w.drain c in
      let more = gathered_more t rule laws (came t rule w come c) (came t rule w (also come u c) c) u fs (distinct_from fs (feeders_apart t.orient w.drain c)) comes.feeds
      (came_no t rule w come c u comes.not_yet) (λ x h ne. sym (came_other t rule w come (also come u c) c x (also_else come u c x c ne))) in
      let mine : came t rule w (also come u c) c u ≡ rule.lifted flow = came_yes t rule w (also come u c) c u (also_here come u c) ∙ ap rule.lifted (sym comes.is) in
      get_or-set_same s.inflows i (rule.joined (inflow_at rule s i) (rule.lifted flow)) rule.none (omega (arith, comes.low, counted.inflows_many))
      ∙ (ap (λ (y : A). rule.joined y (rule.lifted flow)) (counted.inflow i comes.low)
      ∙ (ap (λ (y : A). rule.joined (joined_over rule (came t rule w come c) fs) y) (sym mine) ∙ sym more)))
  | inr ne ↦
      let apart : cell_place w j ≢ cell_place w i = λ e. ne (place_once w is j i low comes.low e) in
      get_or-set_other s.inflows i j (rule.joined (inflow_at rule s i) (rule.lifted flow)) rule.none ne
      ∙ (counted.inflow j low
      ∙ gathered_alike rule (came t rule w come (cell_place w j)) (came t rule w (also come u (cell_place w i)) (cell_place w j)) (feeders t.orient w.drain (cell_place w j)) (λ x h. sym (came_other t rule w come (also come u (cell_place w i)) (cell_place w j) x (also_other come u (cell_place w i) x (cell_place w j) apart))))
]

missing_there : {A : Type 0} (rule : Accumulator A) (s : State A) (i : ℕ) (flow : Flow) → i < length s.missing → missing_at (received rule s i flow) i ≡ missing_at s i - 1
missing_there rule s i flow low = get_or-set_same s.missing i (missing_at s i - 1) 0 low

missing_else : {A : Type 0} (rule : Accumulator A) (s : State A) (i j : ℕ) (flow : Flow) → j ≢ i → missing_at (received rule s i flow) j ≡ missing_at s j
missing_else rule s i j flow ne = get_or-set_other s.missing i j (missing_at s i - 1) 0 ne

ready_after : {A : Type 0} (t : Transport) (rule : Accumulator A) (w : TileFlow) (come : ℕ → ℕ → Bool) (s : State A) (i u : ℕ) (flow : Flow) → Counted t rule w come s → Comes t rule w come i u flow → (j : ℕ) → j < tile_size w → missing_at (received rule s i flow) j ≡ 0 → Contains (received rule s i flow).queue j
ready_after t rule w come s i u flow counted comes j low none = elim (cases_eq j i) as (λ _. Contains (queued s.queue (missing_at s i) i) j) [
  | inl same ↦
      let some = missing_some t rule w come s i u flow counted comes in
      let there = missing_there rule s i flow (omega (arith, comes.low, counted.missing_many)) in
      let at : missing_at (received rule s i flow) i ≡ 0 = subst (λ (k : ℕ). missing_at (received rule s i flow) k ≡ 0) same none in
      let one : missing_at s i ≡ 1 = omega (arith, some, there, at) in
      subst (λ (k : ℕ). Contains (queued s.queue (missing_at s i) i) k) (sym same) (subst (λ (q : List ℕ). Contains q i) (sym (queued_one s.queue (missing_at s i) i one)) (Contains-append_right s.queue (i ∷ []) i (contains_first i [])))
  | inr ne ↦ queued_has s.queue (missing_at s i) i j (counted.ready j low (sym (missing_else rule s i j flow ne) ∙ none))
]

waits_after : {A : Type 0} (t : Transport) (rule : Accumulator A) (w : TileFlow) (come : ℕ → ℕ → Bool) (s : State A) (i u : ℕ) (flow : Flow) → Counted t rule w come s → Comes t rule w come i u flow → (j : ℕ) → Contains (received rule s i flow).queue j → (j < tile_size w) × (missing_at (received rule s i flow) j ≡ 0)
waits_after t rule w come s i u flow counted comes j on = elim (queued_is s.queue (missing_at s i) i j on) as (λ _. (j < tile_size w) × (missing_at (received rule s i flow) j ≡ 0)) [
  | inl before ↦
      let was = counted.waits j before in
      let some = missing_some t rule w come s i u flow counted comes in
      let ne : j ≢ i = λ e. let same : missing_at s j ≡ missing_at s i = ap (missing_at s) e in omega (arith, same, some, was.1) in
      (was.0, missing_else rule s i j flow ne ∙ was.1)
  | inr now ↦
      let there = missing_there rule s i flow (omega (arith, comes.low, counted.missing_many)) in
      (omega (arith, now.1, comes.low), subst (λ (k : ℕ). missing_at (received rule s i flow) k ≡ 0) (sym now.1) (omega (arith, there, now.0)))
]

fits_also : {A : Type 0} (t : Transport) (rule : Accumulator A) (w : TileFlow) → IsTileOf w → (come : ℕ → ℕ → Bool) (s : State A) (i u : ℕ) (flow : Flow) → Counted t rule w come s → Comes t rule w come i u flow →
    (j x : ℕ) → j < tile_size w → Contains (feeders t.orient w.drain (cell_place w j)) x → also come u (cell_place w i) x (cell_place w j) ≡ true → FlowFits (flow_into t w (cell_place w j) x) (load_of t.orient w.drain x)
fits_also t rule w is come s i u flow counted comes j x low h e = elim (or_cases (come x (cell_place w j)) ((x == u) && (cell_place w j == cell_place w i)) e) as (λ _. FlowFits (flow_into t w (cell_place w j) x) (load_of t.orient w.drain x)) [
  | inl before ↦ counted.fits j x low h before
  | inr now ↦
      let both = and_parts (x == u) (cell_place w j == cell_place w i) now in
      let from : u ≡ x = sym (eqb_same x u both.0) in
      let to : cell_place w i ≡ cell_place w j = sym (eqb_same (cell_place w j) (cell_place w i) both.1) in
      let here : FlowFits (flow_into t w (cell_place w i) u) (load_of t.orient w.drain u) = subst (λ (f : Flow). FlowFits f (load_of t.orient w.drain u)) comes.is comes.fits in
      subst (λ (z : ℕ). FlowFits (flow_into t w (cell_place w j) z) (load_of t.orient w.drain z)) from (subst (λ (c : ℕ). FlowFits (flow_into t w c u) (load_of t.orient w.drain u)) to here)
]

-- The flow of one more cell has come.
pub receive_counts : {A : Type 0} (t : Transport) (rule : Accumulator A) → RuleLaws t rule → (w : TileFlow) → IsTileOf w → (come : ℕ → ℕ → Bool) (s : State A) (i u : ℕ) (flow : Flow) → Counted t rule w come s → Comes t rule w come i u flow →
    Counted t rule w (also come u (cell_place w i)) (received rule s i flow)
receive_counts t rule laws w is come s i u flow counted comes = record {
  inflows_many = length-set s.inflows i (rule.joined (inflow_at rule s i) (rule.lifted flow)) ∙ counted.inflows_many;
  missing_many = length-set s.missing i (missing_at s i - 1) ∙ counted.missing_many;
  missing = missing_after t rule w is come s i u flow counted comes;
  inflow = inflow_after t rule laws w is come s i u flow counted comes;
  ready = ready_after t rule w come s i u flow counted comes;
  waits = waits_after t rule w come s i u flow counted comes;
  apart = queued_apart s.queue (missing_at s i) i counted.apart (not_queued t rule w come s i counted (missing_some t rule w come s i u flow counted comes));
  fits = fits_also t rule w is come s i u flow counted comes;
}

-- ---- a flow comes to several cells

abbrev pub also_all : TileFlow → (ℕ → ℕ → Bool) → ℕ → List ℕ → ℕ → ℕ → Bool
also_all w come u [] = come
also_all w come u (j ∷ cells) = also_all w (also come u (cell_place w j)) u cells

pub record PassesOn {A : Type 0} (t : Transport) (rule : Accumulator A) (w : TileFlow) (come : ℕ → ℕ → Bool) (s : State A) (u : ℕ) (cells : List ℕ) (flow : Flow) (room : ℕ) : Type 0 where
  pub can : CanPass rule cells flow room s
  pub counted : Counted t rule w (also_all w come u cells) (passed_on rule cells flow s)

comes_later : {A : Type 0} (t : Transport) (rule : Accumulator A) (w : TileFlow) → IsTileOf w → (come : ℕ → ℕ → Bool) (i j u : ℕ) (flow : Flow) → i < tile_size w → j ≢ i → Comes t rule w come j u flow → Comes t rule w (also come u (cell_place w i)) j u flow
comes_later t rule w is come i j u flow low ne comes = record {
  low = comes.low;
  feeds = comes.feeds;
  not_yet = also_other come u (cell_place w i) u (cell_place w j) (λ e. ne (place_once w is j i comes.low low e)) ∙ comes.not_yet;
  is = comes.is;
  fits = comes.fits;
}

pub passes_on : {A : Type 0} (t : Transport) (rule : Accumulator A) → RuleLaws t rule → (w : TileFlow) → IsTileOf w → (come : ℕ → ℕ → Bool) (s : State A) (u : ℕ) (cells : List ℕ) (flow : Flow) (room : ℕ) → Counted t rule w come s → Distinct cells → ((j : ℕ) → Contains cells j → Comes t rule w come j u flow) → tile_size w ≤ room →
    PassesOn t rule w come s u cells flow room
passes_on t rule laws w is come s u [] flow room counted apart comes wide = record { can = tt; counted = counted }
passes_on t rule laws w is come s u (i ∷ cells) flow room counted apart comes wide =
    let here = comes i (contains_first i cells) in
    let rest = passes_on t rule laws w is (also come u (cell_place w i)) (received rule s i flow) u cells flow room (receive_counts t rule laws w is come s i u flow counted here) apart.1
    (λ j h. comes_later t rule w is come i j u flow here.low (λ e. apart.0 (subst (λ (z : ℕ). Contains cells z) e h)) (comes j (contains_later i cells j h))) wide in
    record { can = (can_receive t rule laws w is come s i u flow room counted here wide, rest.can); counted = rest.counted }
