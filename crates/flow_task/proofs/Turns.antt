-- The turn of a cell of a tile.
use Rattle.std.proofs.Common.{◌≡◌, ◌≢◌, ℕ, ◌+◌, ◌<◌, ◌≤◌, List, [], ◌∷◌, ◌++◌, length, map, take, refl, sym, ap, subst, ◌∙◌, arith, inl, inr, suc, zero, Bool, true, false, get_or, append_assoc, cond, length-append}
use Rattle.std.specs.Prelude.{if◌then◌else◌, not, ◌==◌, ◌&&◌, ◌||◌, is_some}
use Rattle.std.specs.List.{Contains, filter, list_any}
use Rattle.std.proofs.lemmas.Bool.{cases_Bool, cases_eq, eq-eqb}
use Rattle.std.proofs.lemmas.Bool.Decides.{eqb_tells}
use Rattle.std.proofs.lemmas.List.Elements.{Contains-append_right}
use Rattle.std.proofs.lemmas.List.{append-nil, get_or_append_left, get_or_default}
use Rattle.cell_values.specs.declared.cell.Cell.{Cell}
use Rattle.cell_values.specs.declared.kind.Kind.TheVariants.{Scalar}
use Rattle.cell_values.specs.Kinds.{IsCell}
use Rattle.tile_map.specs.Cuts.{cell_at}
use Rattle.tile_map.proofs.Callers.{number_in-place_in, number_of_held, tile_in_map}
use Rattle.drain_meaning.specs.declared.end.FlowEnd.{FlowEnd}
use Rattle.drain_meaning.specs.declared.flow.Flow.{Flow}
use Rattle.drain_meaning.specs.Flows.{FlowFits}
use Rattle.drain_meaning.specs.Paths.{IsDirected}
use Rattle.drain_meaning.specs.Rules.{Accumulator, FitsBefore, RuleLaws, joined_all}
use Rattle.drain_meaning.specs.Transports.{Transport, feeders}
use Rattle.drain_meaning.proofs.Callers.{cases_directed, contains_cases, contains_first, contains_later}
use Rattle.drain_meaning.proofs.Callers.{feeder_feeds}
use Rattle.drain_meaning.proofs.Callers.{kept_passes}
use Rattle.border_channel.specs.Edges.{fed_by}
use Rattle.border_channel.specs.Laws.{IsTileOf}
use Rattle.border_channel.specs.Loads.{load_of, load_together}
use Rattle.border_channel.specs.Locals.{local_end}
use Rattle.border_channel.specs.TileFlows.{TileFlow, came_over, in_tile, operand_in, tile_rect}
use Rattle.border_channel.proofs.Callers.{fed_apart, fed_feeds, feeds_fed}
use Rattle.drain_meaning.proofs.Callers.{feeder_within}
use Rattle.border_channel.proofs.Callers.{filter-keeps}
use Rattle.border_channel.proofs.Callers.{loads_add_up}
use Rattle.border_channel.proofs.Callers.{tile_place}
use Rattle.border_channel.proofs.Callers.{held_in_tile, local_step, no_feeders, place_of_map}
use Rattle.flow_task.specs.inside.States.{CanEnd, Grows, State, end_here, fed_cells, inflow_at, missing_at, passed_on, received}
use Rattle.flow_task.specs.inside.Underway.{AreLinks, Counted, Distinct, IsWorkBegun, IsUnderway, came, done_come, flow_into, cell_number, cell_place, queued_at, tile_size}
use Rattle.flow_task.proofs.Counting.{distinct_few, gathered_alike, gathered_all, gathered_fits, load_where, load_where_all, tally_alike, tally_none}
use Rattle.flow_task.proofs.Receiving.{Comes, also, also_all, also_else, also_here, distinct_from, feeders_few, passes_on}

-- ---- relations that agree on the cells of a tile

pub counted_alike : {A : Type 0} (t : Transport) (rule : Accumulator A) (w : TileFlow) (come other : ℕ → ℕ → Bool) (s : State A) →
    ((i u : ℕ) → i < tile_size w → Contains (feeders t.orient w.drain (cell_place w i)) u → come u (cell_place w i) ≡ other u (cell_place w i)) → Counted t rule w come s → Counted t rule w other s
counted_alike t rule w come other s same counted = record {
  inflows_many = counted.inflows_many;
  missing_many = counted.missing_many;
  missing = λ i low. counted.missing i low ∙ tally_alike (λ u. not (come u (cell_place w i))) (λ u. not (other u (cell_place w i))) (feeders t.orient w.drain (cell_place w i)) (λ u h. ap not (same i u low h));
  inflow = λ i low. counted.inflow i low ∙ gathered_alike rule (came t rule w come (cell_place w i)) (came t rule w other (cell_place w i)) (feeders t.orient w.drain (cell_place w i)) (λ u h. ap (λ (o : Bool). if o then rule.lifted (flow_into t w (cell_place w i) u) else rule.none) (same i u low h));
  ready = counted.ready;
  waits = counted.waits;
  apart = counted.apart;
  fits = λ i u low h e. counted.fits i u low h (same i u low h ∙ e);
}

-- ---- lists

or_regroup : (a b c : Bool) → (a || (b || c)) ≡ ((a || b) || c)
or_regroup true b c = refl
or_regroup false b c = refl

or_one : (a b : Bool) → a ≡ true → (a || b) ≡ true
or_one true b e = refl
or_one false b e = cc e

or_two : (a b : Bool) → b ≡ true → (a || b) ≡ true
or_two true b e = refl
or_two false b e = e

or_none : (a b : Bool) → b ≡ false → (a || b) ≡ a
or_none true b e = refl
or_none false b e = e

or_neither : (a b : Bool) → a ≡ false → b ≡ false → (a || b) ≡ false
or_neither true b e f = cc e
or_neither false b e f = f

pub any_append : (p : ℕ → Bool) (xs ys : List ℕ) → list_any p (xs ++ ys) ≡ (list_any p xs || list_any p ys)
any_append p [] ys = refl
any_append p (x ∷ xs) ys = ap (λ (y : Bool). p x || y) (any_append p xs ys) ∙ or_regroup (p x) (list_any p xs) (list_any p ys)

pub any_has : (p : ℕ → Bool) (xs : List ℕ) (x : ℕ) → Contains xs x → p x ≡ true → list_any p xs ≡ true
any_has p [] x h e = absurd (omega (arith, h.1))
any_has p (y ∷ ys) x h e = elim (contains_cases y ys x h) as (λ _. (p y || list_any p ys) ≡ true) [
  | inl same ↦ or_one (p y) (list_any p ys) (ap p (sym same) ∙ e)
  | inr later ↦ or_two (p y) (list_any p ys) (any_has p ys x later e)
]

pub any_none : (p : ℕ → Bool) (xs : List ℕ) → ((x : ℕ) → Contains xs x → p x ≡ false) → list_any p xs ≡ false
any_none p [] e = refl
any_none p (x ∷ xs) e = or_neither (p x) (list_any p xs) (e x (contains_first x xs)) (any_none p xs (λ u h. e u (contains_later x xs u h)))

pub taken_in : (xs : List ℕ) (n x : ℕ) → Contains (take n xs) x → Contains xs x
taken_in [] zero x h = h
taken_in [] (suc n) x h = h
taken_in (y ∷ ys) zero x h = absurd (omega (arith, h.1))
taken_in (y ∷ ys) (suc n) x h = elim (contains_cases y (take n ys) x h) as (λ _. Contains (y ∷ ys) x) [
  | inl same ↦ subst (λ (z : ℕ). Contains (y ∷ ys) z) (sym same) (contains_first y ys)
  | inr later ↦ contains_later y ys x (taken_in ys n x later)
]

pub queue_has : (xs : List ℕ) (n : ℕ) → n < length xs → Contains xs (queued_at xs n)
queue_has [] n low = absurd (omega arith)
queue_has (x ∷ xs) zero low = contains_first x xs
queue_has (x ∷ xs) (suc n) low = contains_later x xs (queued_at xs n) (queue_has xs n (omega arith))

-- what stands at a place of a list without repetition does not stand before it
pub not_before : (xs : List ℕ) (n : ℕ) → Distinct xs → n < length xs → Contains (take n xs) (queued_at xs n) → ⊥
not_before [] n apart low h = omega arith
not_before (x ∷ xs) zero apart low h = omega (arith, h.1)
not_before (x ∷ xs) (suc n) apart low h = elim (contains_cases x (take n xs) (queued_at xs n) h) as (λ _. ⊥) [
  | inl same ↦ apart.0 (subst (λ (z : ℕ). Contains xs z) same (queue_has xs n (omega arith)))
  | inr later ↦ not_before xs n apart.1 (omega arith) later
]

take_grown : (xs ys : List ℕ) (n : ℕ) → n < length xs → take (n + 1) (xs ++ ys) ≡ take n xs ++ queued_at xs n ∷ []
take_grown [] ys n low = absurd (omega arith)
take_grown (x ∷ xs) ys zero low = refl
take_grown (x ∷ xs) ys (suc n) low =
    let e : suc n + 1 ≡ suc (n + 1) = omega arith in
    rw e (ap (λ (y : List ℕ). x ∷ y) (take_grown xs ys n (omega arith)))

-- ---- the queue grows at its end

pub queued_grows : (queue : List ℕ) (missed cell : ℕ) (o : Bool) → (missed == 1) ≡ o → Grows queue (if o then queue ++ cell ∷ [] else queue)
queued_grows queue missed cell true e = record { more = cell ∷ []; is = refl }
queued_grows queue missed cell false e = record { more = []; is = sym (append-nil queue) }

pub passed_grows : {A : Type 0} (rule : Accumulator A) (cells : List ℕ) (flow : Flow) (s : State A) → Grows s.queue (passed_on rule cells flow s).queue
passed_grows rule [] flow s = record { more = []; is = sym (append-nil s.queue) }
passed_grows rule (i ∷ cells) flow s =
    let one = queued_grows s.queue (missing_at s i) i (missing_at s i == 1) refl in
    let rest = passed_grows rule cells flow (received rule s i flow) in
    record { more = one.more ++ rest.more; is = rest.is ∙ (ap (λ (y : List ℕ). y ++ rest.more) one.is ∙ append_assoc s.queue one.more rest.more) }

pub grows_itself : (queue : List ℕ) → Grows queue queue
grows_itself queue = record { more = []; is = sym (append-nil queue) }

pub grows_on : (old now new : List ℕ) → Grows old now → Grows now new → Grows old new
grows_on old now new a b = record { more = a.more ++ b.more; is = b.is ∙ (ap (λ (y : List ℕ). y ++ b.more) a.is ∙ append_assoc old a.more b.more) }

pub grows_to : {A : Type 0} (rule : Accumulator A) (cells : List ℕ) (flow : Flow) (s after : State A) → after ≡ passed_on rule cells flow s → Grows s.queue after.queue
grows_to {A = A} rule cells flow s after e = subst (λ (z : State A). Grows s.queue z.queue) (sym e) (passed_grows rule cells flow s)

-- ---- the end of a cell to which all has come

-- the cell of a list is missing or a scalar
abbrev IsScalarAt : List Cell → ℕ → Type 0
IsScalarAt cells i = IsCell Scalar (cell_at cells i)

-- what is known of a cell that has its turn
pub record Turn {A : Type 0} (t : Transport) (rule : Accumulator A) (w : TileFlow) (s : State A) (a b : List Cell) (i : ℕ) : Type 0 where
  pub fits : FitsBefore rule (inflow_at rule s i)
  pub end : end_here rule s a b i ≡ local_end t w (cell_place w i)
  pub out_fits : IsDirected w.drain (cell_place w i) → FlowFits (local_end t w (cell_place w i)).out (load_of t.orient w.drain (cell_place w i))

not_true : (o : Bool) → (not o ≡ true → ⊥) → o ≡ true
not_true true e = refl
not_true false e = absurd (e refl)

pub turn_of : {A : Type 0} (t : Transport) (rule : Accumulator A) → RuleLaws t rule → (w : TileFlow) (fed : List (List ℕ)) (a b : List Cell) → IsWorkBegun t w fed a b → (come : ℕ → ℕ → Bool) (s : State A) (i : ℕ) → Counted t rule w come s → i < tile_size w → missing_at s i ≡ 0 → Turn t rule w s a b i
turn_of {A = A} t rule laws w fed a b begun come s i counted low none =
    let c : ℕ = cell_place w i in
    let fs : List ℕ = feeders t.orient w.drain c in
    let all : ((u : ℕ) → Contains fs u → come u c ≡ true) = λ u h. not_true (come u c) (tally_none (λ x. not (come x c)) fs (sym (counted.missing i low) ∙ none) u h) in
    let few = feeders_few t w begun.tile c in
    let loads = load_where_all t.orient w.drain (λ x. come x c) fs all in
    let inflow : inflow_at rule s i ≡ joined_all rule (map (flow_into t w c) fs) =
    counted.inflow i low
    ∙ (gathered_alike rule (came t rule w come c) (λ u. rule.lifted (flow_into t w c u)) fs (λ u h. (let e : come u c ≡ true = all u h in rw e refl))
    ∙ gathered_all t rule laws (flow_into t w c) fs) in
    let fit = gathered_fits t rule laws w.drain (λ x. come x c) (flow_into t w c) fs (λ u h e. counted.fits i u low h e) (omega (arith, few)) in
    let mine : rule.FitsLoad (inflow_at rule s i) (load_together t.orient w.drain fs) =
    subst (λ (n : ℕ). rule.FitsLoad (inflow_at rule s i) n) loads (subst (λ (y : A). rule.FitsLoad y (load_where t.orient w.drain (λ x. come x c) fs)) (sym (counted.inflow i low)) fit) in
    let number : cell_number w c ≡ i = number_in-place_in w.tiling.rows w.tiling.cols _ i (tile_in_map w.tiling w.tile begun.tile.tile).0 low in
    let x : operand_in w w.a c ≡ cell_at a i = ap (cell_at w.a) number ∙ ap (λ (y : List Cell). cell_at y i) (sym begun.a_is) in
    let y : operand_in w w.b c ≡ cell_at b i = ap (cell_at w.b) number ∙ ap (λ (z : List Cell). cell_at z i) (sym begun.b_is) in
    let same : end_here rule s a b i ≡ local_end t w c =
    ap (λ (z : A). rule.ended z (cell_at a i) (cell_at b i)) inflow
    ∙ (laws.means (map (flow_into t w c) fs) (cell_at a i) (cell_at b i)
    ∙ (ap (λ (z : Cell). t.equation (map (flow_into t w c) fs) z (cell_at b i)) (sym x)
    ∙ (ap (λ (z : Cell). t.equation (map (flow_into t w c) fs) (operand_in w w.a c) z) (sym y)
    ∙ sym (local_step t w begun.tile c)))) in
    let out = laws.out_fits (inflow_at rule s i) (cell_at a i) (cell_at b i) (load_together t.orient w.drain fs) mine few
    (subst (λ (z : List Cell). IsScalarAt z i) (sym begun.a_is) (begun.a_range i)) (subst (λ (z : List Cell). IsScalarAt z i) (sym begun.b_is) (begun.b_range i)) in
    record {
      fits = (load_together t.orient w.drain fs, few, mine);
      end = same;
      out_fits = λ directed.
          let add = loads_add_up t.orient w.drain c begun.tile.drain directed in
          subst (λ (n : ℕ). FlowFits (local_end t w c).out n) (sym add.0) (subst (λ (e : FlowEnd). FlowFits e.out (load_together t.orient w.drain fs + 1)) same out);
    }

-- ---- the cells that a cell feeds in the tile

map_has : (f : ℕ → ℕ) (xs : List ℕ) (x : ℕ) → Contains xs x → Contains (map f xs) (f x)
map_has f [] x h = absurd (omega (arith, h.1))
map_has f (y ∷ ys) x h = elim (contains_cases y ys x h) as (λ _. Contains (map f (y ∷ ys)) (f x)) [
  | inl same ↦ subst (λ (z : ℕ). Contains (map f (y ∷ ys)) (f z)) (sym same) (contains_first (f y) (map f ys))
  | inr later ↦ contains_later (f y) (map f ys) (f x) (map_has f ys x later)
]

-- what a list is mapped to comes of one of it
pub record Origin (f : ℕ → ℕ) (xs : List ℕ) (y : ℕ) : Type 0 where
  pub at : ℕ
  pub on : Contains xs at
  pub is : f at ≡ y

pub map_from : (f : ℕ → ℕ) (xs : List ℕ) (y : ℕ) → Contains (map f xs) y → Origin f xs y
map_from f [] y h = absurd (omega (arith, h.1))
map_from f (x ∷ xs) y h = elim (contains_cases (f x) (map f xs) y h) as (λ _. Origin f (x ∷ xs) y) [
  | inl same ↦ record { at = x; on = contains_first x xs; is = sym same }
  | inr later ↦ let r = map_from f xs y later in record { at = r.at; on = contains_later x xs r.at r.on; is = r.is }
]

distinct_map : (f : ℕ → ℕ) (xs : List ℕ) → Distinct (map f xs) → Distinct xs
distinct_map f [] d = tt
distinct_map f (x ∷ xs) d = ((λ h. d.0 (map_has f xs x h)), distinct_map f xs d.1)

distinct_filter_by : (p : ℕ → Bool) (x : ℕ) (xs : List ℕ) (o : Bool) → (Contains xs x → ⊥) → Distinct (filter p xs) → Distinct (cond o (x ∷ filter p xs) (filter p xs))
distinct_filter_by p x xs true out rest = ((λ h. out (kept_passes p xs x h).1), rest)
distinct_filter_by p x xs false out rest = rest

pub distinct_filter : (p : ℕ → Bool) (xs : List ℕ) → Distinct xs → Distinct (filter p xs)
distinct_filter p [] d = tt
distinct_filter p (x ∷ xs) d = distinct_filter_by p x xs (p x) d.0 (distinct_filter p xs d.1)

pub links_distinct : (t : Transport) (w : TileFlow) (fed : List (List ℕ)) → AreLinks t.orient w fed → (i : ℕ) → i < tile_size w → Distinct (fed_cells fed i)
links_distinct t w fed links i low =
    distinct_map (cell_place w) (fed_cells fed i)
    (subst (λ (y : List ℕ). Distinct y) (sym (links.each i low)) (distinct_filter (in_tile w) (fed_by t.orient w.drain (cell_place w i)) (distinct_from (fed_by t.orient w.drain (cell_place w i)) (fed_apart t.orient w.drain (cell_place w i)))))

-- a cell that is fed in the tile
pub linked : (t : Transport) (w : TileFlow) (fed : List (List ℕ)) → AreLinks t.orient w fed → (i j : ℕ) → i < tile_size w → Contains (fed_cells fed i) j → Contains (feeders t.orient w.drain (cell_place w j)) (cell_place w i)
linked t w fed links i j low h =
    let there : Contains (filter (in_tile w) (fed_by t.orient w.drain (cell_place w i))) (cell_place w j) = subst (λ (y : List ℕ). Contains y (cell_place w j)) (links.each i low) (map_has (cell_place w) (fed_cells fed i) j h) in
    fed_feeds t.orient w.drain (cell_place w i) (cell_place w j) (kept_passes (in_tile w) (fed_by t.orient w.drain (cell_place w i)) (cell_place w j) there).1

-- and the other way round
pub link_to : (t : Transport) (w : TileFlow) (fed : List (List ℕ)) → IsTileOf w → AreLinks t.orient w fed → (i k : ℕ) → i < tile_size w → k < tile_size w → Contains (feeders t.orient w.drain (cell_place w k)) (cell_place w i) → Origin (cell_place w) (fed_cells fed i) (cell_place w k)
link_to t w fed is links i k low high h =
    let inside = (tile_place w is k high).inside in
    let there = filter-keeps (in_tile w) (fed_by t.orient w.drain (cell_place w i)) (cell_place w k) (feeds_fed t.orient w.drain (cell_place w i) (cell_place w k) h) inside in
    map_from (cell_place w) (fed_cells fed i) (cell_place w k) (subst (λ (y : List ℕ). Contains y (cell_place w k)) (sym (links.each i low)) there)

-- ---- the relation after a turn

also_all_else : (w : TileFlow) (come : ℕ → ℕ → Bool) (u : ℕ) (cells : List ℕ) (x y : ℕ) → x ≢ u → also_all w come u cells x y ≡ come x y
also_all_else w come u [] x y ne = refl
also_all_else w come u (j ∷ cells) x y ne = also_all_else w (also come u (cell_place w j)) u cells x y ne ∙ also_else come u (cell_place w j) x y ne

also_all_keeps : (w : TileFlow) (come : ℕ → ℕ → Bool) (u : ℕ) (cells : List ℕ) (x y : ℕ) → come x y ≡ true → also_all w come u cells x y ≡ true
also_all_keeps w come u [] x y e = e
also_all_keeps w come u (j ∷ cells) x y e = also_all_keeps w (also come u (cell_place w j)) u cells x y (or_one (come x y) ((x == u) && (y == cell_place w j)) e)

also_all_has : (w : TileFlow) (come : ℕ → ℕ → Bool) (u : ℕ) (cells : List ℕ) (j : ℕ) → Contains cells j → also_all w come u cells u (cell_place w j) ≡ true
also_all_has w come u [] j h = absurd (omega (arith, h.1))
also_all_has w come u (k ∷ cells) j h = elim (contains_cases k cells j h) as (λ _. also_all w come u (k ∷ cells) u (cell_place w j) ≡ true) [
  | inl same ↦ subst (λ (z : ℕ). also_all w (also come u (cell_place w k)) u cells u (cell_place w z) ≡ true) (sym same) (also_all_keeps w (also come u (cell_place w k)) u cells u (cell_place w k) (also_here come u (cell_place w k)))
  | inr later ↦ also_all_has w (also come u (cell_place w k)) u cells j later
]

-- the number of a place of the tile
pub number_there : (w : TileFlow) → IsTileOf w → (x : ℕ) → x < length w.drain.codes → in_tile w x ≡ true → cell_place w (cell_number w x) ≡ x
number_there w is x low inside = (number_of_held w.tiling.cols (tile_rect w) x (held_in_tile w x (place_of_map w is x low) inside)).1

pub test_other : (i n : ℕ) → i ≢ n → (i == n) ≡ false
test_other i n ne = elim (eqb_tells i n) as (λ _. (i == n) ≡ false) [ inl t ↦ absurd (ne t.1) | inr t ↦ t.0 ]

-- a feeding cell other than the one that had its turn
come_else : (t : Transport) (w : TileFlow) → IsTileOf w → (queue grown : List ℕ) (head i x c : ℕ) → take (head + 1) grown ≡ take head queue ++ i ∷ [] → i < tile_size w → Contains (feeders t.orient w.drain c) x → x ≢ cell_place w i → done_come w queue head x c ≡ done_come w grown (head + 1) x c
come_else t w is queue grown head i x c grows low h ne = elim (cases_Bool (in_tile w x)) as (λ _. done_come w queue head x c ≡ done_come w grown (head + 1) x c) [
  | inl inside ↦
      let there = number_there w is x (feeder_within t.orient w.drain is.drain.map c x h) inside in
      let other : (i == cell_number w x) ≡ false = test_other i (cell_number w x) (λ e. ne (sym there ∙ ap (cell_place w) (sym e))) in
      let one : list_any (λ k. k == cell_number w x) (i ∷ []) ≡ false = or_neither (i == cell_number w x) false other refl in
      let more : list_any (λ k. k == cell_number w x) (take (head + 1) grown) ≡ list_any (λ k. k == cell_number w x) (take head queue) =
      ap (list_any (λ k. k == cell_number w x)) grows
      ∙ (any_append (λ k. k == cell_number w x) (take head queue) (i ∷ [])
      ∙ or_none (list_any (λ k. k == cell_number w x) (take head queue)) (list_any (λ k. k == cell_number w x) (i ∷ [])) one) in
      ap (λ (o : Bool). if in_tile w x then o else is_some (came_over w x c)) (sym more)
  | inr outside ↦ rw outside refl
]

-- the cell that had its turn
come_now : (w : TileFlow) → IsTileOf w → (queue grown : List ℕ) (head i c : ℕ) → take (head + 1) grown ≡ take head queue ++ i ∷ [] → i < tile_size w → done_come w grown (head + 1) (cell_place w i) c ≡ true
come_now w is queue grown head i c grows low =
    let inside = (tile_place w is i low).inside in
    let number : cell_number w (cell_place w i) ≡ i = number_in-place_in w.tiling.rows w.tiling.cols _ i (tile_in_map w.tiling w.tile is.tile).0 low in
    let test : (i == cell_number w (cell_place w i)) ≡ true = eq-eqb i (cell_number w (cell_place w i)) (sym number) in
    let here : list_any (λ k. k == cell_number w (cell_place w i)) (take (head + 1) grown) ≡ true =
    any_has (λ k. k == cell_number w (cell_place w i)) (take (head + 1) grown) i (subst (λ (y : List ℕ). Contains y i) (sym grows) (Contains-append_right (take head queue) (i ∷ []) i (contains_first i []))) test in
    rw inside here

-- it had not come before
come_not : (w : TileFlow) → IsTileOf w → (queue : List ℕ) (head i c : ℕ) → i < tile_size w → (Contains (take head queue) i → ⊥) → done_come w queue head (cell_place w i) c ≡ false
come_not w is queue head i c low out =
    let inside = (tile_place w is i low).inside in
    let number : cell_number w (cell_place w i) ≡ i = number_in-place_in w.tiling.rows w.tiling.cols _ i (tile_in_map w.tiling w.tile is.tile).0 low in
    let none : list_any (λ k. k == cell_number w (cell_place w i)) (take head queue) ≡ false =
    any_none (λ k. k == cell_number w (cell_place w i)) (take head queue) (λ x h. test_other x (cell_number w (cell_place w i)) (λ e. out (subst (λ (z : ℕ). Contains (take head queue) z) (e ∙ number) h))) in
    rw inside none

-- ---- the turn

-- where it is a cell's turn
pub record SettlesNext {A : Type 0} (t : Transport) (rule : Accumulator A) (w : TileFlow) (fed : List (List ℕ)) (a b : List Cell) (s : State A) (head i room : ℕ) : Type 0 where
  pub can : CanEnd rule s fed a b i room
  pub underway : IsUnderway t rule w (passed_on rule (fed_cells fed i) (end_here rule s a b i).out s) (head + 1)

taken_has : (xs : List ℕ) (n j : ℕ) → j < n → n ≤ length xs → Contains (take n xs) (queued_at xs j)
taken_has [] n j low in_it = absurd (omega arith)
taken_has (x ∷ xs) zero j low in_it = absurd (omega arith)
taken_has (x ∷ xs) (suc n) zero low in_it = contains_first x (take n xs)
taken_has (x ∷ xs) (suc n) (suc j) low in_it = contains_later x (take n xs) (queued_at xs j) (taken_has xs n j (omega arith) (omega arith))

pub next_turn : {A : Type 0} (t : Transport) (rule : Accumulator A) → RuleLaws t rule → (w : TileFlow) (fed : List (List ℕ)) (a b : List Cell) → IsWorkBegun t w fed a b → (s : State A) (head i room : ℕ) → IsUnderway t rule w s head → head < length s.queue → i ≡ queued_at s.queue head → tile_size w ≤ room →
    SettlesNext t rule w fed a b s head i room
next_turn {A = A} t rule laws w fed a b begun s head i room under less is_next wide =
    let on : Contains s.queue i = subst (λ (z : ℕ). Contains s.queue z) (sym is_next) (queue_has s.queue head less) in
    let waits = under.counted.waits i on in
    let low : i < tile_size w = waits.0 in
    let turn = turn_of t rule laws w fed a b begun (done_come w s.queue head) s i under.counted low waits.1 in
    let u : ℕ = cell_place w i in
    let end : FlowEnd = end_here rule s a b i in
    let cells : List ℕ = fed_cells fed i in
    let inside = (tile_place w begun.tile i low).inside in
    let out : (Contains (take head s.queue) i → ⊥) = λ h. not_before s.queue head under.counted.apart less (subst (λ (z : ℕ). Contains (take head s.queue) z) is_next h) in
    let flow_is : end.out ≡ (local_end t w u).out = ap (λ (e : FlowEnd). e.out) turn.end in
    let comes : ((j : ℕ) → Contains cells j → Comes t rule w (done_come w s.queue head) j u end.out) = λ j h.
    let feeds = linked t w fed begun.links i j low h in
    let directed : IsDirected w.drain u = elim (cases_directed w.drain (cell_place w j)) as (λ _. IsDirected w.drain u) [
      | inl d ↦ (feeder_feeds t.orient w.drain begun.tile.drain.sound (cell_place w j) u d feeds).directed
      | inr missing ↦ absurd (no_feeders t.orient w.drain begun.tile.drain.sound (cell_place w j) u missing feeds)
    ] in
    record {
      low = begun.links.below i j low h;
      feeds = feeds;
      not_yet = come_not w begun.tile s.queue head i (cell_place w j) low out;
      is = flow_is ∙ (rw inside refl);
      fits = subst (λ (f : Flow). FlowFits f (load_of t.orient w.drain u)) (sym flow_is) (turn.out_fits directed);
    } in
    let passes = passes_on t rule laws w begun.tile (done_come w s.queue head) s u cells end.out room under.counted (links_distinct t w fed begun.links i low) comes wide in
    let after : State A = passed_on rule cells end.out s in
    let grows = passed_grows rule cells end.out s in
    let taken : take (head + 1) after.queue ≡ take head s.queue ++ i ∷ [] =
    ap (take (head + 1)) grows.is ∙ (take_grown s.queue grows.more head less ∙ ap (λ (z : ℕ). take head s.queue ++ z ∷ []) (sym is_next)) in
    let long : length s.queue ≤ length after.queue = omega (arith, ap length grows.is, length-append s.queue grows.more) in
    let same_at : ((j : ℕ) → j < length s.queue → queued_at after.queue j ≡ queued_at s.queue j) = λ j h. ap (λ (q : List ℕ). queued_at q j) grows.is ∙ get_or_append_left s.queue grows.more 0 j h in
    record {
      can = record {
        inflow_within = omega (arith, low, under.counted.inflows_many);
        a_within = omega (arith, low, begun.a_many, ap length begun.a_is);
        b_within = omega (arith, low, begun.b_many, ap length begun.b_is);
        fed_has = omega (arith, low, begun.links.many);
        fits = turn.fits;
        can_pass = passes.can;
      };
      underway = record {
        counted = counted_alike t rule w (also_all w (done_come w s.queue head) u cells) (done_come w after.queue (head + 1)) after (λ k x high h.
            elim (cases_eq x u) as (λ _. also_all w (done_come w s.queue head) u cells x (cell_place w k) ≡ done_come w after.queue (head + 1) x (cell_place w k)) [
              | inl same ↦
                  let from = link_to t w fed begun.tile begun.links i k low high (subst (λ (z : ℕ). Contains (feeders t.orient w.drain (cell_place w k)) z) same h) in
                  let one : also_all w (done_come w s.queue head) u cells u (cell_place w k) ≡ true = subst (λ (z : ℕ). also_all w (done_come w s.queue head) u cells u z ≡ true) from.is (also_all_has w (done_come w s.queue head) u cells from.at from.on) in
                  let two : done_come w after.queue (head + 1) u (cell_place w k) ≡ true = come_now w begun.tile s.queue after.queue head i (cell_place w k) taken low in
                  subst (λ (z : ℕ). also_all w (done_come w s.queue head) u cells z (cell_place w k) ≡ done_come w after.queue (head + 1) z (cell_place w k)) (sym same) (one ∙ sym two)
              | inr ne ↦ also_all_else w (done_come w s.queue head) u cells x (cell_place w k) ne ∙ come_else t w begun.tile s.queue after.queue head i x (cell_place w k) taken low h ne
            ]) passes.counted;
        head_in = omega (arith, long, less);
      };
    }

-- what was read from the queue
pub next_of : (queue : List ℕ) (head x : ℕ) → head < length queue → x ≡ get_or queue head x → x ≡ queued_at queue head
next_of queue head x low is = is ∙ get_or_default queue head x 0 low

pub underway_moved : {A : Type 0} (t : Transport) (rule : Accumulator A) (w : TileFlow) (s moved : State A) (head : ℕ) → moved ≡ s → IsUnderway t rule w s head → IsUnderway t rule w moved head
underway_moved {A = A} t rule w s moved head e under = subst (λ (z : State A). IsUnderway t rule w z head) (sym e) under

-- no more cells are queued than the tile has
pub queue_few : {A : Type 0} (t : Transport) (rule : Accumulator A) (w : TileFlow) (s : State A) (head : ℕ) → IsUnderway t rule w s head → length s.queue ≤ tile_size w
queue_few t rule w s head under = distinct_few s.queue (tile_size w) under.counted.apart (λ x h. (under.counted.waits x h).0)
