-- The results of a tile.
use Rattle.std.proofs.Common.{◌≡◌, ℕ, ◌+◌, ◌-◌, ◌*◌, ◌/◌, ◌%◌, ◌<◌, ◌≤◌, List, [], ◌∷◌, ◌++◌, length, refl, sym, ap, subst, ◌∙◌, arith, suc, Bool, true, false, get_or}
use Rattle.std.specs.Prelude.{pos, negsuc, if◌then◌else◌, ◌&&◌, ◌==◌, nat_le, Option}
use Rattle.std.specs.List.{Contains}
use Rattle.std.proofs.lemmas.Int.{ints}
use Rattle.std.proofs.lemmas.Nat.{mul-le}
use Rattle.text_base.specs.Limits.{most_cells}
use Rattle.cell_values.specs.declared.cell.Cell.{Cell}
use Rattle.cell_values.specs.declared.cell.Cell.TheVariants as cell
use Rattle.cell_values.specs.declared.kind.Kind.TheVariants.{Ldd}
use Rattle.cell_values.specs.Kinds.{IsCell}
use Rattle.tile_map.specs.Cuts.{cell_at}
use Rattle.tile_map.specs.Parts.{Outcome, first_over, or_missing, or_over_at, part_of, tabulate}
use Rattle.tile_map.specs.declared.part.Part.{Part}
use Rattle.tile_map.proofs.Callers.{length-tabulate, tile_in_map}
use Rattle.drain_meaning.specs.declared.end.FlowEnd.{FlowEnd}
use Rattle.drain_meaning.specs.declared.flow.Flow.{Flow}
use Rattle.drain_meaning.specs.declared.flow.Flow.TheVariants as flow
use Rattle.drain_meaning.specs.declared.next.Next.{Next}
use Rattle.drain_meaning.specs.declared.next.Next.TheVariants as next
use Rattle.drain_meaning.specs.Drains.{DrainMap, IsDrainMap, col_on, next_at, next_of, row_on, toward}
use Rattle.drain_meaning.specs.Rules.{Accumulator, RuleLaws}
use Rattle.drain_meaning.specs.Transports.{Transport, where_directed}
use Rattle.border_channel.specs.Laws.{IsTileOf}
use Rattle.border_channel.specs.Locals.{local_end}
use Rattle.border_channel.specs.Settled.{all_settled}
use Rattle.border_channel.specs.TileFlows.{TileFlow, tile_rect}
use Rattle.border_channel.proofs.Callers.{place_settled, tile_place}
use Rattle.flow_task.specs.Works.{TileWork}
use Rattle.flow_task.specs.inside.Begins.{coded_first, is_coded, over_cells}
use Rattle.flow_task.specs.inside.States.{State, end_here, missing_at}
use Rattle.flow_task.specs.inside.Underway.{IsWorkBegun, IsUnderway, cell_number, cell_place, done_come, tile_size}
use Rattle.flow_task.proofs.Accepting.{any_on, back_to_map, is_queued, number_back, queued_settled}
use Rattle.flow_task.proofs.Beginning.{over_at}
use Rattle.flow_task.proofs.Receiving.{eqb_same}
use Rattle.flow_task.proofs.Turns.{Turn, turn_of}

-- ---- cells with a direction

where_pit : (o : Bool) (n : Next) (f : Flow) → where_directed n f ≡ f → where_directed (if o then next.Pit else n) f ≡ f
where_pit true n f e = refl
where_pit false n f e = e

where_toward : (o : Bool) (d : ℕ) (f : Flow) → where_directed (if o then next.Cell d else next.Outside) f ≡ f
where_toward true d f = refl
where_toward false d f = refl

-- a cell with a code has a direction, and one without has none
coded_by : (rows cols place : ℕ) (code : Cell) (f : Flow) → IsCell Ldd code → (if is_coded code then f else flow.Mv) ≡ where_directed (next_of rows cols place code) f
unfolding next_of
coded_by rows cols place cell.Mv f is = refl
coded_by rows cols place (cell.Val (pos k)) f is =
    sym (where_pit (k == 5) (toward rows cols (place / cols + row_on k) (place % cols + col_on k)) f
    (where_toward (nat_le 1 (place / cols + row_on k) && nat_le (place / cols + row_on k) rows && nat_le 1 (place % cols + col_on k) && nat_le (place % cols + col_on k) cols)
    ((place / cols + row_on k - 1) * cols + (place % cols + col_on k - 1)) f))
coded_by rows cols place (cell.Val (negsuc k)) f is = absurd (omega (arith, ints, is.least))

pub coded_directed : (m : DrainMap) → IsDrainMap m → (c : ℕ) (f : Flow) → (if is_coded (cell_at m.codes c) then f else flow.Mv) ≡ where_directed (next_at m c) f
unfolding next_at
coded_directed m is c f = coded_by m.rows m.cols c (cell_at m.codes c) f (is.each c)

-- ---- the ends of a tile all of whose cells are settled

-- nothing is missing at any cell
pub none_missing_at : {A : Type 0} (t : Transport) (rule : Accumulator A) (w : TileFlow) → IsTileOf w → (s : State A) → IsUnderway t rule w s (length s.queue) → all_settled t.orient w ≡ true → (i : ℕ) → i < tile_size w → missing_at s i ≡ 0
none_missing_at t rule w is s under all i low =
    let at = tile_place w is i low in
    let queued : is_queued w s.queue (cell_place w i) ≡ true = queued_settled t rule w is s under (cell_place w i) at.inside (back_to_map w is (cell_place w i) at.below) ∙ place_settled t w is all i low in
    let on = any_on (λ j. j == cell_number w (cell_place w i)) s.queue queued in
    let here : Contains s.queue i = subst (λ (z : ℕ). Contains s.queue z) (eqb_same on.0 (cell_number w (cell_place w i)) on.2 ∙ number_back w is i low) on.1 in
    (under.counted.waits i here).1

-- so each has its local end
pub end_turn : {A : Type 0} (t : Transport) (rule : Accumulator A) → RuleLaws t rule → (w : TileFlow) (fed : List (List ℕ)) → IsWorkBegun t w fed w.a w.b → (s : State A) → IsUnderway t rule w s (length s.queue) → all_settled t.orient w ≡ true → (i : ℕ) → i < tile_size w → Turn t rule w s w.a w.b i
end_turn t rule laws w fed begun s under all i low =
    turn_of t rule laws w fed w.a w.b begun (done_come w s.queue (length s.queue)) s i under.counted low (none_missing_at t rule w begun.tile s under all i low)

-- the result at a cell, as the code finds it
pub result_is : {A : Type 0} (t : Transport) (rule : Accumulator A) → RuleLaws t rule → (w : TileFlow) (fed : List (List ℕ)) → IsWorkBegun t w fed w.a w.b → (s : State A) → IsUnderway t rule w s (length s.queue) → all_settled t.orient w ≡ true → (directed : List Bool) → directed ≡ over_cells (coded_first w.drain.codes w.tiling w.tile) (tile_size w) → (i : ℕ) → i < tile_size w →
    (d : Bool) (e : FlowEnd) → d ≡ get_or directed i d → e ≡ end_here rule s w.a w.b i → (if d then e.result else flow.Mv) ≡ where_directed (next_at w.drain (cell_place w i)) (local_end t w (cell_place w i)).result
result_is t rule laws w fed begun s under all directed listed i low d e d_is e_is =
    let coded : d ≡ is_coded (cell_at w.drain.codes (cell_place w i)) = d_is ∙ (ap (λ (y : List Bool). get_or y i d) listed ∙ over_at (coded_first w.drain.codes w.tiling w.tile) (tile_size w) i d low) in
    let end : e ≡ local_end t w (cell_place w i) = e_is ∙ (end_turn t rule laws w fed begun s under all i low).end in
    ap (λ (o : Bool). if o then e.result else flow.Mv) coded
    ∙ (ap (λ (y : FlowEnd). if is_coded (cell_at w.drain.codes (cell_place w i)) then y.result else flow.Mv) end
    ∙ coded_directed w.drain begun.tile.drain.map (cell_place w i) (local_end t w (cell_place w i)).result)

-- ---- the part

-- what is told of a value is told of what the code has
pub true_moved : {X : Type 0} (f : TileWork X → Bool) (v given : TileWork X) → v ≡ given → f given ≡ true → f v ≡ true
true_moved f v given same e = ap f same ∙ e

-- a tile has no more cells than a map
pub tile_few : (w : TileFlow) → IsTileOf w → tile_size w ≤ most_cells
tile_few w is =
    let in_map = (tile_in_map w.tiling w.tile is.tile).0 in
    let few = mul-le (tile_rect w).rows (tile_rect w).cols w.tiling.rows w.tiling.cols (omega (arith, in_map.below)) (omega (arith, in_map.right)) in
    omega (arith, few, w.tiling.sides.few_cells)

-- the result of one more cell
pub one_more : (outcome : ℕ → Outcome) (i : ℕ) (o : Outcome) (cells new : List Cell) (over now : Option ℕ) → cells ≡ tabulate (λ k. or_missing (outcome k)) i → over ≡ first_over outcome i → o ≡ outcome i → new ≡ cells ++ or_missing o ∷ [] → now ≡ or_over_at (length cells) o over →
    (new ≡ tabulate (λ k. or_missing (outcome k)) (i + 1)) × (now ≡ first_over outcome (i + 1))
one_more outcome i o cells new over now listed told same grown is =
    let next : i + 1 ≡ suc i = omega arith in
    let many : length cells ≡ i = ap length listed ∙ length-tabulate (λ k. or_missing (outcome k)) i in (
      grown
          ∙ (ap (λ (y : List Cell). y ++ or_missing o ∷ []) listed
          ∙ (ap (λ (y : Outcome). tabulate (λ k. or_missing (outcome k)) i ++ or_missing y ∷ []) same
          ∙ sym (ap (tabulate (λ k. or_missing (outcome k))) next))),
      is
          ∙ (ap (λ (n : ℕ). or_over_at n o over) many
          ∙ (ap (λ (y : Outcome). or_over_at i y over) same
          ∙ (ap (or_over_at i (outcome i)) told ∙ sym (ap (first_over outcome) next)))),
    )

-- the results of all
pub all_results : (outcome : ℕ → Outcome) (i n : ℕ) (cells part : List Cell) (over : Option ℕ) → i ≡ n → cells ≡ tabulate (λ k. or_missing (outcome k)) i → over ≡ first_over outcome i → part ≡ cells → (let p : Part = record { cells = part; over = over } in p) ≡ part_of outcome n
all_results outcome i n cells part over all listed told same =
    let one : part ≡ tabulate (λ k. or_missing (outcome k)) n = same ∙ (listed ∙ ap (tabulate (λ k. or_missing (outcome k))) all) in
    let two : over ≡ first_over outcome n = told ∙ ap (first_over outcome) all in
    ap (λ (y : List Cell). let p : Part = record { cells = y; over = over } in p) one
    ∙ ap (λ (y : Option ℕ). let p : Part = record { cells = tabulate (λ k. or_missing (outcome k)) n; over = y } in p) two
