-- The tasks of transports by their numbers.
use Rattle.std.proofs.Common.{◌≡◌, ◌≢◌, ◌∙◌, ℕ, zero, suc, ◌+◌, ◌-◌, ◌<◌, ◌≤◌, List, [], ◌∷◌, ◌++◌, length, get_or, refl, sym, ap, subst, arith, inl, inr, Bool, true, false}
use Rattle.std.specs.Prelude.{◌&&◌, nat_le, nat_lt}
use Rattle.std.specs.List.{range_with_len}
use Rattle.std.proofs.lemmas.Bool.{and_from, cases_lt}
use Rattle.std.proofs.lemmas.Bool.Decides.{leb_tells}
use Rattle.std.proofs.lemmas.List.{get_or-append-add, get_or_append_left, length-append, length-map, map-append}
use Rattle.std.proofs.lemmas.List.Sums.{position_or_len_is}
use Rattle.tile_map.specs.declared.tiling.Tiling.{Tiling}
use Rattle.tile_map.specs.Tiles.{tile_count}
use Rattle.drain_meaning.specs.Drains.{DrainMap}
use Rattle.map_meaning.specs.Limits.{most_block}
use Rattle.map_meaning.specs.Programs.{IsWellFormed}
use Rattle.map_meaning.specs.Spans.{IsSpan}
use Rattle.map_meaning.specs.declared.known.Span.{Span}
use Rattle.map_meaning.specs.declared.op.Op.{Op}
use Rattle.map_meaning.specs.declared.op.Op.TheVariants as op
use Rattle.map_meaning.specs.declared.program.Program.{Program}
use Rattle.task_graph.specs.declared.class.Class.{Class}
use Rattle.task_graph.specs.declared.class.Class.TheVariants as class
use Rattle.task_graph.specs.declared.flows.FlowTasks.{FlowTasks}
use Rattle.task_graph.specs.declared.layout.Laid.{Laid}
use Rattle.task_graph.specs.declared.layout.Layout.{Layout}
use Rattle.task_graph.specs.declared.task.Task.{Task}
use Rattle.task_graph.specs.declared.task.Work.{Work}
use Rattle.task_graph.specs.declared.task.Work.TheVariants.{Local, Window, Near, Partial, Merge, Spread, Flow}
use Rattle.task_graph.specs.Classes.{op_class, tasks_for}
use Rattle.task_graph.specs.Layouts.{laid_in, layout_of, size_for}
use Rattle.task_graph.specs.Needs.{Entry, each_tile, entries_for, entries_from, entry_of}
use Rattle.task_graph.specs.Plans.{AreOfOne, PlanValue, entries_of, flow_by, flows_from, no_task, span_plan, task_at}
use Rattle.task_graph.specs.inside.Grown.{tasks_of_entries}
use Rattle.task_graph.proofs.Climbs.{Each, each_append, each_at, each_map, each_range}
use Rattle.task_graph.proofs.FlowLemmas.{FlowStands, plan_flows}
use Rattle.task_graph.proofs.Low.{length-entries_for}
use Rattle.task_graph.proofs.PlanLaws.{IsOrdered, is_ordered}
use Rattle.plan_graph.specs.Borders.{HasDrainsOf, no_flow, transport_at}
use Rattle.plan_graph.specs.Graphs.{is_flow_work}
use Rattle.plan_graph.specs.PlanGraphs.{IsOfTransport}
use Rattle.plan_graph.specs.Transports.{own_flow, task_transport}
use Rattle.plan_graph.proofs.NumberedLemmas.{lt_tells}

-- ---- transports stand one behind the other

abbrev Spaced : ℕ → ℕ → List FlowTasks → Type 0
Spaced tiles b [] = Unit {0}
Spaced tiles b (x ∷ xs) = (b ≤ x.first) × Spaced tiles (x.first + tiles) xs

spaced_lower : (tiles b c : ℕ) (xs : List FlowTasks) → b ≤ c → Spaced tiles c xs → Spaced tiles b xs
spaced_lower tiles b c [] less h = tt
spaced_lower tiles b c (x ∷ xs) less h = ((let low = h.0 in omega arith), h.1)

spaced_by : (tiles start size drain : ℕ) (o : Op) (more : List FlowTasks) → size ≡ tasks_for tiles (op_class o) → Spaced tiles (start + size) more → Spaced tiles start (flow_by start drain o ++ more)
spaced_by tiles start size drain (op.Flow q) more e rest = (omega arith, spaced_lower tiles (start + tiles) (start + size) more (omega arith) rest)
spaced_by tiles start size drain _ more e rest = spaced_lower tiles start (start + size) more (omega arith) rest

flows_spaced : (tiles start : ℕ) (laid : List Laid) → Spaced tiles start (flows_from tiles start laid)
flows_spaced tiles start [] = tt
flows_spaced tiles start (l ∷ more) =
    spaced_by tiles start (size_for tiles l) l.operation.drain l.operation.op (flows_from tiles (start + size_for tiles l) more) refl
    (flows_spaced tiles (start + size_for tiles l) more)

spaced_low : (tiles b : ℕ) (xs : List FlowTasks) → Spaced tiles b xs → (h : ℕ) → h < length xs → b ≤ (get_or xs h no_flow).first
spaced_low tiles b [] s h below = absurd (omega arith)
spaced_low tiles b (x ∷ xs) s zero below = s.0
spaced_low tiles b (x ∷ xs) s (suc h) below = let low = s.0 in let later = spaced_low tiles (x.first + tiles) xs s.1 h (omega arith) in omega arith

spaced_at : (tiles b : ℕ) (xs : List FlowTasks) → Spaced tiles b xs → (f h : ℕ) → f < h → h < length xs → (get_or xs f no_flow).first + tiles ≤ (get_or xs h no_flow).first
spaced_at tiles b [] s f h less below = absurd (omega arith)
spaced_at tiles b (x ∷ xs) s f zero less below = absurd (omega arith)
spaced_at tiles b (x ∷ xs) s zero (suc h) less below = spaced_low tiles (x.first + tiles) xs s.1 h (omega arith)
spaced_at tiles b (x ∷ xs) s (suc f) (suc h) less below = spaced_at tiles (x.first + tiles) xs s.1 f h (omega arith) (omega arith)

-- ---- each task of a transport is one of a transport's

-- the task with this number is one of a transport's
pub record IsCovered (tiles : ℕ) (flows : List FlowTasks) (t : ℕ) : Type 0 where
  pub transport : ℕ
  pub there : transport < length flows
  pub first : (get_or flows transport no_flow).first ≤ t
  pub last : t < (get_or flows transport no_flow).first + tiles

covered_by : (tiles start drain t : ℕ) (o : Op) (more : List FlowTasks) → IsCovered tiles more t → IsCovered tiles (flow_by start drain o ++ more) t
covered_by tiles start drain t (op.Flow q) more c = record { transport = suc c.transport; there = (let h = c.there in omega arith); first = c.first; last = c.last }
covered_by tiles start drain t _ more c = c

-- the task of an entry is no transport's
abbrev IsNoFlow : Entry → Type 0
IsNoFlow e = e.task.work ≢ Flow

tiles_no_flow : (y : Layout) (start : ℕ) (l : Laid) (w : Work) → w ≢ Flow → Each IsNoFlow (each_tile y start l w)
tiles_no_flow y start l w apart =
    each_map IsNoFlow (entry_of y start l w) (range_with_len 0 (tile_count y.tiling)) (each_range (λ tile. w ≢ Flow) 0 (tile_count y.tiling) (λ tile below. apart))

entries_no_flow : (y : Layout) (start : ℕ) (l : Laid) (c : Class) → c ≢ class.Flow → Each IsNoFlow (entries_for y start l c)
entries_no_flow y start l class.Local apart = tiles_no_flow y start l Local (λ e. cc)
entries_no_flow y start l class.Window apart = tiles_no_flow y start l Window (λ e. cc)
entries_no_flow y start l class.Near apart = tiles_no_flow y start l Near (λ e. cc)
entries_no_flow y start l class.Flow apart = absurd (apart refl)
entries_no_flow y start l class.Area apart =
    each_append IsNoFlow (each_tile y start l Partial) (entry_of y start l Merge 0 ∷ each_tile y start l Spread) (tiles_no_flow y start l Partial (λ e. cc))
    ((λ e. cc), tiles_no_flow y start l Spread (λ e. cc))

own_no_flow : (y : Layout) (start : ℕ) (l : Laid) (c : Class) (i : ℕ) → c ≢ class.Flow → i < length (entries_for y start l c) → (get_or (tasks_of_entries (entries_for y start l c)) i no_task).work ≢ Flow
own_no_flow y start l c i apart below =
    let es = entries_for y start l c in
    let size = length-map es (λ (e : Entry). e.task) in
    each_at (λ (t : Task). t.work ≢ Flow) (tasks_of_entries es) i no_task (each_map (λ (t : Task). t.work ≢ Flow) (λ (e : Entry). e.task) es (entries_no_flow y start l c apart)) (omega arith)

-- the tasks of one operation
own_covered : (y : Layout) (start : ℕ) (l : Laid) (o : Op) (more : List FlowTasks) (i : ℕ) → o ≡ l.operation.op → i < length (entries_for y start l (op_class l.operation.op)) →
    (get_or (tasks_of_entries (entries_for y start l (op_class l.operation.op))) i no_task).work ≡ Flow → IsCovered (tile_count y.tiling) (flow_by start l.operation.drain o ++ more) (start + i)
own_covered y start l (op.Flow q) more i e below is =
    let size : length (entries_for y start l (op_class l.operation.op)) ≡ tasks_for (tile_count y.tiling) (op_class l.operation.op) = length-entries_for y start l (op_class l.operation.op) in
    let many : tile_count y.tiling ≡ tasks_for (tile_count y.tiling) (op_class l.operation.op) = ap (λ (p : Op). tasks_for (tile_count y.tiling) (op_class p)) e in
    record { transport = 0; there = omega arith; first = omega arith; last = omega arith }
own_covered y start l _ more i e below is =
    absurd (own_no_flow y start l (op_class l.operation.op) i (λ k. let same = ap op_class e ∙ k in cc) below is)

-- the tasks of these operations
flows_cover : (y : Layout) (start : ℕ) (laid : List Laid) (i : ℕ) → i < length (entries_from y start laid) → (get_or (tasks_of_entries (entries_from y start laid)) i no_task).work ≡ Flow →
    IsCovered (tile_count y.tiling) (flows_from (tile_count y.tiling) start laid) (start + i)
flows_cover y start [] i below is = absurd (omega arith)
flows_cover y start (l ∷ more) i below is =
    let tiles = tile_count y.tiling in
    let size = size_for tiles l in
    let own = entries_for y start l (op_class l.operation.op) in
    let rest = entries_from y (start + size) more in
    let flows = flows_from tiles (start + size) more in
    let own_size : length own ≡ size = length-entries_for y start l (op_class l.operation.op) in
    let both : length (own ++ rest) ≡ length own + length rest = length-append own rest in
    let own_tasks : length (tasks_of_entries own) ≡ length own = length-map own (λ (e : Entry). e.task) in
    let parts : tasks_of_entries (own ++ rest) ≡ tasks_of_entries own ++ tasks_of_entries rest = map-append (λ (e : Entry). e.task) own rest in
    let at : (get_or (tasks_of_entries own ++ tasks_of_entries rest) i no_task).work ≡ Flow = ap (λ (ts : List Task). (get_or ts i no_task).work) (sym parts) ∙ is in
    elim (cases_lt i (length own)) as (λ _. IsCovered tiles (flow_by start l.operation.drain l.operation.op ++ flows) (start + i)) [
      | inl low ↦
          own_covered y start l l.operation.op flows i refl low
          (ap (λ (t : Task). t.work) (sym (get_or_append_left (tasks_of_entries own) (tasks_of_entries rest) no_task i (omega arith))) ∙ at)
      | inr high ↦
          let k = i - length own in
          let number : length (tasks_of_entries own) + k ≡ i = omega arith in
          let there : (get_or (tasks_of_entries rest) k no_task).work ≡ Flow =
          ap (λ (t : Task). t.work) (sym (get_or-append-add (tasks_of_entries own) (tasks_of_entries rest) k no_task))
          ∙ (ap (λ (n : ℕ). (get_or (tasks_of_entries own ++ tasks_of_entries rest) n no_task).work) number ∙ at) in
          let later : IsCovered tiles flows (start + size + k) = flows_cover y (start + size) more k (omega arith) there in
          covered_by tiles start l.operation.drain (start + i) l.operation.op flows (subst (IsCovered tiles flows) (omega arith) later)
    ]

-- ---- plans

-- what is known of a plan with the drain maps of its transports
pub record Fits (plan : PlanValue) (maps : List DrainMap) : Type 0 where
  pub ordered : IsOrdered plan
  pub stands : (f : ℕ) → f < length plan.flows → FlowStands (tile_count plan.tiling) plan.tasks (transport_at plan f)
  pub spaced : (f h : ℕ) → f < h → h < length plan.flows → (transport_at plan f).first + tile_count plan.tiling ≤ (transport_at plan h).first
  pub covered : (t : ℕ) → t < length plan.tasks → (task_at plan t).work ≡ Flow → IsCovered (tile_count plan.tiling) plan.flows t
  pub drains : HasDrainsOf plan maps

plan_stands : (program : Program) (s : Span) (g : Tiling) (f : ℕ) → f < length (span_plan program s g).flows →
    FlowStands (tile_count (span_plan program s g).tiling) (span_plan program s g).tasks (transport_at (span_plan program s g) f)
unfolding span_plan
plan_stands program s g f below = each_at (FlowStands (tile_count g) (span_plan program s g).tasks) (span_plan program s g).flows f no_flow (plan_flows program s g) below

plan_spaced : (program : Program) (s : Span) (g : Tiling) (f h : ℕ) → f < h → h < length (span_plan program s g).flows →
    (transport_at (span_plan program s g) f).first + tile_count (span_plan program s g).tiling ≤ (transport_at (span_plan program s g) h).first
unfolding span_plan
plan_spaced program s g f h less below = spaced_at (tile_count g) 0 (flows_from (tile_count g) 0 (laid_in program s)) (flows_spaced (tile_count g) 0 (laid_in program s)) f h less below

plan_covered : (program : Program) (s : Span) (g : Tiling) (t : ℕ) → t < length (span_plan program s g).tasks → (task_at (span_plan program s g) t).work ≡ Flow →
    IsCovered (tile_count (span_plan program s g).tiling) (span_plan program s g).flows t
unfolding span_plan
plan_covered program s g t below is =
    let es = entries_of program s g in
    let size = length-map es (λ (e : Entry). e.task) in
    subst (IsCovered (tile_count g) (flows_from (tile_count g) 0 (laid_in program s))) (none t)
    (flows_cover (layout_of program s g) 0 (laid_in program s) t (omega arith) is)
  where
    none : (n : ℕ) → 0 + n ≡ n
    none n = omega arith

pub plan_fits : (program : Program) (s : Span) (g : Tiling) (drains : List DrainMap) → IsWellFormed program → IsSpan program s most_block → HasDrainsOf (span_plan program s g) drains → Fits (span_plan program s g) drains
plan_fits program s g drains well is has = record {
  ordered = is_ordered program s g well is;
  stands = plan_stands program s g;
  spaced = plan_spaced program s g;
  covered = plan_covered program s g;
  drains = has;
}

-- ---- the transport of a task

own_yes : (g : Tiling) (t : ℕ) (flow : FlowTasks) → flow.first ≤ t → t < flow.first + tile_count g → own_flow g t flow ≡ true
own_yes g t flow first last = and_from (nat_le flow.first t) (nat_lt t (flow.first + tile_count g))
    (elim (leb_tells flow.first t) as (λ _. nat_le flow.first t ≡ true) [ inl low ↦ low.0 | inr high ↦ absurd (let h = high.1 in omega arith) ])
    (elim (lt_tells t (flow.first + tile_count g)) as (λ _. nat_lt t (flow.first + tile_count g) ≡ true) [ inl low ↦ low.0 | inr high ↦ absurd (let h = high.1 in omega arith) ])

own_not : (g : Tiling) (t : ℕ) (flow : FlowTasks) → flow.first + tile_count g ≤ t → own_flow g t flow ≡ false
own_not g t flow past = elim (lt_tells t (flow.first + tile_count g)) as (λ _. own_flow g t flow ≡ false) [
  | inl low ↦ absurd (let h = low.1 in omega arith)
  | inr high ↦ no_right (nat_le flow.first t) (nat_lt t (flow.first + tile_count g)) high.0
]
  where
    no_right : (a b : Bool) → b ≡ false → (a && b) ≡ false
    no_right true b e = e
    no_right false b e = refl

module _ {plan : PlanValue} {drains : List DrainMap} (fits : Fits plan drains) where
  -- a tile's task is that of its transport
  pub of_transport : (f tile : ℕ) → f < length plan.flows → tile < tile_count plan.tiling → IsOfTransport plan ((transport_at plan f).first + tile) f tile
  of_transport f tile below within =
      let first = (transport_at plan f).first in record {
        there = below;
        below = within;
        number = refl;
        transport = position_or_len_is (own_flow plan.tiling (first + tile)) plan.flows f no_flow (omega arith)
            (λ k less. own_not plan.tiling (first + tile) (transport_at plan k) (let h = fits.spaced k f less below in omega arith))
            (λ _. own_yes plan.tiling (first + tile) (transport_at plan f) (omega arith) (omega arith));
        tile_is = ap (λ (t : Task). t.tile) ((fits.stands f below).stands tile within);
      }

  -- a task of a transport is that of its tile
  pub at_tile : (t : ℕ) → t < length plan.tasks → (task_at plan t).work ≡ Flow → IsOfTransport plan t (task_transport plan t) (task_at plan t).tile
  at_tile t below is =
      let c = fits.covered t below is in
      let first = (transport_at plan c.transport).first in
      let low = c.first in
      let high = c.last in
      let tile = t - first in
      let number : first + tile ≡ t = omega arith in
      let own : IsOfTransport plan t c.transport tile = subst (λ (n : ℕ). IsOfTransport plan n c.transport tile) number (of_transport c.transport tile c.there (omega arith)) in
      subst (λ (f : ℕ). IsOfTransport plan t f (task_at plan t).tile) (sym own.transport)
      (subst (λ (k : ℕ). IsOfTransport plan t c.transport k) (sym own.tile_is) own)

-- a task of a transport is one by its work
pub flow_work : (w : Work) → is_flow_work w ≡ true → w ≡ Flow
flow_work Flow is = refl
flow_work _ is = absurd (cc)

module _ {plan : PlanValue} {drains : List DrainMap} (fits : Fits plan drains) where
  -- what a task of a transport is
  stands_so : (t f tile : ℕ) → IsOfTransport plan t f tile → (within : f < length plan.flows) → task_at plan t ≡ record { step = (fits.stands f within).step; operation = (fits.stands f within).operation; work = Flow; tile = tile }
  stands_so t f tile is within = ap (task_at plan) is.number ∙ (fits.stands f within).stands tile is.below

  -- the tasks of one transport are of one operation at one step
  pub are_alike : (t u f i k : ℕ) → IsOfTransport plan t f i → IsOfTransport plan u f k → AreOfOne (task_at plan t) (task_at plan u)
  are_alike t u f i k one two =
      let a = stands_so t f i one one.there in
      let b = stands_so u f k two one.there in
      (ap (λ (x : Task). x.step) a ∙ sym (ap (λ (x : Task). x.step) b), ap (λ (x : Task). x.operation) a ∙ sym (ap (λ (x : Task). x.operation) b))
