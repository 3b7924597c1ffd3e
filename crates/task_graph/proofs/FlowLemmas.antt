-- The tasks of transports.
use Rattle.std.proofs.Common.{◌≡◌, ◌≢◌, ◌∙◌, ℕ, zero, suc, ◌+◌, ◌<◌, List, [], ◌∷◌, ◌++◌, length, get_or, map, refl, sym, ap, subst, arith, append_assoc}
use Rattle.std.specs.List.{range_with_len}
use Rattle.std.proofs.lemmas.List.{get_or-append-add, get_or_append_left, length-append, length-map, map-append}
use Rattle.task_graph.proofs.Climbs.{Each}
use Rattle.tile_map.specs.declared.tiling.Tiling.{Tiling}
use Rattle.tile_map.specs.Tiles.{tile_count}
use Rattle.drain_meaning.specs.declared.op.FlowOp.{FlowOp}
use Rattle.map_meaning.specs.declared.known.Span.{Span}
use Rattle.map_meaning.specs.declared.op.Op.{Op}
use Rattle.map_meaning.specs.declared.op.Op.TheVariants as op
use Rattle.map_meaning.specs.declared.program.Program.{Program}
use Rattle.task_graph.specs.declared.class.Class.{Class}
use Rattle.task_graph.specs.declared.class.Class.TheVariants as class
use Rattle.task_graph.specs.declared.flows.FlowTasks.{FlowTasks}
use Rattle.task_graph.specs.declared.layout.Laid.{Laid}
use Rattle.task_graph.specs.declared.layout.Layout.{Layout}
use Rattle.task_graph.specs.declared.task.Task.{Task}
use Rattle.task_graph.specs.declared.task.Work.{Work}
use Rattle.task_graph.specs.declared.task.Work.TheVariants.{Local, Window, Near, Partial, Merge, Spread, Flow}
use Rattle.task_graph.specs.Classes.{op_class}
use Rattle.task_graph.specs.Layouts.{laid_in, layout_of, size_for}
use Rattle.task_graph.specs.Needs.{Entry, each_tile, entries_for, entries_from, entry_of, task_for}
use Rattle.task_graph.specs.Plans.{entries_of, flow_by, flows_from, no_task, span_plan, task_at}
use Rattle.task_graph.specs.inside.Grown.{tasks_of_entries}
use Rattle.task_graph.proofs.Climbs.{each_append, each_at, each_map, each_range}
use Rattle.task_graph.proofs.Low.{length-entries_for}

-- the tasks of a transport stand from its first one on, one for each tile
pub record FlowStands (tiles : ℕ) (tasks : List Task) (flow : FlowTasks) : Type 0 where
  pub step : ℕ
  pub operation : ℕ
  pub within : (tile : ℕ) → tile < tiles → flow.first + tile < length tasks
  pub stands : (tile : ℕ) → tile < tiles → get_or tasks (flow.first + tile) no_task ≡ record { step = step; operation = operation; work = Flow; tile = tile }

pub tiles_at : (y : Layout) (start : ℕ) (l : Laid) (work : Work) (a n i : ℕ) → i < n → get_or (tasks_of_entries (map (entry_of y start l work) (range_with_len a n))) i no_task ≡ task_for l work (a + i)
tiles_at y start l work a zero i below = absurd (omega arith)
tiles_at y start l work a (suc n) zero below = ap (task_for l work) (none a)
  where
    none : (m : ℕ) → m ≡ m + 0
    none m = omega arith
tiles_at y start l work a (suc n) (suc i) below = tiles_at y start l work (a + 1) n i (omega arith) ∙ ap (task_for l work) (further a i)
  where
    further : (m k : ℕ) → m + 1 + k ≡ m + suc k
    further m k = omega arith

pub length-tiles : (y : Layout) (start : ℕ) (l : Laid) (work : Work) (a n : ℕ) → length (tasks_of_entries (map (entry_of y start l work) (range_with_len a n))) ≡ n
length-tiles y start l work a zero = refl
length-tiles y start l work a (suc n) = ap suc (length-tiles y start l work (a + 1) n)

-- an operation that is a transport
own_stands : (y : Layout) (start : ℕ) (l : Laid) (before rest : List Task) (drain : ℕ) (q : FlowOp) → start ≡ length before →
    FlowStands (tile_count y.tiling) (before ++ (tasks_of_entries (each_tile y start l Flow) ++ rest)) (record { first = start; drain = drain; op = q })
own_stands y start l before rest drain q at =
    let own = tasks_of_entries (each_tile y start l Flow) in
    let tiles = tile_count y.tiling in
    let size : length own ≡ tiles = length-tiles y start l Flow 0 tiles in
    record {
      step = l.step;
      operation = l.number;
      within = λ tile below. let a = length-append before (own ++ rest) in let b = length-append own rest in omega arith;
      stands = λ tile below.
          ap (λ (n : ℕ). get_or (before ++ (own ++ rest)) (n + tile) no_task) at
          ∙ (get_or-append-add before (own ++ rest) tile no_task
          ∙ (get_or_append_left own rest no_task tile (omega arith)
          ∙ (tiles_at y start l Flow 0 tiles tile below ∙ ap (task_for l Flow) (zero_plus tile))));
    }
  where
    zero_plus : (n : ℕ) → 0 + n ≡ n
    zero_plus n = omega arith

own_flow : (y : Layout) (start : ℕ) (l : Laid) (before rest : List Task) (o : Op) → o ≡ l.operation.op → start ≡ length before →
    Each (FlowStands (tile_count y.tiling) (before ++ (tasks_of_entries (entries_for y start l (op_class l.operation.op)) ++ rest))) (flow_by start l.operation.drain o)
own_flow y start l before rest (op.Flow q) e at =
    let is : class.Flow ≡ op_class l.operation.op = ap op_class e in (
      subst (λ (c : Class). FlowStands (tile_count y.tiling) (before ++ (tasks_of_entries (entries_for y start l c) ++ rest)) (record { first = start; drain = l.operation.drain; op = q })) is
          (own_stands y start l before rest l.operation.drain q at),
      tt,
    )
own_flow y start l before rest _ e at = tt

flows_stand : (y : Layout) (start : ℕ) (laid : List Laid) (before : List Task) → start ≡ length before →
    Each (FlowStands (tile_count y.tiling) (before ++ tasks_of_entries (entries_from y start laid))) (flows_from (tile_count y.tiling) start laid)
flows_stand y start [] before at = tt
flows_stand y start (l ∷ more) before at =
    let tiles = tile_count y.tiling in
    let next = start + size_for tiles l in
    let entries = entries_for y start l (op_class l.operation.op) in
    let own = tasks_of_entries entries in
    let rest = tasks_of_entries (entries_from y next more) in
    let both : before ++ tasks_of_entries (entries_from y start (l ∷ more)) ≡ before ++ (own ++ rest) = ap (λ (ts : List Task). before ++ ts) (map-append (λ (e : Entry). e.task) entries (entries_from y next more)) in
    let size : length own ≡ size_for tiles l = length-map entries (λ (e : Entry). e.task) ∙ length-entries_for y start l (op_class l.operation.op) in
    subst (λ (ts : List Task). Each (FlowStands tiles ts) (flows_from tiles start (l ∷ more))) (sym both)
    (each_append (FlowStands tiles (before ++ (own ++ rest))) (flow_by start l.operation.drain l.operation.op) (flows_from tiles next more)
    (own_flow y start l before rest l.operation.op refl at)
    (subst (λ (ts : List Task). Each (FlowStands tiles ts) (flows_from tiles next more)) (append_assoc before own rest)
    (flows_stand y next more (before ++ own) (let a = length-append before own in omega arith))))

-- the transports of a plan
pub plan_flows : (program : Program) (s : Span) (g : Tiling) → Each (FlowStands (tile_count g) (span_plan program s g).tasks) (span_plan program s g).flows
unfolding span_plan
plan_flows program s g = flows_stand (layout_of program s g) 0 (laid_in program s) [] refl

-- ---- plans without transports

-- the task of an entry is no transport's
abbrev IsNoFlow : Entry → Type 0
IsNoFlow e = e.task.work ≢ Flow

tiles_no_flow : (y : Layout) (start : ℕ) (l : Laid) (w : Work) → w ≢ Flow → Each IsNoFlow (each_tile y start l w)
tiles_no_flow y start l w apart =
    each_map IsNoFlow (entry_of y start l w) (range_with_len 0 (tile_count y.tiling)) (each_range (λ tile. w ≢ Flow) 0 (tile_count y.tiling) (λ tile below. apart))

entries_no_flow : (y : Layout) (start : ℕ) (l : Laid) (c : Class) → c ≢ class.Flow → Each IsNoFlow (entries_for y start l c)
entries_no_flow y start l class.Local apart = tiles_no_flow y start l Local (λ e. cc)
entries_no_flow y start l class.Window apart = tiles_no_flow y start l Window (λ e. cc)
entries_no_flow y start l class.Near apart = tiles_no_flow y start l Near (λ e. cc)
entries_no_flow y start l class.Flow apart = absurd (apart refl)
entries_no_flow y start l class.Area apart =
    each_append IsNoFlow (each_tile y start l Partial) (entry_of y start l Merge 0 ∷ each_tile y start l Spread) (tiles_no_flow y start l Partial (λ e. cc))
    ((λ e. cc), tiles_no_flow y start l Spread (λ e. cc))

no_flow_class : (start drain : ℕ) (o : Op) → flow_by start drain o ≡ [] → op_class o ≢ class.Flow
no_flow_class start drain (op.Flow q) none = absurd (cc)
no_flow_class start drain _ none = λ e. cc

front_none : {A : Type 0} (xs ys : List A) → xs ++ ys ≡ [] → (xs ≡ []) × (ys ≡ [])
front_none [] ys e = (refl, e)
front_none (x ∷ xs) ys e = absurd (cc)

all_no_flow : (y : Layout) (start : ℕ) (laid : List Laid) → flows_from (tile_count y.tiling) start laid ≡ [] → Each IsNoFlow (entries_from y start laid)
all_no_flow y start [] none = tt
all_no_flow y start (l ∷ more) none =
    let parts = front_none (flow_by start l.operation.drain l.operation.op) (flows_from (tile_count y.tiling) (start + size_for (tile_count y.tiling) l) more) none in
    each_append IsNoFlow (entries_for y start l (op_class l.operation.op)) (entries_from y (start + size_for (tile_count y.tiling) l) more)
    (entries_no_flow y start l (op_class l.operation.op) (no_flow_class start l.operation.drain l.operation.op parts.0))
    (all_no_flow y (start + size_for (tile_count y.tiling) l) more parts.1)

-- a plan without transports has no task of one
pub plan_no_flow : (program : Program) (s : Span) (g : Tiling) → (span_plan program s g).flows ≡ [] → (t : ℕ) → t < length (span_plan program s g).tasks → (task_at (span_plan program s g) t).work ≢ Flow
unfolding span_plan
plan_no_flow program s g none t below =
    each_at (λ (x : Task). x.work ≢ Flow) (tasks_of_entries (entries_of program s g)) t no_task
    (each_map (λ (x : Task). x.work ≢ Flow) (λ (e : Entry). e.task) (entries_of program s g) (all_no_flow (layout_of program s g) 0 (laid_in program s) none)) below
