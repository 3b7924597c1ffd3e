-- The tasks of a plan's transports: of which operation they are, its border edges, and what they read.
use Rattle.std.proofs.Common.{◌≡◌, ◌∙◌, ℕ, ◌+◌, ◌<◌, true, List, [], ◌∷◌, ◌++◌, length, get_or, map, take, refl, sym, ap, subst, arith, append_assoc}
use Rattle.std.specs.Prelude.{Some, slice_get}
use Rattle.std.specs.List.{AllZip}
use Rattle.std.proofs.lemmas.Option.{get_or_from_slice_get, slice_get_within}
use Rattle.tile_map.specs.Tiles.{tile_count}
use Rattle.tile_map.specs.declared.tiling.Tiling.{Tiling}
use Rattle.drain_meaning.specs.declared.op.FlowOp.{FlowOp}
use Rattle.drain_meaning.specs.Drains.{DrainMap}
use Rattle.drain_meaning.specs.Equations.{orient_of}
use Rattle.border_channel.specs.declared.edge.Edge.{Edge}
use Rattle.border_channel.specs.Edges.{border_edges_of}
use Rattle.flow_task.specs.Works.{TileWork}
use Rattle.map_meaning.specs.Table.{goes_along_drains}
use Rattle.map_meaning.specs.declared.known.Known.{Known}
use Rattle.map_meaning.specs.declared.known.Span.{Span}
use Rattle.map_meaning.specs.declared.op.Op.{Op}
use Rattle.map_meaning.specs.declared.op.Op.TheVariants as op
use Rattle.map_meaning.specs.declared.program.Operation.{Operation}
use Rattle.map_meaning.specs.declared.program.Program.{Program}
use Rattle.plan_graph.specs.Borders.{no_drain_map, no_flow, transport_at}
use Rattle.plan_graph.specs.Graphs.{is_flow_work}
use Rattle.span_operands.specs.declared.scope.Scope.{Scope}
use Rattle.span_operands.specs.declared.scope.Scope.TheVariants as scope
use Rattle.span_operands.specs.inside.Held.{HasDrainMap}
use Rattle.span_operands.specs.inside.Scopes.{IsScopeOf}
use Rattle.task_laws.specs.Laws.{AreCutsOfMaps}
use Rattle.task_graph.specs.declared.class.Class.{Class}
use Rattle.task_graph.specs.declared.class.Class.TheVariants as class
use Rattle.task_graph.specs.declared.flows.FlowTasks.{FlowTasks as Transports}
use Rattle.task_graph.specs.declared.layout.Laid.{Laid}
use Rattle.task_graph.specs.declared.task.Task.{Task}
use Rattle.task_graph.specs.declared.task.Work.{Work}
use Rattle.task_graph.specs.declared.task.Work.TheVariants as work
use Rattle.task_graph.specs.Classes.{op_class}
use Rattle.task_graph.specs.Layouts.{laid_in, layout_of, size_for, tasks_in}
use Rattle.task_graph.specs.Needs.{each_tile, entries_for, needs_of, reads_of, task_for}
use Rattle.task_graph.specs.Plans.{PlanValue, flow_by, flows_from, needs_at, no_task, span_plan, task_at}
use Rattle.task_graph.specs.inside.Grown.{tasks_of_entries}
use Rattle.task_graph.proofs.Climbs.{Each, each_append, each_at}
use Rattle.task_graph.proofs.FlowLemmas.{length-tiles, tiles_at}
use Rattle.task_graph.proofs.Spans.{tasks_append}
use Rattle.task_tiles.specs.FlowTiles.{IsBegunOn, IsFlowBegun}
use Rattle.task_tiles.specs.declared.tile.Tile.{Tile}
use Rattle.task_tiles.specs.TaskTiles.{IsPlanned, IsTaskTile, onward_done, span_section}
use Rattle.tile_tasks.specs.TaskEdges.{AreTaskEdges}
use Rattle.tile_tasks.specs.inside.Flows.{AreTileEdges, IsTransport, ReadsFlow}
use Rattle.tile_tasks.specs.inside.Tasks.{IsTaskAt}
use Rattle.tile_tasks.proofs.LaidLemmas.{IsInSpan, laid_is}
use Rattle.tile_tasks.proofs.NeedTiles.{are_told, one_there}
use Rattle.tile_tasks.proofs.PlanTasks.{IsWorkOf, SuitsClass, get_at, is_work_of, own_stands, take_at}
use Rattle.tile_tasks.proofs.RunLemmas.{flow_drain, flow_reads, task_is}
use Rattle.tile_tasks.proofs.FlowLemmas.{transport_is}
use Rattle.tile_tasks.proofs.WorkLemmas.{flow_scope, scope_class}

-- ---- the transports of a plan

-- it is the transport of an operation of the list, whose tasks begin behind those of the operations before
record IsLaidFlow (tiles : ℕ) (laid : List Laid) (f : Transports) : Type 0 where
  place : ℕ
  of : Laid
  there : slice_get laid place ≡ Some of
  first : f.first ≡ tasks_in tiles (take place laid)
  op_is : of.operation.op ≡ op.Flow f.op
  drain : f.drain ≡ of.operation.drain

laid_flow : (tiles : ℕ) (before : List Laid) (l : Laid) (more : List Laid) (o : Op) → l.operation.op ≡ o → Each (IsLaidFlow tiles (before ++ l ∷ more)) (flow_by (tasks_in tiles before) l.operation.drain o)
laid_flow tiles before l more (op.Flow q) is = (
  record {
    place = length before;
    of = l;
    there = get_at before l more;
    first = ap (tasks_in tiles) (sym (take_at before (l ∷ more)));
    op_is = is;
    drain = refl;
  },
  tt,
)
laid_flow tiles before l more _ is = tt

laid_flows : (tiles : ℕ) (before rest : List Laid) → Each (IsLaidFlow tiles (before ++ rest)) (flows_from tiles (tasks_in tiles before) rest)
laid_flows tiles before [] = tt
laid_flows tiles before (l ∷ more) =
    let start = tasks_in tiles before in
    let next : tasks_in tiles (before ++ l ∷ []) ≡ start + size_for tiles l = let h = tasks_append tiles before (l ∷ []) in omega arith in
    each_append (IsLaidFlow tiles (before ++ l ∷ more)) (flow_by start l.operation.drain l.operation.op) (flows_from tiles (start + size_for tiles l) more)
    (laid_flow tiles before l more l.operation.op refl)
    (subst (λ (n : ℕ). Each (IsLaidFlow tiles (before ++ l ∷ more)) (flows_from tiles n more)) next
    (subst (λ (ls : List Laid). Each (IsLaidFlow tiles ls) (flows_from tiles (tasks_in tiles (before ++ l ∷ [])) more)) (append_assoc before (l ∷ []) more)
    (laid_flows tiles (before ++ l ∷ []) more)))

plan_flow : (program : Program) (s : Span) (g : Tiling) (f : ℕ) → f < length (span_plan program s g).flows → IsLaidFlow (tile_count g) (laid_in program s) (transport_at (span_plan program s g) f)
unfolding span_plan
plan_flow program s g f below = each_at (IsLaidFlow (tile_count g) (laid_in program s)) (flows_from (tile_count g) 0 (laid_in program s)) f no_flow (laid_flows (tile_count g) [] (laid_in program s)) below

-- the task of a transport on a tile
flow_task_at : (program : Program) (s : Span) (g : Tiling) (place : ℕ) (l : Laid) (tile : ℕ) → slice_get (laid_in program s) place ≡ Some l → op_class l.operation.op ≡ class.Flow → tile < tile_count g →
    task_at (span_plan program s g) (tasks_in (tile_count g) (take place (laid_in program s)) + tile) ≡ task_for l work.Flow tile
flow_task_at program s g place l tile is flows below =
    let y = layout_of program s g in
    let start = tasks_in (tile_count g) (take place (laid_in program s)) in
    let own = tasks_of_entries (each_tile y start l work.Flow) in
    let own_are : tasks_of_entries (entries_for y start l (op_class l.operation.op)) ≡ own = ap (λ (c : Class). tasks_of_entries (entries_for y start l c)) flows in
    let count : length own ≡ tile_count g = length-tiles y start l work.Flow 0 (tile_count g) in
    let size = ap length own_are in
    let none : 0 + tile ≡ tile = omega arith in
    own_stands program s g place l tile is (omega arith)
    ∙ (ap (λ (ts : List Task). get_or ts tile no_task) own_are
    ∙ (tiles_at y start l work.Flow 0 (tile_count g) tile below ∙ ap (task_for l work.Flow) none))

-- ---- the task with a number

-- what a task of a transport is asked
record IsAsked (program : Program) (s : Span) (known : Known) (g : Tiling) (task : Task) (o : Operation) (edges : List Edge) (into out : List ℕ) (ts : List Tile) : Type 0 where
  transports : (sc : Scope) → IsScopeOf sc o.op → IsTransport sc
  at : IsTaskAt program s known g task.step task.tile o
  drain : goes_along_drains o.op ≡ true → HasDrainMap known o.drain
  edges_are : (q : FlowOp) → o.op ≡ op.Flow q → AreTileEdges known g task.tile o q edges into out
  reads : ReadsFlow program s known g task.step task.tile o ts (onward_done program s known task.step)

-- it is of an operation of the span's section, and is asked that
pub record IsBeginning (plan : PlanValue) (s : Span) (program : Program) (known : Known) (t : ℕ) (edges : List Edge) (into out : List ℕ) (ts : List Tile) : Type 0 where
  pub operation : Operation
  pub there : slice_get (span_section program s) (task_at plan t).operation ≡ Some operation
  asked : IsAsked program s known plan.tiling (task_at plan t) operation edges into out ts

-- a task of a transport is one by its work
pub flow_work : (w : Work) → is_flow_work w ≡ true → w ≡ work.Flow
flow_work work.Flow is = refl
flow_work w is = absurd (cc)

flow_class : (c : Class) → SuitsClass c work.Flow → c ≡ class.Flow
flow_class class.Flow suits = refl
flow_class c suits = absurd suits

-- the border edges of the transport that the task is of are those of its operation
edges_of_task : (plan : PlanValue) (s : Span) (program : Program) (known : Known) (planned : IsPlanned plan s program known) (t : ℕ) (l : Laid) (tile : ℕ) (edges : List Edge) (into out : List ℕ) →
    AreTaskEdges plan known.drains t edges into out → task_at plan t ≡ task_for l work.Flow tile → tile < tile_count plan.tiling → slice_get (span_section program s) l.number ≡ Some l.operation →
    (q : FlowOp) → l.operation.op ≡ op.Flow q → AreTileEdges known plan.tiling (task_at plan t).tile l.operation q edges into out
edges_of_task plan s program known planned t l tile edges into out are task below l_there q q_is =
    let g = plan.tiling in
    let f = transport_at plan are.transport in
    let laid = laid_in program s in
    let of : IsLaidFlow (tile_count g) laid f =
    subst (λ (p : PlanValue). IsLaidFlow (tile_count g) laid (transport_at p are.transport)) (sym planned.plans)
    (plan_flow program s g are.transport (subst (λ (p : PlanValue). are.transport < length p.flows) planned.plans are.there)) in
    let k = of.of in
    let start = tasks_in (tile_count g) (take of.place laid) in
    let tile_is : (task_at plan t).tile ≡ tile = ap (λ (x : Task). x.tile) task in
    let number : t ≡ start + tile = are.first ∙ (ap (λ (n : ℕ). n + (task_at plan t).tile) of.first ∙ ap (λ (n : ℕ). start + n) tile_is) in
    let stands : task_at plan t ≡ task_for k work.Flow tile =
    ap (task_at plan) number ∙ (ap (λ (p : PlanValue). task_at p (start + tile)) planned.plans ∙ flow_task_at program s g of.place k tile of.there (ap op_class of.op_is) below) in
    let k_there = (laid_is program s of.place k planned.spans of.there).there in
    let same : k.operation ≡ l.operation = one_there (span_section program s) k.number l.number k.operation l.operation (ap (λ (x : Task). x.operation) (sym stands ∙ task)) k_there l_there in
    let ops : op.Flow f.op ≡ op.Flow q = sym of.op_is ∙ (ap (λ (o : Operation). o.op) same ∙ q_is) in
    let op_same : f.op ≡ q = cc in
    let drain_same : f.drain ≡ l.operation.drain = of.drain ∙ ap (λ (o : Operation). o.drain) same in
    record {
      edges_are = λ m along.
          are.edges_are
          ∙ (ap (λ (n : ℕ). border_edges_of (get_or known.drains n no_drain_map) g (orient_of f.op)) drain_same
          ∙ (ap (λ (d : DrainMap). border_edges_of d g (orient_of f.op)) (get_or_from_slice_get known.drains l.operation.drain m no_drain_map along)
          ∙ ap (λ (p : FlowOp). border_edges_of m g (orient_of p)) op_same));
      into_are = are.into_are;
      out_are = are.out_are;
    }

-- The task with this number is of an operation of the span, on a tile, and reads its tile of each operand.
pub record IsFlowTask (plan : PlanValue) (s : Span) (program : Program) (t : ℕ) : Type 0 where
  pub of : Laid
  pub tile : ℕ
  pub in_span : IsInSpan program s of
  pub below : tile < tile_count plan.tiling
  pub task : task_at plan t ≡ task_for of work.Flow tile
  pub reads : needs_at plan t ≡ reads_of (layout_of program s plan.tiling) of (tile ∷ [])
  pub class_is : op_class of.operation.op ≡ class.Flow

pub flow_task_is : (plan : PlanValue) (s : Span) (program : Program) (known : Known) (t : ℕ) → IsPlanned plan s program known → t < length plan.tasks → is_flow_work (task_at plan t).work ≡ true → IsFlowTask plan s program t
unfolding needs_of
flow_task_is plan s program known t planned below flows =
    let g = plan.tiling in
    let y = layout_of program s g in
    let there : t < length (span_plan program s g).tasks = subst (λ (p : PlanValue). t < length p.tasks) planned.plans below in
    let is : IsWorkOf y (laid_in program s) (task_at plan t) (needs_at plan t) =
    subst (λ (p : PlanValue). IsWorkOf y (laid_in program s) (task_at p t) (needs_at p t)) (sym planned.plans) (is_work_of program s g t there) in
    let l = is.laid_there in
    let work_is : is.work ≡ work.Flow = flow_work is.work (subst (λ (k : Task). is_flow_work k.work ≡ true) is.is flows) in
    let start = tasks_in (tile_count g) (take is.place (laid_in program s)) in
    record {
      of = l;
      tile = is.tile;
      in_span = laid_is program s is.place l planned.spans is.there;
      below = is.below;
      task = is.is ∙ ap (λ (w : Work). task_for l w is.tile) work_is;
      reads = is.reads ∙ ap (λ (w : Work). needs_of y start l w is.tile) work_is;
      class_is = flow_class (op_class l.operation.op) (subst (λ (w : Work). SuitsClass (op_class l.operation.op) w) work_is is.suits);
    }

-- the transport that a task is of is that of its operation, along the operation's drain map
pub transport_of_task : (plan : PlanValue) (s : Span) (program : Program) (known : Known) (t f : ℕ) (o : Operation) (q : FlowOp) → IsPlanned plan s program known → t < length plan.tasks → is_flow_work (task_at plan t).work ≡ true →
    f < length plan.flows → t ≡ (transport_at plan f).first + (task_at plan t).tile → slice_get (span_section program s) (task_at plan t).operation ≡ Some o → o.op ≡ op.Flow q →
    ((transport_at plan f).op ≡ q) × ((transport_at plan f).drain ≡ o.drain)
transport_of_task plan s program known t f o q planned low flows below first there transport =
    let g = plan.tiling in
    let h = transport_at plan f in
    let laid = laid_in program s in
    let is = flow_task_is plan s program known t planned low flows in
    let of : IsLaidFlow (tile_count g) laid h =
    subst (λ (p : PlanValue). IsLaidFlow (tile_count g) laid (transport_at p f)) (sym planned.plans)
    (plan_flow program s g f (subst (λ (p : PlanValue). f < length p.flows) planned.plans below)) in
    let k = of.of in
    let start = tasks_in (tile_count g) (take of.place laid) in
    let tile_is : (task_at plan t).tile ≡ is.tile = ap (λ (x : Task). x.tile) is.task in
    let number : t ≡ start + is.tile = first ∙ (ap (λ (n : ℕ). n + (task_at plan t).tile) of.first ∙ ap (λ (n : ℕ). start + n) tile_is) in
    let stands : task_at plan t ≡ task_for k work.Flow is.tile =
    ap (task_at plan) number ∙ (ap (λ (p : PlanValue). task_at p (start + is.tile)) planned.plans ∙ flow_task_at program s g of.place k is.tile of.there (ap op_class of.op_is) is.below) in
    let k_there = (laid_is program s of.place k planned.spans of.there).there in
    let same : k.operation ≡ o = one_there (span_section program s) k.number (task_at plan t).operation k.operation o (ap (λ (x : Task). x.operation) (sym stands)) k_there there in
    let ops : op.Flow h.op ≡ op.Flow q = sym of.op_is ∙ (ap (λ (p : Operation). p.op) same ∙ transport) in
    (cc, of.drain ∙ ap (λ (p : Operation). p.drain) same)

pub beginning : {A : Type 0} (f : A → Tile) → AreCutsOfMaps → (plan : PlanValue) (s : Span) (program : Program) (known : Known) (t : ℕ) (edges : List Edge) (into out : List ℕ) (xs : List A) → IsPlanned plan s program known → t < length plan.tasks →
    is_flow_work (task_at plan t).work ≡ true → AreTaskEdges plan known.drains t edges into out → AllZip (λ a n. IsTaskTile plan s program known n (f a)) xs (needs_at plan t) → IsBeginning plan s program known t edges into out (map f xs)
beginning f law plan s program known t edges into out xs planned below flows are all =
    let ts = map f xs in
    let told = are_told f (IsTaskTile plan s program known) xs (needs_at plan t) all in
    let g = plan.tiling in
    let is = flow_task_is plan s program known t planned below flows in
    let l = is.of in
    let o = l.operation in
    let asked : IsAsked program s known g (task_for l work.Flow is.tile) o edges into out ts = record {
      transports = λ sc scope_is. flow_scope sc (sym (scope_class sc o.op scope_is) ∙ is.class_is);
      at = task_is law plan s program known planned l is.in_span is.tile is.below;
      drain = flow_drain law plan s program known planned l is.in_span is.tile is.below;
      edges_are = λ q q_is. subst (λ (k : Task). AreTileEdges known g k.tile o q edges into out) is.task (edges_of_task plan s program known planned t l is.tile edges into out are is.task is.below is.in_span.there q q_is);
      reads = flow_reads law plan s program known planned l is.in_span is.tile is.below (needs_at plan t) ts is.reads told;
    } in
    record {
      operation = o;
      there = ap (λ (k : Task). slice_get (span_section program s) k.operation) is.task ∙ is.in_span.there;
      asked = subst (λ (k : Task). IsAsked program s known g k o edges into out ts) (sym is.task) asked;
    }

-- the same of a task and an operation that were looked up
module _ (plan : PlanValue) (s : Span) (program : Program) (known : Known) (t : ℕ) (edges : List Edge) (into out : List ℕ) (ts : List Tile) (is : IsBeginning plan s program known t edges into out ts) (task : Task) (os : List Operation) (d : Operation)
    (at : slice_get plan.tasks t ≡ Some task) (all : os ≡ span_section program s) where
  task_same : task_at plan t ≡ task
  task_same = get_or_from_slice_get plan.tasks t task no_task at

  operation_there : slice_get os task.operation ≡ Some is.operation
  operation_there = ap (λ (xs : List Operation). slice_get xs task.operation) all ∙ (ap (λ (k : Task). slice_get (span_section program s) k.operation) (sym task_same) ∙ is.there)

  pub flow_operation_below : task.operation < length os
  flow_operation_below = slice_get_within os task.operation is.operation operation_there

  abbrev o : Operation
  o = get_or os task.operation d

  same : is.operation ≡ o
  same = sym (get_or_from_slice_get os task.operation is.operation d operation_there)

  asked_there : (g : Tiling) → g ≡ plan.tiling → IsAsked program s known g task o edges into out ts
  asked_there g tiling =
      subst (λ (h : Tiling). IsAsked program s known h task o edges into out ts) (sym tiling)
      (subst (λ (p : Operation). IsAsked program s known plan.tiling task p edges into out ts) same (subst (λ (k : Task). IsAsked program s known plan.tiling k is.operation edges into out ts) task_same is.asked))

  pub flow_transports : (sc : Scope) → IsScopeOf sc o.op → IsTransport sc
  flow_transports sc scope_is = (asked_there plan.tiling refl).transports sc scope_is

  pub flow_at : (g : Tiling) → g ≡ plan.tiling → IsTaskAt program s known g task.step task.tile o
  flow_at g tiling = (asked_there g tiling).at

  pub flow_drain_there : (q : FlowOp) → IsScopeOf (scope.Transport q) o.op → HasDrainMap known o.drain
  flow_drain_there q scope_is = (asked_there plan.tiling refl).drain scope_is.1

  pub flow_edges : (g : Tiling) → g ≡ plan.tiling → (q : FlowOp) → IsScopeOf (scope.Transport q) o.op → AreTileEdges known g task.tile o q edges into out
  flow_edges g tiling q scope_is = (asked_there g tiling).edges_are q (transport_is q o.op scope_is.0)

  pub flow_read : (g : Tiling) → g ≡ plan.tiling → ReadsFlow program s known g task.step task.tile o ts (onward_done program s known task.step)
  flow_read g tiling = (asked_there g tiling).reads

  pub flow_begins : (g : Tiling) (q : FlowOp) (w : TileWork FlowOp) → g ≡ plan.tiling → IsScopeOf (scope.Transport q) o.op → w.which ≡ q → IsBegunOn program known g task.step (onward_done program s known task.step) o task.tile w → IsFlowBegun plan s program known t w
  flow_begins g q w tiling scope_is which begun =
      let of = λ (k : Task) (p : Operation) (h : Tiling). IsBegunOn program known h k.step (onward_done program s known k.step) p k.tile w in
      record {
        operation = is.operation;
        there = is.there;
        transport = ap (λ (p : Operation). p.op) same ∙ (transport_is q o.op scope_is.0 ∙ ap op.Flow (sym which));
        is = subst (λ (k : Task). of k is.operation plan.tiling) (sym task_same) (subst (λ (p : Operation). of task p plan.tiling) (sym same) (subst (λ (h : Tiling). of task o h) tiling begun));
      }
