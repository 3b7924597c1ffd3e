-- A plan with its graph, and what is kept of them.
use Rattle.std.specs.Prelude.{◌≡◌, ◌⊎◌, ℕ, ◌+◌, ◌*◌, ◌<◌, ◌^◌, ◌==◌}
use Rattle.std.specs.Prelude.{Bool, true, false, List, [], length, map, slice_index_or}
use Rattle.std.specs.List.{filter, range_with_len}
use Rattle.core_model.specs.Counts.{flag, sum_below}
use Rattle.core_model.specs.Graphs.{Each, Graph, IsSoundGraph, edge_at as edge_number, from_task, into_task}
use Rattle.number_lists.specs.Turned.{times, turned_of}
use Rattle.tile_map.specs.declared.tiling.Tiling.{Tiling}
use Rattle.tile_map.specs.Tiles.{tile_count}
use Rattle.drain_meaning.specs.Drains.{DrainMap}
use Rattle.border_channel.specs.Edges.{edge_at}
use Rattle.map_meaning.specs.Limits.{most_block}
use Rattle.map_meaning.specs.Programs.{IsWellFormed}
use Rattle.map_meaning.specs.Spans.{IsSpan}
use Rattle.map_meaning.specs.declared.known.Known.{Known}
use Rattle.map_meaning.specs.declared.known.Span.{Span}
use Rattle.map_meaning.specs.declared.program.Program.{Program}
use Rattle.task_graph.specs.Plans.{AreOfOne, PlanValue, span_plan, task_at}
use Rattle.plan_graph.specs.Borders.{HasDrainsOf, borders_of, transport_at}
use Rattle.plan_graph.specs.Graphs.{core_graph, feeds_of, is_flow_work, owner_of}
use Rattle.plan_graph.specs.Numbered.{count_all}
use Rattle.plan_graph.specs.Transports.{cells_in_map, point_at, task_edges, task_transport}

-- A plan of a span, with the drain maps that are known to it: how many tasks there are, with what each reads and who reads it, and
-- which are flow tasks; and how many border edges all transports have together.
pub record PlanGraphValue : Type 0 where
  pub span : Span
  pub plan : PlanValue
  pub drains : List DrainMap
  pub tasks : ℕ
  pub needs : List (List ℕ)
  pub readers : List (List ℕ)
  pub flows : List Bool
  pub edges : ℕ

-- a plan of a span with these drain maps
abbrev pub with_drains : Span → PlanValue → List DrainMap → PlanGraphValue
with_drains s plan drains = record {
  span = s;
  plan = plan;
  drains = drains;
  tasks = length plan.tasks;
  needs = plan.needs;
  readers = turned_of (length plan.tasks) plan.needs;
  flows = map (λ t. is_flow_work t.work) plan.tasks;
  edges = count_all (borders_of plan drains);
}

-- the graph of a plan
unfoldable pub graph_of : PlanGraphValue → Graph
graph_of p = core_graph p.plan p.drains

-- the list with this number, or an empty one
abbrev pub list_at : List (List ℕ) → ℕ → List ℕ
list_at lists i = slice_index_or lists i []

-- how many edges a channel has
abbrev pub edges_of : Graph → ℕ → ℕ
edges_of g c = sum_below g.edges (λ e. flag (g.channel_of e == c))

-- by channel, how many edges it has
abbrev pub rooms_of : Graph → List ℕ
rooms_of g = map (edges_of g) (range_with_len 0 g.channels)

-- the channels into a task, ascending
abbrev pub channels_into : Graph → ℕ → List ℕ
channels_into g t = filter (λ c. g.into c == t) (range_with_len 0 g.channels)

-- The task is one of a transport's, which has one for each tile: that of this tile.
pub record IsOfTransport (plan : PlanValue) (t f tile : ℕ) : Type 0 where
  pub there : f < length plan.flows
  pub below : tile < tile_count plan.tiling
  pub number : t ≡ (transport_at plan f).first + tile
  pub transport : task_transport plan t ≡ f
  pub tile_is : (task_at plan t).tile ≡ tile

-- The border edge at a place of a task's transport has its number in the graph: it leaves the point of its source for that of its
-- target, from the task of the one's tile into that of the other's.
pub record IsEdgeOf (p : PlanGraphValue) (t e : ℕ) : Type 0 where
  pub within : edge_number (graph_of p) t e < (graph_of p).edges
  pub source : (graph_of p).source (edge_number (graph_of p) t e)
      ≡ point_at p.plan.tiling (task_transport p.plan t) (edge_at (task_edges p.plan p.drains t) e).source
  pub target : (graph_of p).target (edge_number (graph_of p) t e)
      ≡ point_at p.plan.tiling (task_transport p.plan t) (edge_at (task_edges p.plan p.drains t) e).target
  pub from : from_task (graph_of p) (edge_number (graph_of p) t e)
      ≡ owner_of p.plan (task_transport p.plan t) (edge_at (task_edges p.plan p.drains t) e).source
  pub into : into_task (graph_of p) (edge_number (graph_of p) t e)
      ≡ owner_of p.plan (task_transport p.plan t) (edge_at (task_edges p.plan p.drains t) e).target

-- The channel leads from a task of a transport into another one of the same transport.
pub record IsChannelOf (p : PlanGraphValue) (c : ℕ) : Type 0 where
  pub transport : ℕ
  pub there : transport < length p.plan.flows
  pub from_tile : ℕ
  pub from_below : from_tile < tile_count p.plan.tiling
  pub from : (graph_of p).from c ≡ (transport_at p.plan transport).first + from_tile
  pub into_tile : ℕ
  pub into_below : into_tile < tile_count p.plan.tiling
  pub into : (graph_of p).into c ≡ (transport_at p.plan transport).first + into_tile

-- What is kept of transports: the drain maps are sound; their tasks are flow tasks, and no others are; their points are the cells
-- of their maps; the border edges of a task's transport are the edges of the graph that leave such a task or lead into one; and
-- each channel joins two tasks of one transport, and has an edge.
pub record HasTransports (p : PlanGraphValue) : Type 0 where
  pub drains : HasDrainsOf p.plan p.drains
  pub at_tile : (t : ℕ) → t < p.tasks → (graph_of p).is_flow t ≡ true
      → IsOfTransport p.plan t (task_transport p.plan t) (task_at p.plan t).tile
  pub stands : (f tile : ℕ) → f < length p.plan.flows → tile < tile_count p.plan.tiling
      → let t = (transport_at p.plan f).first + tile in
      (t < p.tasks) × ((graph_of p).is_flow t ≡ true) × IsOfTransport p.plan t f tile
  pub alike : (t u : ℕ) → t < p.tasks → u < p.tasks → (graph_of p).is_flow t ≡ true → (graph_of p).is_flow u ≡ true
      → task_transport p.plan t ≡ task_transport p.plan u → AreOfOne (task_at p.plan t) (task_at p.plan u)
  pub all_points : (graph_of p).points ≡ length p.plan.flows * cells_in_map p.plan.tiling
  pub owned : (f c : ℕ) → c < cells_in_map p.plan.tiling → (graph_of p).owner (point_at p.plan.tiling f c) ≡ owner_of p.plan f c
  pub fed : (f c : ℕ) → c < cells_in_map p.plan.tiling → (graph_of p).feeds (point_at p.plan.tiling f c) ≡ feeds_of p.plan p.drains f c
  pub edge : (t e : ℕ) → t < p.tasks → e < length (task_edges p.plan p.drains t) → IsEdgeOf p t e
  pub numbered : (t e : ℕ) → edge_number (graph_of p) t e < (graph_of p).edges
      → (from_task (graph_of p) (edge_number (graph_of p) t e) ≡ t) ⊎ (into_task (graph_of p) (edge_number (graph_of p) t e) ≡ t)
      → e < length (task_edges p.plan p.drains t)
  pub channel : (c : ℕ) → c < (graph_of p).channels → IsChannelOf p c
  pub dense : (c : ℕ) → c < (graph_of p).channels → (e : ℕ) × (e < (graph_of p).edges) × ((graph_of p).channel_of e ≡ c)

-- What every plan with its graph keeps: the graph is sound, and what is told of tasks and transports is the graph's.
pub record IsPlan (p : PlanGraphValue) : Type 0 where
  pub sound : IsSoundGraph (graph_of p)
  pub all_tasks : (graph_of p).tasks ≡ p.tasks
  pub all_edges : (graph_of p).edges ≡ p.edges
  pub all_needs : length p.needs ≡ p.tasks
  pub all_readers : length p.readers ≡ p.tasks
  pub all_flows : length p.flows ≡ p.tasks
  pub reads : (t : ℕ) → t < p.tasks → (graph_of p).needs t ≡ list_at p.needs t
  pub flow : (t : ℕ) → t < p.tasks → (graph_of p).is_flow t ≡ slice_index_or p.flows t false
  pub read_by : (t r : ℕ) → t < p.tasks → r < p.tasks → times r (list_at p.readers t) ≡ times t (list_at p.needs r)
  pub readers_in : (t : ℕ) → t < p.tasks → Each (λ r. r < p.tasks) (list_at p.readers t)
  pub transports : HasTransports p
  pub few : 2 * p.tasks + 4 * p.edges < 2 ^ 60
  pub few_tasks : p.tasks < 2 ^ 32
  pub few_edges : p.edges < 2 ^ 32
  pub few_needs : (t : ℕ) → t < p.tasks → length (list_at p.needs t) < 2 ^ 32
  pub few_readers : (t : ℕ) → t < p.tasks → length (list_at p.readers t) < 2 ^ 32
  pub plan_tasks : p.tasks ≡ length p.plan.tasks
  pub plan_needs : p.needs ≡ p.plan.needs
  pub plan_flows : p.flows ≡ map (λ t. is_flow_work t.work) p.plan.tasks

-- The graph of the plan of each span of a well-formed program is sound, whatever the tiles are, with drain maps for its transports
-- that are sound and of its size; and what is kept of its transports is so.
abbrev pub AreSoundPlans : Type 0
AreSoundPlans =
    (program : Program) (s : Span) (g : Tiling) (drains : List DrainMap) →
    IsWellFormed program → IsSpan program s most_block → HasDrainsOf (span_plan program s g) drains →
    let p = with_drains s (span_plan program s g) drains in IsSoundGraph (graph_of p) × HasTransports p

-- It is the plan of its span: of this program, over these tiles, with the drain maps that are known.
pub record IsPlanOf (program : Program) (known : Known) (g : Tiling) (p : PlanGraphValue) : Type 0 where
  pub plan : p.plan ≡ span_plan program p.span g
  pub drains : p.drains ≡ known.drains

-- the plan has no flow task
abbrev pub IsLocal : PlanGraphValue → Type 0
IsLocal p = (t : ℕ) → t < p.tasks → (graph_of p).is_flow t ≡ false
