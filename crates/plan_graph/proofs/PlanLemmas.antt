-- What a plan with its graph keeps.
use Rattle.std.proofs.Common.{◌≡◌, ℕ, ◌^◌, ◌<◌, ◌≤◌, List, [], length, get_or, map, refl, sym, ap, subst, arith, false}
use Rattle.std.proofs.lemmas.List.{get_or-map, length-map}
use Rattle.core_model.specs.Graphs.{IsSoundGraph}
use Rattle.number_lists.specs.Lists.{numbers_in}
use Rattle.number_lists.specs.Turned.{turned_of}
use Rattle.number_lists.proofs.Callers.{list_few, turned_are_turned, turned_below, turned_few}
use Rattle.tile_map.specs.declared.tiling.Tiling.{Tiling}
use Rattle.tile_map.specs.Tiles.{tile_count}
use Rattle.drain_meaning.specs.Drains.{DrainMap}
use Rattle.map_meaning.specs.Limits.{most_block}
use Rattle.map_meaning.specs.Programs.{IsWellFormed}
use Rattle.map_meaning.specs.Spans.{IsSpan}
use Rattle.map_meaning.specs.declared.known.Span.{Span}
use Rattle.map_meaning.specs.declared.program.Program.{Program}
use Rattle.task_graph.specs.Counts.{span_tasks}
use Rattle.task_graph.specs.Limits.{most_needs, most_tasks}
use Rattle.task_graph.specs.Plans.{PlanValue, no_task, span_plan}
use Rattle.task_graph.specs.declared.task.Task.{Task}
use Rattle.task_graph.proofs.Callers.{count_tasks, plan_no_flow}
use Rattle.plan_graph.specs.Borders.{HasDrainsOf, borders_of}
use Rattle.plan_graph.specs.Graphs.{core_graph, is_flow_work}
use Rattle.plan_graph.specs.Numbered.{count_all}
use Rattle.plan_graph.specs.PlanGraphs.{AreSoundPlans, IsLocal, IsPlan, graph_of, list_at, with_drains}
use Rattle.plan_graph.proofs.NeedLemmas.{each_index, not_flow}
use Rattle.plan_graph.proofs.SoundLemmas.{graph_is_sound}
use Rattle.plan_graph.proofs.TaskNumbers.{Fits, plan_fits}
use Rattle.plan_graph.proofs.TransportLaws.{has_transports}

module _ (s : Span) (plan : PlanValue) (drains : List DrainMap) where
  tasks_of_graph : (graph_of (with_drains s plan drains)).tasks ≡ length plan.tasks
  unfolding graph_of core_graph
  tasks_of_graph = refl

  edges_of_graph : (graph_of (with_drains s plan drains)).edges ≡ count_all (borders_of plan drains)
  unfolding graph_of core_graph
  edges_of_graph = refl

  needs_of_graph : (t : ℕ) → (graph_of (with_drains s plan drains)).needs t ≡ list_at plan.needs t
  unfolding graph_of core_graph
  needs_of_graph t = refl

  flow_of_graph : (t : ℕ) → t < length plan.tasks → (graph_of (with_drains s plan drains)).is_flow t ≡ get_or (map (λ (x : Task). is_flow_work x.work) plan.tasks) t false
  unfolding graph_of core_graph
  flow_of_graph t below = sym (get_or-map (λ (x : Task). is_flow_work x.work) plan.tasks t no_task false below)

  sound_graph : Fits plan drains → IsSoundGraph (graph_of (with_drains s plan drains))
  unfolding graph_of
  sound_graph fits = graph_is_sound fits

  -- a plan that reads few, with few border edges, keeps what a plan with its graph is to keep
  pub fitting_keeps : Fits plan drains → length plan.tasks ≤ most_tasks → numbers_in plan.needs ≤ most_needs → count_all (borders_of plan drains) < 2 ^ 32 → IsPlan (with_drains s plan drains)
  fitting_keeps fits few few_needs few_edges =
      let count = length plan.tasks in
      let turned = turned_are_turned count plan.needs in
      record {
        sound = sound_graph fits;
        all_tasks = tasks_of_graph;
        all_edges = edges_of_graph;
        all_needs = fits.ordered.as_many;
        all_readers = turned.many;
        all_flows = length-map plan.tasks (λ (t : Task). is_flow_work t.work);
        reads = λ t below. needs_of_graph t;
        flow = λ t below. flow_of_graph t below;
        read_by = λ t r below other. turned.times t r below;
        readers_in = λ t below. each_index (λ r. r < count) (list_at (turned_of count plan.needs) t) 0 (λ i less. let h = turned_below count t i plan.needs below less in let many = fits.ordered.as_many in omega arith);
        transports = has_transports fits s;
        few = omega arith;
        few_tasks = omega arith;
        few_edges = few_edges;
        few_needs = λ t below. let one = list_few plan.needs t in omega arith;
        few_readers = λ t below. let one = turned_few count t plan.needs below in omega arith;
        plan_tasks = refl;
        plan_needs = refl;
        plan_flows = refl;
      }

pub few_tasks : (program : Program) (s : Span) (g : Tiling) (plan : PlanValue) → plan ≡ span_plan program s g → span_tasks (tile_count g) program s ≤ most_tasks → length plan.tasks ≤ most_tasks
few_tasks program s g plan e few = let count = (count_tasks program s g).0 in let same = ap (λ (p : PlanValue). length p.tasks) e in omega arith

-- the plan of a span, with the drain maps of its transports, keeps what a plan with its graph is to keep
pub plan_keeps : (program : Program) (s : Span) (g : Tiling) (plan : PlanValue) (drains : List DrainMap) → IsWellFormed program → IsSpan program s most_block → plan ≡ span_plan program s g → HasDrainsOf (span_plan program s g) drains →
    length plan.tasks ≤ most_tasks → numbers_in plan.needs ≤ most_needs → count_all (borders_of plan drains) < 2 ^ 32 → IsPlan (with_drains s plan drains)
plan_keeps program s g plan drains well is e has few few_needs few_edges =
    fitting_keeps s plan drains (subst (λ (p : PlanValue). Fits p drains) (sym e) (plan_fits program s g drains well is has)) few few_needs few_edges

pub plan_is_local : (program : Program) (s : Span) (g : Tiling) (plan : PlanValue) (drains : List DrainMap) → plan ≡ span_plan program s g → (span_plan program s g).flows ≡ [] → IsLocal (with_drains s plan drains)
unfolding graph_of core_graph
plan_is_local program s g plan drains e none = subst (λ (p : PlanValue). IsLocal (with_drains s p drains)) (sym e)
    (λ t below. not_flow (get_or (span_plan program s g).tasks t no_task).work (plan_no_flow program s g none t below))

-- a plan without transports has no border edges
pub no_edges : (plan : PlanValue) (drains : List DrainMap) → plan.flows ≡ [] → borders_of plan drains ≡ []
no_edges plan drains none = ap (map (Rattle.plan_graph.specs.Borders.edges_for plan.tiling drains)) none

-- The graph of the plan of each span is sound.
pub plans_are_sound : AreSoundPlans
plans_are_sound program s g drains well is has =
    let fits = plan_fits program s g drains well is has in
    (sound_graph s (span_plan program s g) drains fits, has_transports fits s)
