-- A plan as the core sees it.
use Rattle.std.specs.Prelude.{ℕ, ◌+◌, ◌*◌, ◌/◌, ◌%◌, ◌==◌, if◌then◌else◌, Bool, true, false, List, [], get_or, length, map}
use Rattle.std.specs.List.{position_or_len}
use Rattle.core_model.specs.Graphs.{Feed, Graph, inside, over_edge}
use Rattle.tile_map.specs.declared.tiling.Tiling.{Tiling}
use Rattle.tile_map.specs.Tiles.{tile_at}
use Rattle.drain_meaning.specs.Drains.{DrainMap}
use Rattle.drain_meaning.specs.Transports.{feeders}
use Rattle.border_channel.specs.declared.edge.Edge.{Edge}
use Rattle.border_channel.specs.Edges.{edge_at}
use Rattle.border_channel.specs.Loads.{load_of}
use Rattle.border_channel.specs.TileFlows.{joins}
use Rattle.task_graph.specs.declared.task.Work.{Work}
use Rattle.task_graph.specs.declared.task.Work.TheVariants.{Flow}
use Rattle.task_graph.specs.Plans.{PlanValue, needs_at, operation_code, task_at}
use Rattle.plan_graph.specs.Borders.{borders_of, drain_at, orient_at, transport_at}
use Rattle.plan_graph.specs.Joints.{joint_from, joint_into, joint_of, joints_of, pair_of}
use Rattle.plan_graph.specs.Numbered.{count_all, count_before, list_of_number, place_of_number}
use Rattle.plan_graph.specs.Transports.{cells_in_map, point_at, task_transport}

-- the task is one of a transport
abbrev pub is_flow_work : Work → Bool
is_flow_work Flow = true
is_flow_work _ = false

-- the task of a cell of the transport with this number
abbrev pub owner_of : PlanValue → ℕ → ℕ → ℕ
owner_of plan f c = (transport_at plan f).first + tile_at plan.tiling c

-- what feeds the cell c of the transport f from the cell u: a cell of the same tile, or a border edge
abbrev pub feed_from : Tiling → List (List Edge) → ℕ → ℕ → ℕ → Feed
feed_from g borders f c u =
    if tile_at g u == tile_at g c then inside (point_at g f u)
    else over_edge (count_before borders f + position_or_len (joins u c) (get_or borders f []))

-- what feeds a cell of the transport with this number
abbrev pub feeds_of : PlanValue → List DrainMap → ℕ → ℕ → List Feed
feeds_of plan drains f c =
    map (feed_from plan.tiling (borders_of plan drains) f c) (feeders (orient_at plan f) (drain_at plan drains f) c)

-- the border edge with this number, of all that the transports have
abbrev pub border_at : List (List Edge) → ℕ → Edge
border_at borders e = edge_at (get_or borders (list_of_number borders e) []) (place_of_number borders e)

-- the joints of each of some transports
abbrev pub joints_in : Tiling → List (List Edge) → List (List ℕ)
joints_in g borders = map (joints_of g) borders

-- A plan as the core sees it, with the drain maps of its transports. The points of a transport are the cells of its map, its
-- channels are its joints, and these, and its border edges, are numbered behind those of the transports before.
unfoldable pub core_graph : PlanValue → List DrainMap → Graph
core_graph plan drains =
    let g = plan.tiling in
    let places = cells_in_map g in
    let borders = borders_of plan drains in
    let joints = joints_in g borders in
    record {
      tasks = length plan.tasks;
      needs = needs_at plan;
      is_flow = λ t. is_flow_work (task_at plan t).work;
      operation = λ t. operation_code (task_at plan t).step (task_at plan t).operation;
      points = length plan.flows * places;
      owner = λ x. owner_of plan (x / places) (x % places);
      feeds = λ x. feeds_of plan drains (x / places) (x % places);
      load = λ x. load_of (orient_at plan (x / places)) (drain_at plan drains (x / places)) (x % places);
      edges = count_all borders;
      first_edge = λ t. count_before borders (task_transport plan t);
      source = λ e. point_at g (list_of_number borders e) (border_at borders e).source;
      target = λ e. point_at g (list_of_number borders e) (border_at borders e).target;
      channels = count_all joints;
      channel_of = λ e.
          let f = list_of_number borders e in
          count_before joints f + joint_of g (get_or borders f []) (pair_of g (border_at borders e));
      from = λ c.
          let f = list_of_number joints c in
          (transport_at plan f).first + joint_from g (get_or joints f []) (place_of_number joints c);
      into = λ c.
          let f = list_of_number joints c in
          (transport_at plan f).first + joint_into g (get_or joints f []) (place_of_number joints c);
    }
