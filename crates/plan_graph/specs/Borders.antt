-- The border edges of a plan's transports.
use Rattle.std.specs.Prelude.{◌≡◌, ℕ, ◌<◌, List, [], get_or, length, map}
use Rattle.tile_map.specs.declared.tiling.Tiling.{Tiling}
use Rattle.drain_meaning.specs.declared.op.FlowOp.TheVariants.{Accuflux}
use Rattle.drain_meaning.specs.declared.op.Orient.{Orient}
use Rattle.drain_meaning.specs.Drains.{DrainMap}
use Rattle.drain_meaning.specs.Equations.{orient_of}
use Rattle.drain_meaning.specs.Sound.{IsDrain}
use Rattle.border_channel.specs.declared.edge.Edge.{Edge}
use Rattle.border_channel.specs.Edges.{HasSizeOf, border_edges_of}
use Rattle.map_meaning.specs.Limits.{most_block}
use Rattle.map_meaning.specs.Programs.{IsWellFormed}
use Rattle.map_meaning.specs.Spans.{IsSpan, Knows}
use Rattle.map_meaning.specs.declared.known.Known.{Known}
use Rattle.map_meaning.specs.declared.known.Span.{Span}
use Rattle.map_meaning.specs.declared.program.Program.{Program}
use Rattle.task_graph.specs.declared.flows.FlowTasks.{FlowTasks}
use Rattle.task_graph.specs.Plans.{PlanValue, span_plan}

-- in the place of a transport where there is none
abbrev pub no_flow : FlowTasks
no_flow = record { first = 0; drain = 0; op = Accuflux }

-- the transport with this number
abbrev pub transport_at : PlanValue → ℕ → FlowTasks
transport_at plan f = get_or plan.flows f no_flow

-- in the place of a drain map where there is none
abbrev pub no_drain_map : DrainMap
no_drain_map = record { rows = 0; cols = 0; codes = [] }

-- the drain map that a transport goes along
abbrev pub drain_of : List DrainMap → FlowTasks → DrainMap
drain_of drains flow = get_or drains flow.drain no_drain_map

-- how flow comes in a transport
abbrev pub orient_at : PlanValue → ℕ → Orient
orient_at plan f = orient_of (transport_at plan f).op

-- the drain map of the transport with this number
abbrev pub drain_at : PlanValue → List DrainMap → ℕ → DrainMap
drain_at plan drains f = drain_of drains (transport_at plan f)

-- the border edges of a transport
abbrev pub edges_for : Tiling → List DrainMap → FlowTasks → List Edge
edges_for g drains flow = border_edges_of (drain_of drains flow) g (orient_of flow.op)

-- the border edges of each of a plan's transports
abbrev pub borders_of : PlanValue → List DrainMap → List (List Edge)
borders_of plan drains = map (edges_for plan.tiling drains) plan.flows

-- the drain map of a transport is there, and of the tiling's size
pub record IsDrained (g : Tiling) (drains : List DrainMap) (flow : FlowTasks) : Type 0 where
  pub there : flow.drain < length drains
  pub size : HasSizeOf (drain_of drains flow) g

-- so is that of each of these transports
abbrev pub AreDrained : Tiling → List DrainMap → List FlowTasks → Type 0
AreDrained g drains flows = (f : ℕ) → f < length flows → IsDrained g drains (get_or flows f no_flow)

-- the drain maps of a plan's transports are sound, and of its size
abbrev pub HasDrainsOf : PlanValue → List DrainMap → Type 0
HasDrainsOf plan drains =
    (f : ℕ) → f < length plan.flows → IsDrain (drain_at plan drains f) × HasSizeOf (drain_at plan drains f) plan.tiling

-- what is known to a span has the drain maps of its plan's transports, sound and of its size
abbrev pub AreKnownDrains : Type 0
AreKnownDrains =
    (program : Program) (s : Span) (known : Known) (g : Tiling) →
    IsWellFormed program → IsSpan program s most_block → Knows program s known → known.rows ≡ g.rows → known.cols ≡ g.cols →
    HasDrainsOf (span_plan program s g) known.drains × AreDrained g known.drains (span_plan program s g).flows
