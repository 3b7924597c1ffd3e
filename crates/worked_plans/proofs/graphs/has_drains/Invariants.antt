use Rattle.std.proofs.Common.{ℕ, ◌<◌, get_or}
use Rattle.drain_meaning.specs.Sound.{IsDrain}
use Rattle.border_channel.specs.Edges.{HasSizeOf}
use Rattle.plan_graph.specs.Borders.{drain_of, no_flow}
use Rattle.worked_plans.proofs.graphs.has_drains.Given as goal

-- the transports so far have their drain maps
abbrev pub invariant-loop-flow : goal.invariant-loop-flow
invariant-loop-flow l =
    (f : ℕ) → f < l.flow-index → IsDrain (drain_of l.known.drains (get_or l.plan.flows f no_flow)) × HasSizeOf (drain_of l.known.drains (get_or l.plan.flows f no_flow)) l.plan.tiling
