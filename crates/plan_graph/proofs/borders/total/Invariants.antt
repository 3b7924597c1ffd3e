use Rattle.std.proofs.Common.{◌≡◌, take}
use Rattle.plan_graph.specs.Numbered.{count_all}
use Rattle.plan_graph.specs.inside.Made.{kept_borders}
use Rattle.plan_graph.proofs.borders.total.Given as goal

-- the edges of the transports so far
abbrev pub invariant-loop-flow : goal.invariant-loop-flow
invariant-loop-flow l = l.total ≡ count_all (kept_borders l.lists (take l.flow-index l.flows))
