use Rattle.std.proofs.Common.{◌≡◌, ℕ, ◌<◌, get_or, true, false}
use Rattle.plan_graph.specs.Borders.{no_flow}
use Rattle.plan_graph.specs.inside.Made.{AreMade, slot_of}
use Rattle.plan_graph.proofs.borders.made_lists.Given as goal

-- the edges of the transports so far are made
abbrev pub invariant-loop-flow : goal.invariant-loop-flow
invariant-loop-flow l = record {
  made : AreMade l.tiling l.known.drains l.lists l.made.items;
  done : (f : ℕ) → f < l.flow-index → get_or l.made.items (slot_of (get_or l.flows f no_flow)) false ≡ true;
}
