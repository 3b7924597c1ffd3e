use Rattle.std.proofs.Common.{◌≡◌, ℕ, ◌<◌, get_or, true, false}
use Rattle.plan_graph.specs.Borders.{no_flow}
use Rattle.plan_graph.specs.inside.Made.{slot_of}
use Rattle.plan_graph.specs.inside.Slots.{AreJoined}
use Rattle.plan_graph.proofs.joined.made_joints.Given as goal

-- the joints of the transports so far are made
abbrev pub invariant-loop-f : goal.invariant-loop-f
invariant-loop-f l = record {
  made : AreJoined l.plan.tiling l.known.drains l.lists l.made.items;
  done : (f : ℕ) → f < l.f → get_or l.made.items (slot_of (get_or l.plan.flows f no_flow)) false ≡ true;
}
