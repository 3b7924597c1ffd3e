use Rattle.std.proofs.Common.{arith, ◌≡◌, ◌∙◌, ℕ, ◌<◌, List, [], ap, get_or, length, subst, refl}
use Rattle.std.proofs.lemmas.List.{get_or-map}
use Rattle.tile_map.specs.declared.tiling.Tiling.{Tiling}
use Rattle.border_channel.specs.declared.edge.Edge.{Edge}
use Rattle.task_graph.specs.declared.flows.FlowTasks.{FlowTasks}
use Rattle.plan_graph.specs.Borders.{edges_for, no_flow}
use Rattle.plan_graph.specs.inside.Made.{slot_of}
use Rattle.plan_graph.specs.inside.Slots.{IsOneMade}
use Rattle.plan_graph.proofs.BorderLemmas.{done_more, slot_below}
use Rattle.plan_graph.proofs.SlotLemmas.{joined_more, made_stays, made_there}
use Rattle.plan_graph.proofs.joined.made_joints.Goals as goal

pub loop-f-preserved : goal.loop-f-preserved
loop-f-preserved c =
    let plan = c.args.plan.now in
    let drains = c.args.known.now.drains in
    let f = c.loop-f.f in
    let flow : FlowTasks = get_or plan.flows f no_flow in
    let low : f < length plan.flows = let e = ap length c.flows-flows.ensures in omega arith in
    let at : c.slot.result ≡ slot_of flow = c.slot.ensures ∙ ap (λ (fs : List FlowTasks). slot_of (get_or fs f no_flow)) c.flows-flows.ensures in
    let edges : c.edges-edges.result.now ≡ edges_for plan.tiling drains flow =
    c.edges-edges.ensures ∙ (ap (λ (bs : List (List Edge)). get_or bs f []) c.requires.borders ∙ get_or-map (edges_for plan.tiling drains) plan.flows f no_flow [] low) in
    let one : IsOneMade plan.tiling c.edges-edges.result.now (slot_of flow) c.loop-f.lists c.make_joints.new.lists c.loop-f.made.items c.make_joints.new.made.items =
    subst (λ (k : ℕ). IsOneMade plan.tiling c.edges-edges.result.now k c.loop-f.lists c.make_joints.new.lists c.loop-f.made.items c.make_joints.new.made.items) at
    (subst (λ (t : Tiling). IsOneMade t c.edges-edges.result.now c.slot.result c.loop-f.lists c.make_joints.new.lists c.loop-f.made.items c.make_joints.new.made.items) c.tiling.ensures c.in_ok-make_joints.ensures) in
    let drained = c.requires.drained f low in
    let below : slot_of flow < length c.loop-f.made.items = let h = slot_below plan.tiling drains flow drained in let size = c.loop-f.invariant.made.all_made in omega arith in
    record {
      made = joined_more plan.tiling drains flow c.edges-edges.result.now c.loop-f.lists c.make_joints.new.lists c.loop-f.made.items c.make_joints.new.made.items c.loop-f.invariant.made drained edges one;
      done = done_more plan.flows f flow c.loop-f.made.items c.make_joints.new.made.items c.loop-f.invariant.done
          (made_stays plan.tiling c.edges-edges.result.now (slot_of flow) c.loop-f.lists c.make_joints.new.lists c.loop-f.made.items c.make_joints.new.made.items one below)
          refl
          (made_there plan.tiling c.edges-edges.result.now (slot_of flow) c.loop-f.lists c.make_joints.new.lists c.loop-f.made.items c.make_joints.new.made.items one below);
    }
