use Rattle.std.proofs.Common.{◌≡◌, ◌∙◌, ℕ, ◌<◌, List, get_or, subst, sym, length}
use Rattle.task_graph.specs.declared.flows.FlowTasks.{FlowTasks}
use Rattle.plan_graph.specs.Borders.{no_flow}
use Rattle.plan_graph.specs.inside.Made.{slot_of}
use Rattle.plan_graph.proofs.BorderLemmas.{slots_below}
use Rattle.plan_graph.proofs.borders.Borders.make.Goals as goal

pub total-requires : goal.total-requires
total-requires c =
    let plan = c.args.plan.now in
    let same : c.as_slice.result.now ≡ plan.flows = c.as_slice.ensures ∙ (c.in_ok-flows.ensures ∙ c.flows-2.ensures) in
    let lists = c.in_ok-lists.lists in
    subst (λ (fs : List FlowTasks). (f : ℕ) → f < length fs → slot_of (get_or fs f no_flow) < length lists) (sym same)
    (slots_below plan.tiling c.args.known.now.drains plan.flows lists c.requires c.in_ok-lists.ensures.all)
