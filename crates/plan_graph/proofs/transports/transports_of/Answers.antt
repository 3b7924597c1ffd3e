use Rattle.std.proofs.Common.{arith, ◌≡◌, ◌∙◌, ℕ, ◌+◌, ◌-◌, ◌<◌, ◌≤◌, List, ap, get_or, length, subst}
use Rattle.std.specs.Prelude.{◌⊎◌}
use Rattle.tile_map.specs.Tiles.{tile_count}
use Rattle.task_graph.specs.declared.flows.FlowTasks.{FlowTasks}
use Rattle.task_graph.proofs.Callers.{some_tiles}
use Rattle.plan_graph.specs.Borders.{no_flow, transport_at}
use Rattle.plan_graph.proofs.ChannelLemmas.{told_more}
use Rattle.plan_graph.proofs.transports.transports_of.Goals as goal

pub note_tasks-requires : goal.note_tasks-requires
note_tasks-requires c =
    let plan = c.args.plan.now in
    let f = c.loop-f.f in
    let low : f < length plan.flows = let e = ap length c.flows-flows.ensures in omega arith in
    let flow : get_or c.flows-flows.result.now f no_flow ≡ transport_at plan f = ap (λ (fs : List FlowTasks). get_or fs f no_flow) c.flows-flows.ensures in
    let first = ap (λ (x : FlowTasks). x.first) flow in
    let tiles = c.count-tiles.ensures ∙ ap tile_count c.tiling.ensures in
    let some = some_tiles plan.tiling in
    let last = (c.requires f (tile_count plan.tiling - 1) low (omega arith)).0 in
    let many = c.loop-f.invariant.many in
    omega arith

pub loop-f-preserved : goal.loop-f-preserved
loop-f-preserved c =
    let plan = c.args.plan.now in
    let f = c.loop-f.f in
    let low : f < length plan.flows = let e = ap length c.flows-flows.ensures in omega arith in
    let flow : get_or c.flows-flows.result.now f no_flow ≡ transport_at plan f = ap (λ (fs : List FlowTasks). get_or fs f no_flow) c.flows-flows.ensures in
    let tiles : c.count-tiles.result ≡ tile_count plan.tiling = c.count-tiles.ensures ∙ ap tile_count c.tiling.ensures in
    let told = c.note_tasks.ensures in
    let new = c.note_tasks.new.told.items in
    told_more plan f c.in_ok-number.field-0 c.loop-f.told.items new c.requires low c.loop-f.invariant c.in_ok-number.ensures told.many
    (subst (λ (n : ℕ). (tile : ℕ) → tile < n → get_or new ((transport_at plan f).first + tile) 0 ≡ c.in_ok-number.field-0) tiles
    (subst (λ (x : FlowTasks). (tile : ℕ) → tile < c.count-tiles.result → get_or new (x.first + tile) 0 ≡ c.in_ok-number.field-0) flow told.own))
    (subst (λ (n : ℕ). (t : ℕ) → (t < (transport_at plan f).first) ⊎ ((transport_at plan f).first + n ≤ t) → get_or new t 0 ≡ get_or c.loop-f.told.items t 0) tiles
    (subst (λ (x : FlowTasks). (t : ℕ) → (t < x.first) ⊎ (x.first + c.count-tiles.result ≤ t) → get_or new t 0 ≡ get_or c.loop-f.told.items t 0) flow told.others))
