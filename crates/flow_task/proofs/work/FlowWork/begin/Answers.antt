use Rattle.std.proofs.Common.{◌≡◌, ◌∙◌, ◌≤◌, ℕ, ap, sym, subst, arith, length, replicate, true, false, vec_capacity}
use Rattle.std.proofs.lemmas.List.{length-map}
use Rattle.tile_map.specs.Rects.{cell_count}
use Rattle.tile_map.specs.Tiles.{rect_of}
use Rattle.tile_map.specs.declared.rect.Rect.{Rect}
use Rattle.drain_meaning.specs.Drains.{DrainMap}
use Rattle.border_channel.specs.TileFlows.{TileFlow}
use Rattle.flow_task.specs.declared.about.About.{About}
use Rattle.flow_task.specs.Works.{flow_begun}
use Rattle.flow_task.specs.inside.Begins.{coded_first, missing_first, over_cells, tile_link}
use Rattle.flow_task.specs.inside.Kept.{IsWorkKept}
use Rattle.flow_task.specs.inside.States.{state}
use Rattle.flow_task.specs.inside.Underway.{IsUnderway}
use Rattle.flow_task.proofs.Beginning.{over_many, unsent_begin}
use Rattle.flow_task.proofs.Begun.{Made, begun_moved, begun_of, flow_same, into_linked, kept_of, out_linked, outbound_of, underway_of}
use Rattle.flow_task.proofs.Noting.{can_add, due_begin}
use Rattle.flow_task.proofs.work.FlowWork.begin.Goals as goal

pub first_border-requires-clause-into : goal.first_border-requires-clause-into
first_border-requires-clause-into g c = into_linked (g.R.FlowRule.transport c.args.rule).orient c.args.kind c.args.drain.now c.args.tiling.now c.args.tile c.args.edges.now c.args.into.now c.args.out.now c.args.a.now c.args.b.now c.requires c.first_cells.ensures.drain

pub first_border-requires-clause-out : goal.first_border-requires-clause-out
first_border-requires-clause-out g c = out_linked (g.R.FlowRule.transport c.args.rule).orient c.args.kind c.args.drain.now c.args.tiling.now c.args.tile c.args.edges.now c.args.into.now c.args.out.now c.args.a.now c.args.b.now c.requires c.first_cells.ensures.drain

pub settle-requires-clause-begun : goal.settle-requires-clause-begun
settle-requires-clause-begun g c =
    let t = g.R.FlowRule.transport c.args.rule in
    let about : About = record { kind = c.args.kind; drain = c.of.result; tiling = c.args.tiling.now; tile = c.args.tile; taken = c.in_ok-border.border.taken } in
    let same = flow_same t.orient about c.in_ok-a.a c.in_ok-b.b c.args.a.now c.args.b.now c.args.drain.now c.args.edges.now c.of.ensures c.requires.edges_are c.in_ok-border.ensures.taken c.in_ok-a.ensures c.in_ok-b.ensures in
    let made : Made t (g.R.FlowRule.rule c.args.rule) c.args.drain.now c.args.tiling.now c.args.tile c.in_ok-cells.cells.fed c.in_ok-cells.cells.missing.items c.in_ok-cells.cells.queue.items c.in_ok-cells.cells.inflows.items = record {
      rect = c.rect-rect.result;
      rect_is = c.rect-rect.ensures.value;
      fed_is = c.in_ok-cells.ensures.fed;
      missing_is = c.in_ok-cells.ensures.missing;
      queue_is = c.in_ok-cells.ensures.queue;
      inflows_are = c.in_ok-cells.ensures.inflows;
    } in
    begun_moved t _ _ c.in_ok-cells.cells.fed c.args.a.now c.args.b.now c.in_ok-a.a c.in_ok-b.b same c.in_ok-a.ensures c.in_ok-b.ensures
    (begun_of t (g.R.FlowRule.rule c.args.rule) c.args.kind c.args.drain.now c.args.tiling.now c.args.tile c.args.edges.now c.args.into.now c.args.out.now c.args.a.now c.args.b.now c.requires c.first_cells.ensures.drain _ _ _ _ made)

pub settle-requires-clause-underway : goal.settle-requires-clause-underway
settle-requires-clause-underway g c =
    let t = g.R.FlowRule.transport c.args.rule in
    let about : About = record { kind = c.args.kind; drain = c.of.result; tiling = c.args.tiling.now; tile = c.args.tile; taken = c.in_ok-border.border.taken } in
    let same = flow_same t.orient about c.in_ok-a.a c.in_ok-b.b c.args.a.now c.args.b.now c.args.drain.now c.args.edges.now c.of.ensures c.requires.edges_are c.in_ok-border.ensures.taken c.in_ok-a.ensures c.in_ok-b.ensures in
    let made : Made t (g.R.FlowRule.rule c.args.rule) c.args.drain.now c.args.tiling.now c.args.tile c.in_ok-cells.cells.fed c.in_ok-cells.cells.missing.items c.in_ok-cells.cells.queue.items c.in_ok-cells.cells.inflows.items = record {
      rect = c.rect-rect.result;
      rect_is = c.rect-rect.ensures.value;
      fed_is = c.in_ok-cells.ensures.fed;
      missing_is = c.in_ok-cells.ensures.missing;
      queue_is = c.in_ok-cells.ensures.queue;
      inflows_are = c.in_ok-cells.ensures.inflows;
    } in
    subst (λ (y : TileFlow). IsUnderway t (g.R.FlowRule.rule c.args.rule) y (state c.in_ok-cells.cells.inflows.items c.in_ok-cells.cells.missing.items c.in_ok-cells.cells.queue.items) 0) (sym same)
    (underway_of t (g.R.FlowRule.rule c.args.rule) (g.R.FlowRule.laws c.args.rule) c.args.kind c.args.drain.now c.args.tiling.now c.args.tile c.args.edges.now c.args.a.now c.args.b.now _ _ _ _ made)

pub marked_cells-requires : goal.marked_cells-requires
marked_cells-requires g c = λ k low.
    let t = g.R.FlowRule.transport c.args.rule in
    let out = outbound_of t.orient c.args.kind c.args.drain.now c.args.tiling.now c.args.tile c.args.edges.now c.args.into.now c.args.out.now c.args.a.now c.args.b.now c.requires c.first_cells.ensures.drain c.in_ok-border.border.outbound.items c.in_ok-border.ensures.outbound in
    let cells : cell_count c.rect-rect.result ≡ cell_count (rect_of c.args.tiling.now c.args.tile) = ap cell_count c.rect-rect.ensures.value in
    let sized : length c.in_ok-cells.cells.missing.items ≡ cell_count (rect_of c.args.tiling.now c.args.tile) = ap length c.in_ok-cells.ensures.missing ∙ (over_many (missing_first t.orient c.args.drain.now c.args.tiling.now c.args.tile) (cell_count c.rect-rect.result) ∙ cells) in
    let count : c.len.result ≡ length c.in_ok-cells.cells.missing.items = omega arith in
    let below = out.cell_in k low in
    omega (arith, below, sized, count)

pub note_settled-requires : goal.note_settled-requires
note_settled-requires g c =
    let t = g.R.FlowRule.transport c.args.rule in
    let rule = g.R.FlowRule.rule c.args.rule in
    let about : About = record { kind = c.args.kind; drain = c.of.result; tiling = c.args.tiling.now; tile = c.args.tile; taken = c.in_ok-border.border.taken } in
    let w = flow_begun c.args.kind c.args.drain.now c.args.tiling.now c.args.tile c.args.edges.now c.args.a.now c.args.b.now in
    let same = flow_same t.orient about c.in_ok-a.a c.in_ok-b.b c.args.a.now c.args.b.now c.args.drain.now c.args.edges.now c.of.ensures c.requires.edges_are c.in_ok-border.ensures.taken c.in_ok-a.ensures c.in_ok-b.ensures in
    let made : Made t rule c.args.drain.now c.args.tiling.now c.args.tile c.in_ok-cells.cells.fed c.in_ok-cells.cells.missing.items c.in_ok-cells.cells.queue.items c.in_ok-cells.cells.inflows.items = record {
      rect = c.rect-rect.result;
      rect_is = c.rect-rect.ensures.value;
      fed_is = c.in_ok-cells.ensures.fed;
      missing_is = c.in_ok-cells.ensures.missing;
      queue_is = c.in_ok-cells.ensures.queue;
      inflows_are = c.in_ok-cells.ensures.inflows;
    } in
    let begun = begun_of t rule c.args.kind c.args.drain.now c.args.tiling.now c.args.tile c.args.edges.now c.args.into.now c.args.out.now c.args.a.now c.args.b.now c.requires c.first_cells.ensures.drain _ _ _ _ made in
    let s = state c.settle.new.inflows.items c.settle.new.missing.items c.settle.new.queue.items in
    let under : IsUnderway t rule w s (length c.settle.new.queue.items) = subst (λ (y : TileFlow). IsUnderway t rule y s (length c.settle.new.queue.items)) same c.settle.ensures.underway in
    let cells : cell_count c.rect-rect.result ≡ cell_count (rect_of c.args.tiling.now c.args.tile) = ap cell_count c.rect-rect.ensures.value in
    let wide : cell_count (rect_of c.args.tiling.now c.args.tile) ≤ vec_capacity c.settle.new.queue = omega (arith, cells, c.in_ok-cells.ensures.room, c.settle.ensures.capacity) in
    let kept = kept_of t rule c.args.kind c.args.drain.now c.args.tiling.now c.args.tile c.args.edges.now c.args.into.now c.args.out.now c.args.a.now c.args.b.now c.requires c.first_cells.ensures.drain c.in_ok-cells.cells.fed begun s under
    c.in_ok-border.border.inbound.items c.in_ok-border.border.outbound.items c.in_ok-border.ensures.inbound c.in_ok-border.ensures.outbound (vec_capacity c.settle.new.queue) (vec_capacity c.in_ok-border.border.taken) wide c.in_ok-border.ensures.taken_room in
    let many : length c.in_ok-border.border.outbound.items ≡ length c.args.out.now = ap length c.in_ok-border.ensures.outbound ∙ length-map c.args.out.now (tile_link c.args.tiling.now c.args.tile c.args.edges.now false) in
    let un = unsent_begin c.in_ok-border.border.outbound.items c.in_ok-border.border.unsent.items c.in_ok-border.border.sent.items (vec_capacity c.in_ok-border.border.sent)
    (c.in_ok-border.ensures.unsent ∙ ap (λ (n : ℕ). replicate n true) (sym many)) c.in_ok-border.ensures.sent (omega (arith, many, c.in_ok-border.ensures.sent_room)) in
    let sized : length c.in_ok-cells.cells.missing.items ≡ cell_count (rect_of c.args.tiling.now c.args.tile) = ap length c.in_ok-cells.ensures.missing ∙ (over_many (missing_first t.orient c.args.drain.now c.args.tiling.now c.args.tile) (cell_count c.rect-rect.result) ∙ cells) in
    let count : c.len.result ≡ length c.in_ok-cells.cells.missing.items = omega arith in
    let leaves_many : length c.in_ok-leaves.leaves.items ≡ cell_count (rect_of c.args.tiling.now c.args.tile) = omega (arith, c.in_ok-leaves.ensures.many, count, sized) in
    let room : length c.in_ok-border.border.outbound.items ≤ c.in_ok-due.due.room = omega (arith, c.in_ok-due.ensures.room) in
    can_add t rule w c.in_ok-cells.cells.fed s _ _ _ _ kept c.in_ok-border.border.unsent.items c.in_ok-leaves.leaves.items c.in_ok-due.due 0 un.many c.in_ok-leaves.ensures.marked leaves_many room (omega arith) (due_begin c.in_ok-border.border.outbound.items c.in_ok-border.border.unsent.items c.in_ok-due.due.places c.in_ok-due.ensures.none)

pub invariant_of-result : goal.invariant_of-result
invariant_of-result g c =
    let t = g.R.FlowRule.transport c.args.rule in
    let rule = g.R.FlowRule.rule c.args.rule in
    let about : About = record { kind = c.args.kind; drain = c.of.result; tiling = c.args.tiling.now; tile = c.args.tile; taken = c.in_ok-border.border.taken } in
    let w = flow_begun c.args.kind c.args.drain.now c.args.tiling.now c.args.tile c.args.edges.now c.args.a.now c.args.b.now in
    let same = flow_same t.orient about c.in_ok-a.a c.in_ok-b.b c.args.a.now c.args.b.now c.args.drain.now c.args.edges.now c.of.ensures c.requires.edges_are c.in_ok-border.ensures.taken c.in_ok-a.ensures c.in_ok-b.ensures in
    let made : Made t rule c.args.drain.now c.args.tiling.now c.args.tile c.in_ok-cells.cells.fed c.in_ok-cells.cells.missing.items c.in_ok-cells.cells.queue.items c.in_ok-cells.cells.inflows.items = record {
      rect = c.rect-rect.result;
      rect_is = c.rect-rect.ensures.value;
      fed_is = c.in_ok-cells.ensures.fed;
      missing_is = c.in_ok-cells.ensures.missing;
      queue_is = c.in_ok-cells.ensures.queue;
      inflows_are = c.in_ok-cells.ensures.inflows;
    } in
    let begun = begun_of t rule c.args.kind c.args.drain.now c.args.tiling.now c.args.tile c.args.edges.now c.args.into.now c.args.out.now c.args.a.now c.args.b.now c.requires c.first_cells.ensures.drain _ _ _ _ made in
    let s = state c.settle.new.inflows.items c.settle.new.missing.items c.settle.new.queue.items in
    let under : IsUnderway t rule w s (length c.settle.new.queue.items) = subst (λ (y : TileFlow). IsUnderway t rule y s (length c.settle.new.queue.items)) same c.settle.ensures.underway in
    let cells : cell_count c.rect-rect.result ≡ cell_count (rect_of c.args.tiling.now c.args.tile) = ap cell_count c.rect-rect.ensures.value in
    let wide : cell_count (rect_of c.args.tiling.now c.args.tile) ≤ vec_capacity c.settle.new.queue = omega (arith, cells, c.in_ok-cells.ensures.room, c.settle.ensures.capacity) in
    let kept = kept_of t rule c.args.kind c.args.drain.now c.args.tiling.now c.args.tile c.args.edges.now c.args.into.now c.args.out.now c.args.a.now c.args.b.now c.requires c.first_cells.ensures.drain c.in_ok-cells.cells.fed begun s under
    c.in_ok-border.border.inbound.items c.in_ok-border.border.outbound.items c.in_ok-border.ensures.inbound c.in_ok-border.ensures.outbound (vec_capacity c.settle.new.queue) (vec_capacity c.in_ok-border.border.taken) wide c.in_ok-border.ensures.taken_room in
    let many : length c.in_ok-border.border.outbound.items ≡ length c.args.out.now = ap length c.in_ok-border.ensures.outbound ∙ length-map c.args.out.now (tile_link c.args.tiling.now c.args.tile c.args.edges.now false) in
    let un = unsent_begin c.in_ok-border.border.outbound.items c.in_ok-border.border.unsent.items c.in_ok-border.border.sent.items (vec_capacity c.in_ok-border.border.sent)
    (c.in_ok-border.ensures.unsent ∙ ap (λ (n : ℕ). replicate n true) (sym many)) c.in_ok-border.ensures.sent (omega (arith, many, c.in_ok-border.ensures.sent_room)) in
    let sized : length c.in_ok-cells.cells.missing.items ≡ cell_count (rect_of c.args.tiling.now c.args.tile) = ap length c.in_ok-cells.ensures.missing ∙ (over_many (missing_first t.orient c.args.drain.now c.args.tiling.now c.args.tile) (cell_count c.rect-rect.result) ∙ cells) in
    let count : c.len.result ≡ length c.in_ok-cells.cells.missing.items = omega arith in
    let leaves_many : length c.in_ok-leaves.leaves.items ≡ cell_count (rect_of c.args.tiling.now c.args.tile) = omega (arith, c.in_ok-leaves.ensures.many, count, sized) in
    let room : length c.in_ok-border.border.outbound.items ≤ c.in_ok-due.due.room = omega (arith, c.in_ok-due.ensures.room) in (
      subst (λ (y : TileFlow). IsWorkKept t rule y c.in_ok-cells.cells.fed s c.in_ok-border.border.inbound.items c.in_ok-border.border.outbound.items (vec_capacity c.settle.new.queue) (vec_capacity c.in_ok-border.border.taken)) (sym same) kept,
      un,
      c.in_ok-cells.ensures.directed
          ∙ (ap (λ (r : Rect). over_cells (coded_first c.args.drain.now.codes c.args.tiling.now c.args.tile) (cell_count r)) c.rect-rect.ensures.value
          ∙ ap (λ (m : DrainMap). over_cells (coded_first m.codes c.args.tiling.now c.args.tile) (cell_count (rect_of c.args.tiling.now c.args.tile))) (sym c.of.ensures)),
      record {
        all = c.note_settled.ensures.due;
        room = omega (arith, room, c.note_settled.ensures.room);
        marked = c.in_ok-leaves.ensures.marked;
        many = leaves_many ∙ sym kept.underway.counted.missing_many;
      },
    )
