use Rattle.std.proofs.Common.{◌≡◌, ◌∙◌, ap, subst, sym}
use Rattle.std.specs.Arc.{arc_value}
use Rattle.map_meaning.specs.Limits.{most_block}
use Rattle.map_meaning.specs.Spans.{IsSpan}
use Rattle.map_meaning.specs.declared.known.Known.{Known as TheKnown}
use Rattle.map_meaning.specs.declared.program.Program.{Program as TheProgram}
use Rattle.plan_graph.specs.Borders.{HasDrainsOf}
use Rattle.plan_graph.specs.PlanGraphs.{IsPlanOf, PlanGraphValue}
use Rattle.task_graph.specs.Plans.{span_plan}
use Rattle.span_runner.specs.SpanCalls.{IsSpanTiling}
use Rattle.task_board.specs.Boards.{new_board}
use Rattle.span_runner.proofs.PlanLemmas.{is_planned, new_board_of}
use Rattle.span_runner.proofs.SpanLemmas.{few_tasks, wider}
use Rattle.span_runner.proofs.board_of.make_board.Goals as goal

pub planned-requires-clause-drains : goal.planned-requires-clause-drains
planned-requires-clause-drains g c =
    let program : TheProgram = arc_value c.args.call.program in
    let known : TheKnown = arc_value c.args.call.known in
    let is : IsSpan program c.args.call.span most_block = wider program c.args.call.span c.args._block most_block c.requires.block c.requires.call.span in
    let has = (c.transports_have_their_drains.ensures program c.args.call.span known c.new-tiling.result c.requires.call.formed is c.requires.call.knows
    (sym (c.new-tiling.ensures.rows ∙ ap (λ (k : TheKnown). k.rows) c.deref.ensures))
    (sym (c.new-tiling.ensures.cols ∙ ap (λ (k : TheKnown). k.cols) c.deref-2.ensures))).0 in
    subst (λ (x : TheProgram). HasDrainsOf (span_plan x c.args.call.span c.new-tiling.result) c.deref-4.result.now.drains) (sym c.deref-3.ensures)
    (subst (λ (y : TheKnown). HasDrainsOf (span_plan program c.args.call.span c.new-tiling.result) y.drains) (sym c.deref-4.ensures) has)

pub planned-requires-clause-few : goal.planned-requires-clause-few
planned-requires-clause-few g c =
    few_tasks c.deref-3.result.now c.args.call.span c.new-tiling.result c.args._block
    (rw (c.deref-3.ensures) c.requires.call.span)
    (rw (c.new-tiling.ensures.rows, c.new-tiling.ensures.cols, c.new-tiling.ensures.tile_rows, c.new-tiling.ensures.tile_cols, c.deref.ensures, c.deref-2.ensures, c.deref-3.ensures) c.requires.call.few)

pub make-requires-clause-plan : goal.make-requires-clause-plan
make-requires-clause-plan g c =
    let p : PlanGraphValue = c.in_ok-plan.plan in
    let program : TheProgram = arc_value c.args.call.program in
    let known : TheKnown = arc_value c.args.call.known in
    let is : IsSpan program c.args.call.span most_block = wider program c.args.call.span c.args._block most_block c.requires.block c.requires.call.span in
    let of : IsPlanOf program known c.new-tiling.result p = subst (λ (x : TheProgram). IsPlanOf x known c.new-tiling.result p) c.deref-3.ensures
    (subst (λ (y : TheKnown). IsPlanOf c.deref-3.result.now y c.new-tiling.result p) c.deref-4.ensures c.in_ok-plan.ensures.of) in
    rw (c.in_ok-plan-2.ensures.ok)
    (is_planned p c.args.call.span program known c.new-tiling.result c.requires.call.formed is c.requires.call.knows
    (c.new-tiling.ensures.rows ∙ ap (λ (k : TheKnown). k.rows) c.deref.ensures)
    (c.new-tiling.ensures.cols ∙ ap (λ (k : TheKnown). k.cols) c.deref-2.ensures)
    c.in_ok-plan.ensures.span of)

pub returns : goal.returns
returns g c =
    let p : PlanGraphValue = c.in_ok-plan.plan in
    let program : TheProgram = arc_value c.args.call.program in
    let known : TheKnown = arc_value c.args.call.known in
    let of : IsPlanOf program known c.new-tiling.result p = subst (λ (x : TheProgram). IsPlanOf x known c.new-tiling.result p) c.deref-3.ensures
    (subst (λ (y : TheKnown). IsPlanOf c.deref-3.result.now y c.new-tiling.result p) c.deref-4.ensures c.in_ok-plan.ensures.of) in
    let tiles : IsSpanTiling c.args.call c.args.tile_rows c.args.tile_cols c.new-tiling.result = record {
      rows = c.new-tiling.ensures.rows ∙ ap (λ (k : TheKnown). k.rows) c.deref.ensures;
      cols = c.new-tiling.ensures.cols ∙ ap (λ (k : TheKnown). k.cols) c.deref-2.ensures;
      high = c.new-tiling.ensures.tile_rows;
      wide = c.new-tiling.ensures.tile_cols;
    } in
    new_board_of c.args.call c.args.tile_rows c.args.tile_cols c.args.workers c.new-tiling.result p c.in_ok-board.board tiles of c.in_ok-plan.ensures.span
    (subst (λ (x : PlanGraphValue). c.in_ok-board.board ≡ new_board x program known c.args.workers) c.in_ok-plan-2.ensures.ok c.in_ok-board.ensures)
