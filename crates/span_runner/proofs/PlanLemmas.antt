-- Plans of spans.
use Rattle.std.proofs.Common.{◌≡◌, ◌∙◌, ap, refl, sym, subst}
use Rattle.std.specs.Arc.{arc_value}
use Rattle.std.specs.Prelude.{ℕ}
use Rattle.map_meaning.specs.Programs.{IsWellFormed}
use Rattle.map_meaning.specs.Limits.{most_block}
use Rattle.map_meaning.specs.Spans.{IsSpan, Knows}
use Rattle.map_meaning.specs.declared.known.Known.{Known}
use Rattle.map_meaning.specs.declared.known.Span.{Span}
use Rattle.map_meaning.specs.declared.program.Program.{Program}
use Rattle.plan_graph.specs.PlanGraphs.{IsPlanOf, PlanGraphValue}
use Rattle.span_runner.specs.SpanCalls.{IsBoardOf, IsSpanTiling}
use Rattle.span_runner.specs.declared.span_call.SpanCall.{SpanCall}
use Rattle.task_board.specs.Boards.{BoardValue, new_board}
use Rattle.task_graph.specs.Plans.{PlanValue, span_plan}
use Rattle.task_tiles.specs.TaskTiles.{IsPlanned}
use Rattle.tile_map.specs.declared.tiling.Tiling.{Tiling}
use Rattle.span_runner.proofs.SpanLemmas.{plan_tiling}

-- the plan is that of its span
pub is_planned : (p : PlanGraphValue) (s : Span) (program : Program) (known : Known) (g : Tiling) →
    IsWellFormed program → IsSpan program s most_block → Knows program s known → g.rows ≡ known.rows → g.cols ≡ known.cols →
    p.span ≡ s → IsPlanOf program known g p → IsPlanned p.plan p.span program known
is_planned p s program known g formed is knows rows cols span of =
    let tiling : p.plan.tiling ≡ g = ap (λ (v : PlanValue). v.tiling) of.plan ∙ plan_tiling program p.span g in
    record {
      well_formed = formed;
      spans = subst (λ (x : Span). IsSpan program x most_block) (sym span) is;
      knows = subst (λ (x : Span). Knows program x known) (sym span) knows;
      plans = of.plan ∙ ap (λ (t : Tiling). span_plan program p.span t) (sym tiling);
      rows = ap (λ (t : Tiling). t.rows) tiling ∙ rows;
      cols = ap (λ (t : Tiling). t.cols) tiling ∙ cols;
    }

-- the new board of a plan of the span is one of the span
pub new_board_of : (call : SpanCall) (tile_rows tile_cols workers : ℕ) (g : Tiling) (p : PlanGraphValue) (b : BoardValue) →
    IsSpanTiling call tile_rows tile_cols g → IsPlanOf (arc_value call.program) (arc_value call.known) g p → p.span ≡ call.span →
    b ≡ new_board p (arc_value call.program) (arc_value call.known) workers → IsBoardOf call tile_rows tile_cols workers b
new_board_of call tile_rows tile_cols workers g p b tiles of span is =
    subst (λ (x : BoardValue). IsBoardOf call tile_rows tile_cols workers x) (sym is)
    (record { tiling = g; tiles = tiles; planned = of; span = span; is = refl })
