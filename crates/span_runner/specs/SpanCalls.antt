-- What is asked of a span by tiles.
use Rattle.std.specs.Prelude.{◌≡◌, ℕ, None, Ok, Result}
use Rattle.std.specs.declared.alloc.AllocError.{AllocError}
use Rattle.std.specs.Arc.{arc_value}
use Rattle.map_meaning.specs.Programs.{IsWellFormed}
use Rattle.map_meaning.specs.Spans.{IsSpan, Knows, stage_of}
use Rattle.map_meaning.specs.declared.known.StageEnd.{StageEnd}
use Rattle.plan_graph.specs.PlanGraphs.{IsPlanOf}
use Rattle.span_runner.specs.declared.span_call.SpanCall.{SpanCall}
use Rattle.task_board.specs.Boards.{BoardValue, new_board}
use Rattle.task_graph.specs.Admitted.{program_too_many}
use Rattle.tile_map.specs.Sides.{AreSides}
use Rattle.tile_map.specs.declared.tiling.Tiling.{Tiling}

-- the tiling is that of the span's map into tiles of this size
pub record IsSpanTiling (call : SpanCall) (tile_rows tile_cols : ℕ) (g : Tiling) : Type 0 where
  pub rows : g.rows ≡ (arc_value call.known).rows
  pub cols : g.cols ≡ (arc_value call.known).cols
  pub high : g.tile_rows ≡ tile_rows
  pub wide : g.tile_cols ≡ tile_cols

-- A span that may be asked for by tiles of this size and by spans of so many steps at most: its program is well-formed, the span is
-- one of it, what it reads is known, and the program has not too many tasks.
pub record MayBeAsked (tile_rows tile_cols block : ℕ) (call : SpanCall) : Type 0 where
  pub formed : IsWellFormed (arc_value call.program)
  pub span : IsSpan (arc_value call.program) call.span block
  pub knows : Knows (arc_value call.program) call.span (arc_value call.known)
  pub sides : AreSides (arc_value call.known).rows (arc_value call.known).cols tile_rows tile_cols
  pub few : program_too_many tile_rows tile_cols block (arc_value call.program)
      (arc_value call.known).rows (arc_value call.known).cols ≡ None

-- what a span gives
abbrev pub GivesStage : SpanCall → StageEnd → Type 0
GivesStage call end = end ≡ stage_of (arc_value call.program) call.span (arc_value call.known)

-- A call with this condition and this promise can be made for each span that may be asked for, and then gives what the span gives.
pub record CanEvaluate (pre : SpanCall → Type 0) (post : SpanCall → Result StageEnd AllocError → Type 0)
    (tile_rows tile_cols block : ℕ) : Type 0 where
  pub callable : (call : SpanCall) → MayBeAsked tile_rows tile_cols block call → pre call
  pub gives : (call : SpanCall) (end : StageEnd) → post call (Ok end) → GivesStage call end

-- The board is one of the span, by tiles of this size, for the caller and so many workers, and nothing was done on it.
pub record IsBoardOf (call : SpanCall) (tile_rows tile_cols workers : ℕ) (board : BoardValue) : Type 0 where
  pub tiling : Tiling
  pub tiles : IsSpanTiling call tile_rows tile_cols tiling
  pub planned : IsPlanOf (arc_value call.program) (arc_value call.known) tiling board.plan
  pub span : board.plan.span ≡ call.span
  pub is : board ≡ new_board board.plan (arc_value call.program) (arc_value call.known) workers
