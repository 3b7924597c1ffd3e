use Rattle.std.proofs.Common.{ℕ, ◌*◌}
use Rattle.tile_map.specs.Rects.{place_in}
use Rattle.region_meaning.specs.Windows.{window_outcome}
use Rattle.window_ops.specs.inside.Classes.{class_op_of}
use Rattle.window_ops.specs.inside.Outcomes.{AreOutcomes}
use Rattle.window_ops.proofs.classes.class_part.Given as goal

-- the outcomes of the rows before
abbrev pub invariant-loop-row : goal.invariant-loop-row
invariant-loop-row l = AreOutcomes (λ (i : ℕ). window_outcome (class_op_of l.classed) l.rows l.cols l.k l.cells (place_in l.cols l.inner i)) (l.row * l.inner.cols) l.out.cells.items l.out.over
