use Rattle.std.proofs.Common.{◌≡◌, ℕ, ◌+◌, ◌-◌, ◌*◌, ◌≤◌, min}
use Rattle.tile_map.specs.Rects.{place_in}
use Rattle.region_meaning.specs.Windows.{window_outcome}
use Rattle.window_ops.specs.inside.Classes.{IsStrip, class_op_of}
use Rattle.window_ops.specs.inside.Outcomes.{AreOutcomes}
use Rattle.window_ops.proofs.classes.push_row.Given as goal

-- the outcomes of the places before, and columns that reach no farther than the next window
abbrev pub invariant-loop-col : goal.invariant-loop-col
invariant-loop-col l = record {
  each : AreOutcomes (λ (i : ℕ). window_outcome (class_op_of l.classed) l.rows l.cols l.k l.cells (place_in l.cols l.fn.inner i)) (l.fn.row * l.fn.inner.cols + (l.col - l.left)) l.out.cells.items l.out.over;
  counts : IsStrip l.cells l.cols l.strip;
  top : l.strip.top ≡ l.top;
  bottom : l.strip.bottom ≡ l.bottom;
  order : l.strip.from ≤ l.strip.to;
  from : l.strip.from ≤ l.col - l.k;
  to : l.strip.to ≤ min l.cols (l.col + 1 + l.k);
}
