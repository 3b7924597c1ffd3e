use Rattle.std.proofs.Common.{◌≡◌, ◌⊎◌, ◌<◌, length}
use Rattle.std.specs.List.{Contains}
use Rattle.drain_check.specs.inside.Walks.{Keeps, Underway, map_of, unseen}
use Rattle.drain_check.proofs.walk.walk_down.Given as goal

-- the cells that are under way lead to the present one
abbrev pub invariant-loop-marks : goal.invariant-loop-marks
invariant-loop-marks l = record {
  within : l.at < length l.codes.cells.now;
  underway : Underway (map_of l.codes) l.marks l.trail.items l.order.items l.at;
  keeps : Keeps l.fn.marks l.marks;
  from : (l.place ≡ l.at) ⊎ Contains l.trail.items l.place;
}

abbrev pub decreases-loop-marks : goal.decreases-loop-marks
decreases-loop-marks l = unseen l.marks
