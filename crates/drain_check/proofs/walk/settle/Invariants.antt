use Rattle.std.proofs.Common.{◌≡◌, ◌⊎◌, length}
use Rattle.std.specs.List.{Contains}
use Rattle.drain_check.specs.declared.walk.Mark.TheVariants.{Done}
use Rattle.drain_check.specs.inside.Walks.{Keeps, Returning, map_of, mark_at}
use Rattle.drain_check.proofs.walk.settle.Given as goal

-- the cells of the trail lead to one that is done
abbrev pub invariant-loop-last : goal.invariant-loop-last
invariant-loop-last l = record {
  returning : Returning (map_of l.codes) l.marks l.trail.items l.order.items;
  keeps : Keeps l.fn.marks l.marks;
  from : (mark_at l.marks l.place ≡ Done) ⊎ Contains l.trail.items l.place;
}

abbrev pub decreases-loop-last : goal.decreases-loop-last
decreases-loop-last l = length l.trail.items
