use Rattle.std.proofs.Common.{◌≡◌, ◌<◌, ℕ, length}
use Rattle.drain_meaning.specs.Paths.{IsDirected}
use Rattle.drain_check.specs.declared.walk.Mark.TheVariants.{Done}
use Rattle.drain_check.specs.inside.Walks.{IsAtRest, map_of, mark_at}
use Rattle.drain_check.proofs.walk.settle_all.Given as goal

-- each earlier place with a direction is done
abbrev pub invariant-loop-place : goal.invariant-loop-place
invariant-loop-place l = record {
  at_rest : IsAtRest (map_of l.codes) l.marks l.order.items;
  empty : length l.trail.items ≡ 0;
  earlier : (c : ℕ) → c < l.place → IsDirected (map_of l.codes) c → mark_at l.marks c ≡ Done;
}
