use Rattle.std.proofs.Common.{◌≡◌, ◌⊎◌, List, ℕ, subst}
use Rattle.std.specs.List.{Contains}
use Rattle.drain_check.specs.declared.walk.Mark.TheVariants.{Done}
use Rattle.drain_check.specs.inside.Walks.{mark_at}
use Rattle.drain_check.proofs.Marks.{from_back, keeps_done, last_within, returning_back}
use Rattle.drain_check.proofs.walk.settle.Goals as goal

pub bounds-marks-last : goal.bounds-marks-last
bounds-marks-last c = last_within _ _ _ _ _ _ c.loop-last.invariant.returning c.in-Some.ensures.items

pub loop-last-preserved : goal.loop-last-preserved
loop-last-preserved c =
    let w = last_within _ _ _ _ _ _ c.loop-last.invariant.returning c.in-Some.ensures.items in
    rw c.in_ok-push.ensures.items (record {
      returning = returning_back _ _ _ _ _ _ c.loop-last.invariant.returning c.in-Some.ensures.items;
      keeps = keeps_done _ _ _ w c.loop-last.invariant.keeps;
      from = from_back _ _ _ _ w (subst (λ (y : List ℕ). (mark_at c.loop-last.marks c.args.place ≡ Done) ⊎ Contains y c.args.place) c.in-Some.ensures.items c.loop-last.invariant.from);
    })
