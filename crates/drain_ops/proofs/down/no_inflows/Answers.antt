use Rattle.drain_ops.proofs.Passing.{pushed_count, pushed_none}
use Rattle.drain_ops.proofs.down.no_inflows.Goals as goal

pub loop-preserved : goal.loop-preserved
loop-preserved g c =
    rw (c.in_ok-push.ensures.items, c.zero.ensures) (record {
      count = pushed_count _ _ _ c.loop.invariant.count;
      nothing = pushed_none _ _ c.loop.invariant.nothing;
    })
