use Rattle.script_types.proofs.KeptLemmas.{kept-more}
use Rattle.script_types.proofs.kept.with_kept.Goals as goal

pub loop-at-preserved : goal.loop-at-preserved
loop-at-preserved c = kept-more c.args.marks.now c.args.operations.now c.loop-at.new c.push.new.self c.loop-at.at _ c.loop-at-test.true c.loop-at.invariant c.in_ok-push.ensures.ok
