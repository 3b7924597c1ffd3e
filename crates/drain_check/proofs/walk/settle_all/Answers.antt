use Rattle.std.proofs.Common.{arith}
use Rattle.drain_check.proofs.Marks.{order_of_all, sound_of_all}
use Rattle.drain_check.proofs.walk.settle_all.Goals as goal

pub returns-clause-sound : goal.returns-clause-sound
returns-clause-sound c = sound_of_all _ _ _ c.loop-place.invariant.at_rest (λ q h. c.loop-place.invariant.earlier q (omega (arith, h)))

pub returns-clause-order : goal.returns-clause-order
returns-clause-order c = order_of_all _ _ _ c.loop-place.invariant.at_rest (λ q h. c.loop-place.invariant.earlier q (omega (arith, h)))
