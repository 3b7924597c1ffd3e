use Rattle.std.proofs.Common.{refl, arith}
use Rattle.std.proofs.Math.Facts.{Fits-of_lt}
use Rattle.model_maker.specs.Draws.{next_state}
use Rattle.model_maker.proofs.DrawLemmas.{state_steps}
use Rattle.model_maker.proofs.draws.Draws.draw.Goals as goal

pub overflow_cast-result : goal.overflow_cast-result
overflow_cast-result c = Fits-of_lt (omega arith)

pub returns-clause-state : goal.returns-clause-state
unfolding next_state
returns-clause-state c = state_steps c.args.self.now.state 6364136223846793005 1442695040888963407 18446744073709551616

pub returns-clause-drawn : goal.returns-clause-drawn
returns-clause-drawn c = refl
