use Rattle.drain_meaning.proofs.ThresholdLemmas.{kept_or_passed}
use Rattle.drain_meaning.proofs.laws.thresholds_keep_or_let_pass.Goals as goal

pub returns : goal.returns
returns c = kept_or_passed
