use Rattle.drain_meaning.proofs.AccuLemmas.{mass_kept}
use Rattle.drain_meaning.proofs.laws.accumulations_keep_mass.Goals as goal

pub returns : goal.returns
returns c = mass_kept
