use Rattle.drain_meaning.proofs.AccuLemmas.{accuflux_by_paths}
use Rattle.drain_meaning.proofs.laws.accumulations_sum_over_paths.Goals as goal

pub returns : goal.returns
returns c = accuflux_by_paths
