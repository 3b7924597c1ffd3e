use Rattle.region_meaning.proofs.MissingLemmas.{areas_missing, windows_missing}
use Rattle.region_meaning.proofs.laws.regions_without_values_are_missing.Goals as goal

pub returns-clause-windows : goal.returns-clause-windows
returns-clause-windows c = windows_missing

pub returns-clause-areas : goal.returns-clause-areas
returns-clause-areas c = areas_missing
