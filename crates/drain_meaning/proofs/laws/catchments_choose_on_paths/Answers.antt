use Rattle.drain_meaning.proofs.AccuLemmas.{catchment_by_path}
use Rattle.drain_meaning.proofs.laws.catchments_choose_on_paths.Goals as goal

pub returns : goal.returns
returns c = catchment_by_path
