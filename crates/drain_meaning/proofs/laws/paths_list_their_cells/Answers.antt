use Rattle.drain_meaning.proofs.PathLemmas.{path_of-is}
use Rattle.drain_meaning.proofs.laws.paths_list_their_cells.Goals as goal

pub returns : goal.returns
returns c = path_of-is
