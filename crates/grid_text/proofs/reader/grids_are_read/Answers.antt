use Rattle.grid_text.proofs.Laws.{grids_read}
use Rattle.grid_text.proofs.reader.grids_are_read.Goals as goal

pub returns : goal.returns
returns c = grids_read
