use Rattle.grid_text.proofs.BackLaws as laws
use Rattle.grid_text.proofs.writer.written_grids_read_back.Goals as goal

pub returns : goal.returns
returns c = laws.written_grids_read_back
