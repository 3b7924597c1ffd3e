use Rattle.grid_text.proofs.WriteLaws as laws
use Rattle.grid_text.proofs.writer.grids_can_be_written.Goals as goal

pub returns : goal.returns
returns c = laws.grids_can_be_written
