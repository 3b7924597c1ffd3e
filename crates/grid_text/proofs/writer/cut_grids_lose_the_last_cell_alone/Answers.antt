use Rattle.grid_text.proofs.CutLaws as laws
use Rattle.grid_text.proofs.writer.cut_grids_lose_the_last_cell_alone.Goals as goal

pub returns : goal.returns
returns c = laws.cut_grids_lose_the_last_cell_alone
