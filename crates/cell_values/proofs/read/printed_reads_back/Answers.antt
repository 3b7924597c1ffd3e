use Rattle.cell_values.proofs.PrintedBack.{printed-back}
use Rattle.cell_values.proofs.read.printed_reads_back.Goals as goal

pub returns : goal.returns
returns c = printed-back
