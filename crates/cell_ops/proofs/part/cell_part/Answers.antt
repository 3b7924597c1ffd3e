use Rattle.cell_ops.specs.Work.{work_outcome}
use Rattle.cell_ops.proofs.part.cell_part.Goals as goal

pub returns-in-Lookup : goal.returns-in-Lookup
unfolding work_outcome
returns-in-Lookup c = rw c.in-Lookup.is c.looked_up.ensures
