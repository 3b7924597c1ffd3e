-- A grid that is read has values that can be written.
use Rattle.grid_text.proofs.WriteLaws as laws
use Rattle.run_session.proofs.grids.parse_grid.Goals as goal

pub returns-in-Ok-clause-values : goal.returns-in-Ok-clause-values
returns-in-Ok-clause-values c = laws.grids_can_be_written c.args.kind c.args.text.now c.in-Ok.grid c.in-Ok.ensures.found
