use Rattle.std.proofs.Common.{sym}
use Rattle.run_session.proofs.DrainLists.{codes_none}
use Rattle.run_session.proofs.kept.drain_cells.Goals as goal

pub returns-in-None : goal.returns-in-None
returns-in-None c = codes_none c.args.drains.now c.args.number (sym c.in-None.ensures)
