use Rattle.std.proofs.Common.{sym}
use Rattle.drain_meaning.proofs.Callers.{next_inside}
use Rattle.drain_ops.proofs.mask.masked.Goals as goal

pub keeps-requires-in-Cell-clause-place : goal.keeps-requires-in-Cell-clause-place
keeps-requires-in-Cell-clause-place c = next_inside c.args.drain.now c.requires.map.map c.args.place c.in-Cell.down (sym c.in-Cell.ensures)
