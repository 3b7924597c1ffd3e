use Rattle.std.proofs.Common.{sym, arith}
use Rattle.drain_meaning.proofs.Callers.{next_inside}
use Rattle.drain_ops.proofs.near.downstream_flow.Goals as goal

pub bounds-cells-down : goal.bounds-cells-down
bounds-cells-down c = let low = next_inside _ c.requires.cutout.map c.args.number c.in-Cell.down (sym c.in-Cell.ensures) in omega (arith, low, c.requires.cutout.many)
