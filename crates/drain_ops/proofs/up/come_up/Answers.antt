use Rattle.std.proofs.Common.{sym, arith}
use Rattle.drain_meaning.proofs.Callers.{next_inside}
use Rattle.drain_ops.proofs.up.come_up.Goals as goal

pub bounds-outs-down : goal.bounds-outs-down
bounds-outs-down g c =
    let w = next_inside c.args.drain.now c.requires.drain.map c.args.place c.in-Cell.down (sym c.in-Cell.ensures) in
    omega (arith, w, c.requires.many)
