use Rattle.std.proofs.Common.{◌≡◌, ◌+◌, ◌∙◌, sym}
use Rattle.border_channel.specs.Edges.{edges_below}
use Rattle.border_channel.proofs.InsideLemmas.{skip_between}
use Rattle.border_channel.proofs.edges.push_ends.Goals as goal

pub push_cell-requires-then-from-to-clause-before : goal.push_cell-requires-then-from-to-clause-before
push_cell-requires-then-from-to-clause-before c =
    let m = c.args.drain.now in
    let first : c.push_cell.new.edges.items ≡ edges_below m c.args.tiling.now c.args.orient (c.args.from + 1) = c.in_ok-push_cell.ensures in
    first ∙ sym (skip_between m c.args.tiling.now c.args.orient c.args.from c.args.to c.if-from-to.true c.requires.between)
