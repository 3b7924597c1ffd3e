use Rattle.std.proofs.Common.{◌∙◌, ap, map, take_all}
use Rattle.flow_task.specs.inside.Packed.{packed_number}
use Rattle.flow_task.proofs.PackedLemmas.{packed_all}
use Rattle.flow_task.proofs.packed.PackedCells.pack.Goals as goal

pub returns : goal.returns
returns c = packed_all c.args.cells.now c.loop-cell.numbers.items c.requires
    (c.loop-cell.invariant ∙ ap (map packed_number) (take_all c.loop-cell.cell-index c.args.cells.now c.loop-cell-test.false))
