use Rattle.std.proofs.Common.{take}
use Rattle.std.specs.List.{AllZip}
use Rattle.task_board.specs.inside.Held.{IsCopy}
use Rattle.task_board.proofs.inputs.copy_tiles.Given as goal

abbrev pub invariant-loop-t : goal.invariant-loop-t
invariant-loop-t l = AllZip (IsCopy l.tiles) l.into.items (take l.t-index l.tasks)
