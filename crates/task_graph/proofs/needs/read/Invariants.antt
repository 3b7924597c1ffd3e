use Rattle.std.proofs.Common.{◌≡◌, ◌++◌, ◌+◌, take}
use Rattle.std.specs.Prelude.{map}
use Rattle.task_graph.proofs.needs.read.Given as goal

-- the tasks of the tiles so far
abbrev pub invariant-loop-tile : goal.invariant-loop-tile
invariant-loop-tile l = l.into.items ≡ l.initial.into.items ++ map (λ tile. l.first + tile) (take l.tile-index l.tiles)
