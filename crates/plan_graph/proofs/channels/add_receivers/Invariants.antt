use Rattle.std.proofs.Common.{◌≡◌, ◌+◌, ◌++◌, map, take}
use Rattle.plan_graph.proofs.channels.add_receivers.Given as goal

abbrev pub invariant-loop-tile : goal.invariant-loop-tile
invariant-loop-tile l = l.receivers.items ≡ l.initial.receivers.items ++ map (λ tile. l.first + tile) (take l.tile-index l.tiles)
