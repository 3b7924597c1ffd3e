use Rattle.std.proofs.Common.{◌≡◌, take, map}
use Rattle.flow_task.specs.inside.Begins.{tile_link}
use Rattle.flow_task.proofs.begin.tile_links.Given as goal

-- the links of the first edges are there
abbrev pub invariant-loop-number : goal.invariant-loop-number
invariant-loop-number l = l.links.items ≡ map (tile_link l.tiling l.tile l.edges l.inward) (take l.number-index l.numbers)
