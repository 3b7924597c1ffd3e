use Rattle.std.proofs.Common.{◌≡◌, ◌++◌, take}
use Rattle.flow_task.specs.inside.Begins.{tile_numbers}
use Rattle.flow_task.proofs.begin.push_numbers.Given as goal

-- the numbers of those of the first places that lie in the tile are there
abbrev pub invariant-loop-place : goal.invariant-loop-place
invariant-loop-place l = l.numbers.items ≡ l.fn.numbers.items ++ tile_numbers l.tiling l.tile (take l.place-index l.places)
