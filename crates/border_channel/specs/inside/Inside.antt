-- Cells inside a tile. Words of private contracts.
use Rattle.std.specs.Prelude.{◌≡◌, ℕ, ◌+◌, ◌<◌, []}
use Rattle.tile_map.specs.declared.tiling.Tiling.{Tiling}
use Rattle.drain_meaning.specs.declared.op.Orient.{Orient}
use Rattle.drain_meaning.specs.Drains.{DrainMap}
use Rattle.border_channel.specs.Edges.{edges_from}

-- of the places from one up to another only the first and the last may have border edges
abbrev pub NoneBetween : DrainMap → Tiling → Orient → ℕ → ℕ → Type 0
NoneBetween m g o from to = (u : ℕ) → from < u → u + 1 < to → edges_from m g o u ≡ []
