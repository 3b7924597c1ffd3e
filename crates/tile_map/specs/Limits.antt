-- The limits of tiles.
use Rattle.std.specs.Prelude.{ℕ}

-- how many rows or columns a tile may have
abbrev pub longest_tile_side : ℕ
longest_tile_side = 4096
