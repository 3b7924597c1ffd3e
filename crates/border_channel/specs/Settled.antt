-- The settled cells of a tile.
use Rattle.std.specs.Prelude.{◌≡◌, ℕ, zero, suc, Bool, true, false, length, IsSome, is_some, if◌then◌else◌}
use Rattle.std.specs.List.{Contains, list_all}
use Rattle.tile_map.specs.Rects.{places_of}
use Rattle.drain_meaning.specs.declared.op.Orient.{Orient}
use Rattle.drain_meaning.specs.Transports.{feeders}
use Rattle.border_channel.specs.TileFlows.{TileFlow, came_over, in_tile, tile_rect}

-- ---- what they are

-- each cell that feeds c is of a set if it lies in the tile, and else the message of its edge into c was taken
abbrev pub IsFed : Orient → TileFlow → (ℕ → Bool) → ℕ → Type 0
IsFed o w set c =
    (u : ℕ) → Contains (feeders o w.drain c) u →
    (in_tile w u ≡ true → set u ≡ true) × (in_tile w u ≡ false → IsSome (came_over w u c))

-- a set of cells holds each cell of the tile that it feeds
abbrev pub HoldsWhatItFeeds : Orient → TileFlow → (ℕ → Bool) → Type 0
HoldsWhatItFeeds o w set = (c : ℕ) → in_tile w c ≡ true → IsFed o w set c → set c ≡ true

-- the least set that does
pub record AreSettledCells (o : Orient) (w : TileFlow) (set : ℕ → Bool) : Type 0 where
  pub closed : HoldsWhatItFeeds o w set
  pub least : (other : ℕ → Bool) → HoldsWhatItFeeds o w other → (c : ℕ) → in_tile w c ≡ true → set c ≡ true → other c ≡ true

-- ---- as a function

-- a cell that flow reaches over so many steps at most
abbrev pub settled_after : Orient → TileFlow → ℕ → ℕ → Bool
settled_after o w zero c = false
settled_after o w (suc steps) c =
    list_all (λ u. if in_tile w u then settled_after o w steps u else is_some (came_over w u c)) (feeders o w.drain c)

-- a cell is settled; on a sound map no flow comes over more steps than there are cells
unfoldable pub is_settled : Orient → TileFlow → ℕ → Bool
is_settled o w c = settled_after o w (length w.drain.codes) c

-- all cells of the tile are settled
abbrev pub all_settled : Orient → TileFlow → Bool
all_settled o w = list_all (is_settled o w) (places_of w.tiling.cols (tile_rect w))
