-- Border edges.
use Rattle.std.specs.Prelude.{◌≡◌, ◌≢◌, ◌⊎◌, ℕ, zero, suc, ◌<◌, Bool, not, ◌==◌, List, [], ◌++◌, length, map, get_or}
use Rattle.std.specs.List.{Contains, filter}
use Rattle.tile_map.specs.Tiles.{tile_at}
use Rattle.tile_map.specs.declared.tiling.Tiling.{Tiling}
use Rattle.drain_meaning.specs.declared.op.Orient.{Orient}
use Rattle.drain_meaning.specs.declared.op.Orient.TheVariants.{Down, Up}
use Rattle.drain_meaning.specs.Drains.{DrainMap, next_at}
use Rattle.drain_meaning.specs.Transports.{feeders, outlet, tributaries}
use Rattle.border_channel.specs.declared.edge.Edge.{Edge}

-- an edge between two cells
abbrev pub edge : ℕ → ℕ → Edge
edge u c = record { source = u; target = c }

-- two cells lie in different tiles
abbrev pub crosses : Tiling → ℕ → ℕ → Bool
crosses g u c = not (tile_at g u == tile_at g c)

-- the cells that u feeds, in row-major order
unfoldable pub fed_by : Orient → DrainMap → ℕ → List ℕ
fed_by Down m u = outlet (next_at m u)
fed_by Up m u = tributaries m u

-- the edges from u into those of some cells that lie in another tile
abbrev pub crossing : Tiling → ℕ → List ℕ → List Edge
crossing g u cells = map (edge u) (filter (crosses g u) cells)

-- the border edges from u
abbrev pub edges_from : DrainMap → Tiling → Orient → ℕ → List Edge
edges_from m g o u = crossing g u (fed_by o m u)

-- the border edges from the first cells
abbrev pub edges_below : DrainMap → Tiling → Orient → ℕ → List Edge
edges_below m g o zero = []
edges_below m g o (suc u) = edges_below m g o u ++ edges_from m g o u

-- all border edges, by ascending source and then target
unfoldable pub border_edges_of : DrainMap → Tiling → Orient → List Edge
border_edges_of m g o = edges_below m g o (length m.codes)

-- ---- what they are

-- a border edge joins a feeding cell and a fed one that lie in different tiles
pub record IsBorderEdge (m : DrainMap) (g : Tiling) (o : Orient) (e : Edge) : Type 0 where
  pub feeds : Contains (feeders o m e.target) e.source
  pub apart : tile_at g e.source ≢ tile_at g e.target

-- an edge has a lower source than another, or the same source and a lower target
abbrev pub EdgeComesBefore : Edge → Edge → Type 0
EdgeComesBefore e f = (e.source < f.source) ⊎ ((e.source ≡ f.source) × (e.target < f.target))

-- the edge of a number; where there is none, one that is no border edge
abbrev pub edge_at : List Edge → ℕ → Edge
edge_at edges number = get_or edges number (edge 0 0)

-- the list has just the border edges, each once and in their order
pub record AreBorderEdges (m : DrainMap) (g : Tiling) (o : Orient) (edges : List Edge) : Type 0 where
  pub only : (number : ℕ) → number < length edges → IsBorderEdge m g o (edge_at edges number)
  pub each : (e : Edge) → IsBorderEdge m g o e → Contains edges e
  pub ascends : (i j : ℕ) → i < j → j < length edges → EdgeComesBefore (edge_at edges i) (edge_at edges j)

-- a drain map and a tiling are of one size
pub record HasSizeOf (m : DrainMap) (g : Tiling) : Type 0 where
  pub rows : m.rows ≡ g.rows
  pub cols : m.cols ≡ g.cols
