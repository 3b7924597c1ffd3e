-- What the values of transports are, in words of paths.
use Rattle.std.specs.Prelude.{ℕ, List, [], ◌∷◌, map, length, Bool, true, false, ◌==◌}
use Rattle.std.specs.List.{filter, range_with_len, list_any}
use Rattle.cell_values.specs.declared.cell.Cell.{Cell}
use Rattle.drain_meaning.specs.declared.flow.Flow.{Flow}
use Rattle.drain_meaning.specs.declared.next.Next.{Next}
use Rattle.drain_meaning.specs.declared.next.Next.TheVariants as next
use Rattle.drain_meaning.specs.Drains.{DrainMap}
use Rattle.drain_meaning.specs.Equations.{farthest}
use Rattle.drain_meaning.specs.Flows.{material, nothing, total_flow}
use Rattle.drain_meaning.specs.Paths.{path_of}

-- a list of places holds the place
abbrev pub holds_place : ℕ → List ℕ → Bool
holds_place c places = list_any (λ p. p == c) places

-- the cells whose path holds c
abbrev pub upstream_area : DrainMap → ℕ → List ℕ
upstream_area m c = filter (λ q. holds_place c (path_of m q)) (range_with_len 0 (length m.codes))

-- `accuflux`: the material of all cells whose path holds c, together
abbrev pub accuflux_of : DrainMap → (ℕ → Cell) → ℕ → Flow
accuflux_of m a c = total_flow (map (λ q. material (a q)) (upstream_area m c))

-- the last point that is not 0 of those along a path, 0 without any; missing where one of these points is
abbrev pub last_point : List Cell → Flow
last_point [] = nothing
last_point (p ∷ points) = farthest (last_point points) (material p)

-- `catchment`: the point farthest down the path
abbrev pub catchment_of : DrainMap → (ℕ → Cell) → ℕ → Flow
catchment_of m points c = last_point (map points (path_of m c))

-- a cell with this direction is a pit
abbrev pub is_pit : Next → Bool
is_pit next.Pit = true
is_pit (next.Cell d) = false
is_pit next.Outside = false
is_pit next.Missing = false
