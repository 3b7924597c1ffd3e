-- What operations over areas, and over the whole map, look at, tile by tile.
use Rattle.std.specs.Prelude.{ℕ, zero, suc, List, [], ◌++◌, map, Option, Some, None}
use Rattle.tile_map.specs.Rects.{places_of}
use Rattle.tile_map.specs.Tiles.{rect_of}
use Rattle.tile_map.specs.declared.rect.Rect.{Rect}
use Rattle.tile_map.specs.declared.tiling.Tiling.{Tiling}
use Rattle.region_meaning.specs.declared.area.AreaOp.{AreaOp}
use Rattle.region_meaning.specs.declared.area.AreaOp.TheVariants as area
use Rattle.region_meaning.specs.Areas.{AreaPlace}
use Rattle.map_meaning.specs.Maps.{CellAt, nowhere}
use Rattle.map_meaning.specs.Rules.{Rule, Zonal, ZoneSize, Global, alike, operand_at}

-- what is done with the numbers of each class, where the rule is one over areas or the whole map
abbrev pub area_op_of : Rule → Option AreaOp
area_op_of (Zonal o) = Some o
area_op_of ZoneSize = Some area.Area
area_op_of (Global o) = Some o
area_op_of _ = None

-- the values that such a rule looks at: 0 where it takes none
abbrev pub zone_values : Rule → List CellAt → CellAt
zone_values (Zonal o) operands = operand_at operands 0
zone_values ZoneSize operands = alike 0
zone_values (Global o) operands = operand_at operands 0
zone_values _ operands = nowhere

-- the classes that such a rule looks at: one class everywhere where the whole map is one area
abbrev pub zone_classes : Rule → List CellAt → CellAt
zone_classes (Zonal o) operands = operand_at operands 1
zone_classes ZoneSize operands = operand_at operands 0
zone_classes (Global o) operands = alike 1
zone_classes _ operands = nowhere

-- a place with its value and its class
abbrev pub zone_at : CellAt → CellAt → ℕ → AreaPlace
zone_at values classes place = record { value = values place; area = classes place }

-- the places of a rectangle, each with its value and its class
abbrev pub zones_in : ℕ → Rect → CellAt → CellAt → List AreaPlace
zones_in cols r values classes = map (zone_at values classes) (places_of cols r)

-- the places of the first so many tiles, one tile after the other, each with its value and its class
abbrev pub tile_zones : Tiling → CellAt → CellAt → ℕ → List AreaPlace
tile_zones g values classes zero = []
tile_zones g values classes (suc tiles) = tile_zones g values classes tiles ++ zones_in g.cols (rect_of g tiles) values classes
