-- Tiles of operations over areas, and over the whole map.
use Rattle.std.specs.Prelude.{◌≡◌, ◌<◌, ℕ, pos, List, [], ◌∷◌, length}
use Rattle.tile_map.specs.Args.{arg_cell}
use Rattle.tile_map.specs.Rects.{cell_count, place_in}
use Rattle.tile_map.specs.Tiles.{rect_of, tile_count}
use Rattle.tile_map.specs.declared.arg.Arg.{Arg}
use Rattle.tile_map.specs.declared.rect.Rect.{Rect}
use Rattle.tile_map.specs.declared.tiling.Tiling.{Tiling}
use Rattle.region_meaning.specs.declared.area.AreaOp.{AreaOp}
use Rattle.region_meaning.specs.declared.area.AreaOp.TheVariants as area
use Rattle.cell_values.specs.declared.cell.Cell.TheVariants.{Val}
use Rattle.cell_values.specs.declared.kind.Kind.TheVariants as kind
use Rattle.map_meaning.specs.Maps.{CellAt}
use Rattle.map_meaning.specs.declared.known.Known.{Known}
use Rattle.map_meaning.specs.declared.known.Span.{Span}
use Rattle.map_meaning.specs.declared.program.Operand.{Operand}
use Rattle.map_meaning.specs.declared.program.Operand.TheVariants.{Literal}
use Rattle.map_meaning.specs.declared.program.Operation.{Operation}
use Rattle.map_meaning.specs.declared.program.Program.{Program}
use Rattle.map_meaning.specs.Evaluation.{Done}
use Rattle.span_operands.specs.Made.{AgreesWith}
use Rattle.span_operands.specs.declared.scope.Scope.{Scope}
use Rattle.span_operands.specs.declared.scope.Scope.TheVariants as scope
use Rattle.tile_tasks.specs.inside.Tasks.{AreHandedIn, many_for}
use Rattle.area_ops.specs.Partials.{PartialValue, StandsFor}
use Rattle.task_laws.specs.Zones.{tile_zones, zones_in}
use Rattle.task_tiles.specs.TaskTiles.{classes_at, values_at}
use Rattle.task_tiles.specs.declared.tile.Tile.{Tile}
use Rattle.task_tiles.specs.declared.tile.Tile.TheVariants.{Part, Partial}
use Rattle.tile_tasks.specs.inside.Tiles.{IsPartialFor, tile_handed}

-- an operand has by the numbers of a rectangle's cells what a map has at its places
abbrev pub ShowsTile : ℕ → Rect → CellAt → Arg → Type 0
ShowsTile cols r f arg = (i : ℕ) → i < cell_count r → arg_cell arg i ≡ f (place_in cols r i)

-- the tile is a partial for this operation
abbrev pub HasOp : AreaOp → Tile → Type 0
HasOp a (Part p) = ⊥
HasOp a (Partial v) = a ≡ v.op

-- how many cells a partial stands for
abbrev pub many_in : Tile → ℕ
many_in (Part p) = 0
many_in (Partial v) = v.cells

-- the tiles are the partials of all tiles of a tiling, in their order, for these values and classes
pub record ArePartials (a : AreaOp) (g : Tiling) (ts : List Tile) (values classes : CellAt) : Type 0 where
  pub count : length ts ≡ tile_count g
  pub each : (i : ℕ) → i < tile_count g → IsPartialFor a (zones_in g.cols (rect_of g i) values classes) (tile_handed ts i)

-- there are such values and classes
abbrev pub SomeMaps : (CellAt → CellAt → Type 0) → Type 0
SomeMaps P = (values : CellAt) × (classes : CellAt) × P values classes

-- a partial stands for the first so many tiles
pub record IsMerging (a : AreaOp) (g : Tiling) (ts : List Tile) (index : ℕ) (total : PartialValue) : Type 0 where
  pub op : total.op ≡ a
  pub stands : (values classes : CellAt) → ArePartials a g ts values classes → StandsFor total (tile_zones g values classes index)

-- ---- operations

-- the operation is one over areas, or over the whole map
abbrev pub IsZone : Scope → Type 0
IsZone (scope.Zonal a) = Unit {0}
IsZone scope.ZoneSize = Unit {0}
IsZone (scope.Global a) = Unit {0}
IsZone _ = ⊥

-- what is done with the numbers of each class
abbrev pub zone_op : Scope → AreaOp
zone_op (scope.Zonal a) = a
zone_op (scope.Global a) = a
zone_op _ = area.Area

-- the operand that has the values; 0 where the operation takes none
abbrev pub value_operand : Scope → Operation → Operand
value_operand (scope.Zonal a) o = o.a
value_operand (scope.Global a) o = o.a
value_operand _ o = Literal kind.Scalar (Val (pos 0))

-- the operand that has the classes; 1 where the whole map is one area
abbrev pub class_operand : Scope → Operation → Operand
class_operand (scope.Zonal a) o = o.b
class_operand scope.ZoneSize o = o.a
class_operand _ o = Literal kind.Nominal (Val (pos 1))

-- the tiles of the values' and of the classes' maps are handed in
pub record ReadsZones (program : Program) (s : Span) (known : Known) (g : Tiling) (step tile : ℕ) (values classes : Operand)
    (ts : List Tile) (done : Done) : Type 0 where
  pub agrees : AgreesWith program s known step done
  pub of_values : AreHandedIn program s known g step done (tile ∷ []) values 0 ts
  pub of_classes : AreHandedIn program s known g step done (tile ∷ []) classes (many_for s step 1 values) ts

-- the partial of the whole map is handed in, and then the tile of the classes' map
pub record ReadsTotal (program : Program) (s : Span) (known : Known) (g : Tiling) (step tile : ℕ) (a : AreaOp) (o : Operation)
    (classes : Operand) (ts : List Tile) (done : Done) : Type 0 where
  pub agrees : AgreesWith program s known step done
  pub within : 0 < length ts
  pub total : IsPartialFor a
      (tile_zones g (values_at program known step done o) (classes_at program known step done o) (tile_count g))
      (tile_handed ts 0)
  pub of_classes : AreHandedIn program s known g step done (tile ∷ []) classes 1 ts

-- the tile is a partial
abbrev pub IsPartial : Tile → Type 0
IsPartial (Part p) = ⊥
IsPartial (Partial v) = Unit {0}

-- the tile is this partial
abbrev pub IsPartialOf : Tile → PartialValue → Type 0
IsPartialOf (Part p) v = ⊥
IsPartialOf (Partial w) v = v ≡ w
