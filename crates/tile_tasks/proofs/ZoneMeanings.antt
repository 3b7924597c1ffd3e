-- What operations over areas, and over the whole map, give at the places of a tile.
use Rattle.std.proofs.Common.{◌≡◌, ℕ, false, Bool, cond, List, ◌∷◌, map, sym, ap, subst, ◌∙◌}
use Rattle.std.specs.Prelude.{Some}
use Rattle.std.proofs.Math.Path.{fun_ext}
use Rattle.tile_map.specs.declared.rect.Rect.{Rect}
use Rattle.tile_map.specs.declared.tiling.Tiling.{Tiling}
use Rattle.tile_map.specs.Parts.{Outcome}
use Rattle.tile_map.specs.Tiles.{tile_count}
use Rattle.region_meaning.specs.declared.area.AreaOp.{AreaOp}
use Rattle.region_meaning.specs.AreaResults.{area_outcome}
use Rattle.area_ops.specs.Partials.{PartialValue, StandsFor}
use Rattle.map_meaning.specs.declared.known.Known.{Known}
use Rattle.map_meaning.specs.declared.program.Operand.{Operand}
use Rattle.map_meaning.specs.declared.program.Operand.TheVariants.{Drain, Literal}
use Rattle.map_meaning.specs.declared.program.Operation.{Operation}
use Rattle.map_meaning.specs.declared.program.Program.{Program}
use Rattle.map_meaning.specs.Evaluation.{Done, operand_cell, outcome_at}
use Rattle.map_meaning.specs.Programs.{kinds_of, operands_of}
use Rattle.map_meaning.specs.Rules as rule
use Rattle.map_meaning.specs.Rules.{Rule, rule_of}
use Rattle.map_meaning.specs.Scenes.{setting_at}
use Rattle.map_meaning.specs.Spans.{scene_of}
use Rattle.map_meaning.specs.Table.{goes_along_drains}
use Rattle.span_operands.specs.declared.scope.Scope.{Scope}
use Rattle.span_operands.specs.declared.scope.Scope.TheVariants as scope
use Rattle.span_operands.specs.inside.Scopes.{IsScopeOf}
use Rattle.task_laws.specs.Laws.{LookAtAllTiles}
use Rattle.task_laws.specs.Zones.{area_op_of, zone_classes, tile_zones, zone_values}
use Rattle.tile_cuts.specs.TileParts.{part_in}
use Rattle.task_tiles.specs.declared.tile.Tile.{Tile}
use Rattle.task_tiles.specs.declared.tile.Tile.TheVariants.{Part, Partial}
use Rattle.region_meaning.specs.Areas.{AreaPlace}
use Rattle.tile_tasks.specs.inside.Areas.{IsPartial, IsPartialOf, IsZone, class_operand, value_operand, zone_op}
use Rattle.std.specs.Prelude.{pos}
use Rattle.cell_values.specs.declared.cell.Cell.{Cell}
use Rattle.cell_values.specs.declared.cell.Cell.TheVariants.{Val}
use Rattle.cell_values.specs.declared.kind.Kind.{Kind}
use Rattle.cell_values.specs.declared.kind.Kind.TheVariants.{Nominal, Scalar}
use Rattle.map_meaning.specs.declared.known.Span.{Span}
use Rattle.map_meaning.specs.declared.known.Span.TheVariants as span
use Rattle.span_operands.specs.Made.{IsKnown}
use Rattle.tile_tasks.specs.inside.Tasks.{IsTaskAt}
use Rattle.task_tiles.specs.TaskTiles.{classes_at, operands_at, tile_part, values_at}
use Rattle.tile_tasks.specs.inside.Tiles.{IsPartialFor}

-- an operation that goes along no drain map has its own operands alone
alone : (program : Program) (known : Known) (step : ℕ) (done : Done) (o : Operation) → goes_along_drains o.op ≡ false → operands_at program known step done o ≡ map (operand_cell (scene_of program.inputs known step) done) (operands_of o)
alone program known step done o is = ap (λ (along : Bool). map (operand_cell (scene_of program.inputs known step) done) (cond along (Drain o.drain ∷ operands_of o) (operands_of o))) is

-- the values of an operation with a rule, and its classes, by its own operands
values_by : (program : Program) (known : Known) (step : ℕ) (done : Done) (o : Operation) (q : Rule) → rule_of o.op ≡ q → goes_along_drains o.op ≡ false → values_at program known step done o ≡ zone_values q (map (operand_cell (scene_of program.inputs known step) done) (operands_of o))
values_by program known step done o q is no_drain =
    ap (zone_values (rule_of o.op)) (alone program known step done o no_drain) ∙ ap (λ (x : Rule). zone_values x (map (operand_cell (scene_of program.inputs known step) done) (operands_of o))) is

classes_by : (program : Program) (known : Known) (step : ℕ) (done : Done) (o : Operation) (q : Rule) → rule_of o.op ≡ q → goes_along_drains o.op ≡ false → classes_at program known step done o ≡ zone_classes q (map (operand_cell (scene_of program.inputs known step) done) (operands_of o))
classes_by program known step done o q is no_drain =
    ap (zone_classes (rule_of o.op)) (alone program known step done o no_drain) ∙ ap (λ (x : Rule). zone_classes x (map (operand_cell (scene_of program.inputs known step) done) (operands_of o))) is

-- the values are those of the operand that has them
pub values_are : (program : Program) (known : Known) (step : ℕ) (done : Done) (s : Scope) (o : Operation) → IsZone s → IsScopeOf s o.op → values_at program known step done o ≡ operand_cell (scene_of program.inputs known step) done (value_operand s o)
values_are program known step done (scope.Zonal a) o zone is = values_by program known step done o (rule.Zonal a) is.0 is.1
values_are program known step done scope.ZoneSize o zone is = values_by program known step done o rule.ZoneSize is.0 is.1
values_are program known step done (scope.Global a) o zone is = values_by program known step done o (rule.Global a) is.0 is.1
values_are program known step done _ o zone is = absurd zone

-- and so are the classes
pub classes_are : (program : Program) (known : Known) (step : ℕ) (done : Done) (s : Scope) (o : Operation) → IsZone s → IsScopeOf s o.op → classes_at program known step done o ≡ operand_cell (scene_of program.inputs known step) done (class_operand s o)
classes_are program known step done (scope.Zonal a) o zone is = classes_by program known step done o (rule.Zonal a) is.0 is.1
classes_are program known step done scope.ZoneSize o zone is = classes_by program known step done o rule.ZoneSize is.0 is.1
classes_are program known step done (scope.Global a) o zone is = classes_by program known step done o (rule.Global a) is.0 is.1
classes_are program known step done _ o zone is = absurd zone

-- the operation is one over areas
pub zone_is : (s : Scope) (o : Operation) → IsZone s → IsScopeOf s o.op → area_op_of (rule_of o.op) ≡ Some (zone_op s)
zone_is (scope.Zonal a) o zone is = ap area_op_of is.0
zone_is scope.ZoneSize o zone is = ap area_op_of is.0
zone_is (scope.Global a) o zone is = ap area_op_of is.0
zone_is _ o zone is = absurd zone

-- what a tile gets of all areas is the operation's part there
pub spread_is : LookAtAllTiles → (program : Program) (known : Known) (g : Tiling) (step : ℕ) (done : Done) (s : Scope) (o : Operation) (r : Rect) → IsZone s → IsScopeOf s o.op → g.rows ≡ known.rows → g.cols ≡ known.cols →
    part_in g.cols r (λ place. area_outcome (zone_op s) (tile_zones g (values_at program known step done o) (classes_at program known step done o) (tile_count g)) (classes_at program known step done o place)) ≡ tile_part program known step done o r
spread_is law program known g step done s o r zone is rows cols =
    let scene = scene_of program.inputs known step in
    let setting = setting_at scene o.file o.window (kinds_of program o) in
    let f = λ (place : ℕ). area_outcome (zone_op s) (tile_zones g (values_at program known step done o) (classes_at program known step done o) (tile_count g)) (classes_at program known step done o place) in
    let same : f ≡ outcome_at program scene done o =
    fun_ext (λ place. sym (law o.op (zone_op s) setting (operands_at program known step done o) g place (zone_is s o zone is) rows cols)) in
    ap (λ (h : ℕ → Outcome). part_in g.cols r h) same ∙ ap (λ (n : ℕ). part_in n r (outcome_at program scene done o)) cols

-- ---- the partial that is handed in

pub is_partial : (a : AreaOp) (places : List AreaPlace) (t : Tile) → IsPartialFor a places t → IsPartial t
is_partial a places (Part p) is = is
is_partial a places (Partial v) is = tt

pub partial_op : (a : AreaOp) (places : List AreaPlace) (t : Tile) (v : PartialValue) → IsPartialFor a places t → IsPartialOf t v → v.op ≡ a
partial_op a places (Part p) v is of = absurd is
partial_op a places (Partial w) v is of = ap (λ (x : PartialValue). x.op) of ∙ is.0

pub partial_stands : (a : AreaOp) (places : List AreaPlace) (t : Tile) (v : PartialValue) → IsPartialFor a places t → IsPartialOf t v → StandsFor v places
partial_stands a places (Part p) v is of = absurd is
partial_stands a places (Partial w) v is of = subst (λ (x : PartialValue). StandsFor x places) (sym of) is.1

-- ---- what is known

-- a number is known where another operand is
literal_known : (program : Program) (s : Span) (known : Known) (step : ℕ) (operand : Operand) (k : Kind) (c : Cell) → IsKnown program s known step operand → IsKnown program s known step (Literal k c)
literal_known program (span.Initial first end) known step operand k c h = (h.0, tt)
literal_known program (span.Steps first last) known step operand k c h = tt

pub value_known : (program : Program) (t : Span) (known : Known) (g : Tiling) (step tile : ℕ) (s : Scope) (o : Operation) → IsZone s → IsTaskAt program t known g step tile o → IsKnown program t known step (value_operand s o)
value_known program t known g step tile (scope.Zonal a) o zone task = task.a
value_known program t known g step tile scope.ZoneSize o zone task = literal_known program t known step o.a Scalar (Val (pos 0)) task.a
value_known program t known g step tile (scope.Global a) o zone task = task.a
value_known program t known g step tile _ o zone task = absurd zone

pub class_known : (program : Program) (t : Span) (known : Known) (g : Tiling) (step tile : ℕ) (s : Scope) (o : Operation) → IsZone s → IsTaskAt program t known g step tile o → IsKnown program t known step (class_operand s o)
class_known program t known g step tile (scope.Zonal a) o zone task = task.b
class_known program t known g step tile scope.ZoneSize o zone task = task.a
class_known program t known g step tile (scope.Global a) o zone task = literal_known program t known step o.a Nominal (Val (pos 1)) task.a
class_known program t known g step tile _ o zone task = absurd zone
