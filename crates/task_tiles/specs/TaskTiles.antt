-- The tile that a task of a span is to publish.
use Rattle.std.specs.Prelude.{◌≡◌, ℕ, ◌+◌, ◌-◌, List, map, get_or, slice_get, slice_range, Option, Some}
use Rattle.tile_map.specs.Tiles.{rect_of, tile_count}
use Rattle.tile_map.specs.declared.part.Part.{Part as PartValue}
use Rattle.tile_map.specs.declared.rect.Rect.{Rect}
use Rattle.tile_map.specs.declared.tiling.Tiling.{Tiling}
use Rattle.region_meaning.specs.declared.area.AreaOp.{AreaOp}
use Rattle.region_meaning.specs.Areas.{AreaPlace}
use Rattle.area_ops.specs.Partials.{StandsFor}
use Rattle.map_meaning.specs.Limits.{most_block}
use Rattle.map_meaning.specs.Maps.{CellAt}
use Rattle.map_meaning.specs.Rules.{rule_of}
use Rattle.map_meaning.specs.Evaluation.{Done, nothing_done, operand_cell, outcome_at}
use Rattle.map_meaning.specs.Onward.{onward}
use Rattle.map_meaning.specs.Programs.{IsWellFormed, all_operands}
use Rattle.map_meaning.specs.Spans.{IsSpan, Knows, done_before, scene_of}
use Rattle.map_meaning.specs.declared.known.Known.{Known}
use Rattle.map_meaning.specs.declared.known.Span.{Span}
use Rattle.map_meaning.specs.declared.known.Span.TheVariants as span
use Rattle.map_meaning.specs.declared.program.Operation.{Operation}
use Rattle.map_meaning.specs.declared.program.Program.{Program}
use Rattle.tile_cuts.specs.TileParts.{part_in}
use Rattle.block_meaning.specs.Blocks.{onward_steps}
use Rattle.task_laws.specs.Zones.{area_op_of, tile_zones, zone_classes, zone_values, zones_in}
use Rattle.task_graph.specs.Plans.{PlanValue, span_plan, task_at}
use Rattle.task_graph.specs.declared.task.Work.{Work}
use Rattle.task_graph.specs.declared.task.Work.TheVariants.{Merge, Partial}
use Rattle.task_tiles.specs.declared.tile.Tile.{Tile}
use Rattle.task_tiles.specs.declared.tile.Tile.TheVariants as tile

-- The plan is that of a span of a well-formed program, over what is known before it, in tiles of maps of the size that is known.
pub record IsPlanned (plan : PlanValue) (s : Span) (program : Program) (known : Known) : Type 0 where
  pub well_formed : IsWellFormed program
  pub spans : IsSpan program s most_block
  pub knows : Knows program s known
  pub plans : plan ≡ span_plan program s plan.tiling
  pub rows : plan.tiling.rows ≡ known.rows
  pub cols : plan.tiling.cols ≡ known.cols

-- the operations of the section that a span is of
abbrev pub span_section : Program → Span → List Operation
span_section program (span.Initial first end) = program.initial
span_section program (span.Steps first last) = program.dynamic

-- what is done at the end of a step of a span, where the evaluation goes on behind an Over
abbrev pub onward_done : Program → Span → Known → ℕ → Done
onward_done program (span.Initial first end) known step =
    let s = span.Initial first end in
    (onward program (scene_of program.inputs known 0) s (done_before program s known) (slice_range program.initial first end)).done
onward_done program (span.Steps first last) known step =
    let s = span.Steps first last in
    get_or (onward_steps program s known (done_before program s known) first (last + 1 - first)).steps (step - first) nothing_done

-- the part of an operation at a rectangle's places, where this is done
abbrev pub tile_part : Program → Known → ℕ → Done → Operation → Rect → PartValue
tile_part program known step done o r = part_in known.cols r (outcome_at program (scene_of program.inputs known step) done o)

-- the operands of an operation by their places, where this is done
abbrev pub operands_at : Program → Known → ℕ → Done → Operation → List CellAt
operands_at program known step done o = map (operand_cell (scene_of program.inputs known step) done) (all_operands o)

-- the values and the classes that an operation over areas looks at, where this is done
abbrev pub values_at : Program → Known → ℕ → Done → Operation → CellAt
values_at program known step done o = zone_values (rule_of o.op) (operands_at program known step done o)

-- the classes
abbrev pub classes_at : Program → Known → ℕ → Done → Operation → CellAt
classes_at program known step done o = zone_classes (rule_of o.op) (operands_at program known step done o)

-- the tile is this part of a map
abbrev pub IsPartTile : PartValue → Tile → Type 0
IsPartTile part (tile.Part p) = p ≡ part
IsPartTile part (tile.Partial v) = ⊥

-- the tile is a partial of these places, for this operation
abbrev pub IsPartialTile : Option AreaOp → List AreaPlace → Tile → Type 0
IsPartialTile a places (tile.Part p) = ⊥
IsPartialTile a places (tile.Partial v) = (a ≡ Some v.op) × StandsFor v places

-- The tile is the one that a work on an operation is to publish, where this is done: a partial of the places of its rectangle; one of
-- those of all tiles, in their order; or the part of the operation's map.
abbrev pub IsWorkTile : Program → Known → Tiling → ℕ → Done → Operation → Work → ℕ → Tile → Type 0
IsWorkTile program known g step done o Partial n =
    IsPartialTile (area_op_of (rule_of o.op)) (zones_in g.cols (rect_of g n) (values_at program known step done o)
    (classes_at program known step done o))
IsWorkTile program known g step done o Merge n =
    IsPartialTile (area_op_of (rule_of o.op)) (tile_zones g (values_at program known step done o) (classes_at program known step done o)
    (tile_count g))
IsWorkTile program known g step done o _ n = IsPartTile (tile_part program known step done o (rect_of g n))

-- The tile is the one that the task with this number is to publish: that of its work on its operation, where what is done is that of
-- the evaluation that goes on behind an Over.
pub record IsTaskTile (plan : PlanValue) (s : Span) (program : Program) (known : Known) (t : ℕ) (tile : Tile) : Type 0 where
  pub operation : Operation
  pub there : slice_get (span_section program s) (task_at plan t).operation ≡ Some operation
  pub is : IsWorkTile program known plan.tiling (task_at plan t).step (onward_done program s known (task_at plan t).step) operation
      (task_at plan t).work (task_at plan t).tile tile
