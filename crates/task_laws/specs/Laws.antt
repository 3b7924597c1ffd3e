-- What a tile of an operation's map depends on.
use Rattle.std.specs.Prelude.{◌≡◌, ◌<◌, ℕ, List, Some}
use Rattle.cell_values.specs.declared.cell.Cell.{Cell}
use Rattle.cell_values.specs.declared.kind.Kind.TheVariants.{Scalar}
use Rattle.cell_values.specs.Kinds.{IsCell}
use Rattle.tile_map.specs.Cuts.{cell_at, cut_of}
use Rattle.tile_map.specs.Parts.{Outcome, part_of}
use Rattle.tile_map.specs.Rects.{IsInMap, cell_count, grown, place_in}
use Rattle.tile_map.specs.Tiles.{tile_count}
use Rattle.tile_map.specs.declared.rect.Rect.{Rect}
use Rattle.tile_map.specs.declared.tiling.Tiling.{Tiling}
use Rattle.region_meaning.specs.declared.area.AreaOp.{AreaOp}
use Rattle.region_meaning.specs.declared.window.WindowOp.{WindowOp}
use Rattle.region_meaning.specs.AreaResults.{area_outcome}
use Rattle.drain_meaning.specs.declared.op.NearOp.{NearOp}
use Rattle.drain_meaning.specs.Drains.{IsDrainMap}
use Rattle.map_meaning.specs.declared.op.Op.{Op}
use Rattle.map_meaning.specs.declared.program.Operation.{Operation}
use Rattle.map_meaning.specs.declared.program.Program.{Program}
use Rattle.map_meaning.specs.Evaluation.{Done, operation_part, outcome_at}
use Rattle.map_meaning.specs.Maps.{CellAt}
use Rattle.map_meaning.specs.Rules.{Local, Focal, Near, Setting, drain_by, operand_at, outcome_of, reach_of, rule_of, whole_by}
use Rattle.map_meaning.specs.Scenes.{Scene}
use Rattle.tile_cuts.specs.Laws.{TellsFirstHeld}
use Rattle.tile_cuts.specs.TileParts.{part_in, told_place}
use Rattle.task_laws.specs.Zones.{area_op_of, zone_classes, tile_zones, zone_values}

-- ---- operations on cells

-- what a local operation makes of the cells of its operands
abbrev pub OnCells : Type 0
OnCells = Setting → Cell → Cell → Cell → Cell → Outcome

-- the operands of one list have the same cells at a place as those of another one at another place
abbrev pub HaveSameCells : List CellAt → ℕ → List CellAt → ℕ → Type 0
HaveSameCells xs p ys q = (i : ℕ) → operand_at xs i p ≡ operand_at ys i q

-- an operation on cells looks at its operands' cells at the place alone, wherever that is
abbrev pub LookAtTheirPlace : Type 0
LookAtTheirPlace =
    (o : Op) (f : OnCells) (setting : Setting) (xs ys : List CellAt) (p q : ℕ) → rule_of o ≡ Local f → HaveSameCells xs p ys q →
    outcome_of o setting xs p ≡ outcome_of o setting ys q

-- where operands have by the numbers of a rectangle's cells what others have at its places, a local operation makes of them the
-- rectangle's part of what it makes of those
abbrev pub AreMadeOfTheirCells : Type 0
AreMadeOfTheirCells =
    (o : Op) (f : OnCells) (setting : Setting) (own whole : List CellAt) (cols : ℕ) (r : Rect) → rule_of o ≡ Local f →
    ((i : ℕ) → i < cell_count r → HaveSameCells own i whole (place_in cols r i)) →
    part_of (outcome_of o setting own) (cell_count r) ≡ part_in cols r (outcome_of o setting whole)

-- ---- windows, and one step up or down stream

-- what is seen of a map from a rectangle: its cells as far as so many rows and columns away
abbrev pub halo_of : Setting → ℕ → Rect → CellAt → List Cell
halo_of setting k r operand = cut_of setting.cols (whole_by setting operand) (grown setting.rows setting.cols k r)

-- of an operation over windows a rectangle depends on the cells of its halo alone
abbrev pub WindowsLookAtTheirHalo : Type 0
WindowsLookAtTheirHalo =
    (o : Op) (w : WindowOp) (setting : Setting) (xs ys : List CellAt) (r : Rect) → rule_of o ≡ Focal w →
    IsInMap setting.rows setting.cols r →
    halo_of setting (reach_of setting.window) r (operand_at xs 0) ≡ halo_of setting (reach_of setting.window) r (operand_at ys 0) →
    part_in setting.cols r (outcome_of o setting xs) ≡ part_in setting.cols r (outcome_of o setting ys)

-- the first operand is a drain map, and the second one has scalars
pub record CarryScalars (setting : Setting) (operands : List CellAt) : Type 0 where
  pub map : IsDrainMap (drain_by setting (operand_at operands 0))
  pub scalars : (place : ℕ) → IsCell Scalar (cell_at (whole_by setting (operand_at operands 1)) place)

-- of an operation that looks one step up or down stream a rectangle depends on the codes and the values of its halo alone
abbrev pub NearLookAtTheirHalo : Type 0
NearLookAtTheirHalo =
    (o : Op) (n : NearOp) (setting : Setting) (xs ys : List CellAt) (r : Rect) → rule_of o ≡ Near n →
    IsInMap setting.rows setting.cols r → CarryScalars setting xs → CarryScalars setting ys →
    halo_of setting 1 r (operand_at xs 0) ≡ halo_of setting 1 r (operand_at ys 0) →
    halo_of setting 1 r (operand_at xs 1) ≡ halo_of setting 1 r (operand_at ys 1) →
    part_in setting.cols r (outcome_of o setting xs) ≡ part_in setting.cols r (outcome_of o setting ys)

-- ---- areas, and the whole map

-- an operation over areas, or over the whole map, gives at each place what the values and classes of all tiles give, one tile
-- after the other
abbrev pub LookAtAllTiles : Type 0
LookAtAllTiles =
    (o : Op) (a : AreaOp) (setting : Setting) (operands : List CellAt) (g : Tiling) (place : ℕ) →
    area_op_of (rule_of o) ≡ Some a → g.rows ≡ setting.rows → g.cols ≡ setting.cols →
    outcome_of o setting operands place
    ≡ area_outcome a (tile_zones g (zone_values (rule_of o) operands) (zone_classes (rule_of o) operands) (tile_count g))
    (zone_classes (rule_of o) operands place)

-- ---- all operations

-- the part of an operation at a rectangle's places is the cut of the operation's map, with the first of these places that is Over
pub record IsCutOfMap (program : Program) (scene : Scene) (done : Done) (o : Operation) (r : Rect) : Type 0 where
  pub cells : (part_in scene.cols r (outcome_at program scene done o)).cells ≡
      cut_of scene.cols (operation_part program scene done o).cells r
  pub over : TellsFirstHeld scene.cols r (outcome_at program scene done o)
      (told_place scene.cols r (part_in scene.cols r (outcome_at program scene done o)).over)

-- the part of each operation of a program at a rectangle's places is the cut of the operation's map
abbrev pub AreCutsOfMaps : Type 0
AreCutsOfMaps =
    (program : Program) (scene : Scene) (done : Done) (o : Operation) (r : Rect) → IsInMap scene.rows scene.cols r →
    IsCutOfMap program scene done o r
