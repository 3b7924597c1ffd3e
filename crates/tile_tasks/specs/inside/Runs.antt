-- A task by its work: what it is asked, and what it reads.
use Rattle.std.specs.Prelude.{◌≡◌, ℕ, true, List, [], ◌∷◌, ⊤}
use Rattle.tile_map.specs.Rects.{grown}
use Rattle.tile_map.specs.Tiles.{rect_of}
use Rattle.tile_map.specs.inside.Met.{tiles_of}
use Rattle.tile_map.specs.declared.tiling.Tiling.{Tiling}
use Rattle.map_meaning.specs.Evaluation.{Done}
use Rattle.map_meaning.specs.Rules.{reach_of}
use Rattle.map_meaning.specs.Table.{goes_along_drains, is_focal, is_window_length}
use Rattle.map_meaning.specs.declared.known.Known.{Known}
use Rattle.map_meaning.specs.declared.known.Span.{Span}
use Rattle.map_meaning.specs.declared.program.Operation.{Operation}
use Rattle.map_meaning.specs.declared.program.Program.{Program}
use Rattle.span_operands.specs.declared.scope.Scope.{Scope}
use Rattle.span_operands.specs.declared.scope.Scope.TheVariants as scope
use Rattle.span_operands.specs.inside.Held.{HasDrainMap}
use Rattle.span_operands.specs.inside.Scopes.{IsScopeOf}
use Rattle.task_graph.specs.declared.task.Work.{Work}
use Rattle.task_graph.specs.declared.task.Work.TheVariants as work
use Rattle.task_tiles.specs.TaskTiles.{classes_at, values_at}
use Rattle.task_tiles.specs.declared.tile.Tile.{Tile}
use Rattle.tile_tasks.specs.inside.Areas.{ArePartials, IsZone, ReadsTotal, ReadsZones, class_operand, value_operand, zone_op}
use Rattle.tile_tasks.specs.inside.Tasks.{IsTaskAt, ReadsAround, ReadsEach, ReadsScalars}

-- the work is one that operations that look at this have, and no transport's
abbrev pub SuitsScope : Work → Scope → Type 0
SuitsScope work.Local scope.Local = ⊤
SuitsScope work.Window (scope.Focal w) = ⊤
SuitsScope work.Near (scope.Near n) = ⊤
SuitsScope work.Partial s = IsZone s
SuitsScope work.Merge s = IsZone s
SuitsScope work.Spread s = IsZone s
SuitsScope _ _ = ⊥

-- the numbers of the tiles that a tile's halo of so many rows and columns meets
abbrev pub halo_numbers : Tiling → ℕ → ℕ → List ℕ
halo_numbers g k tile = tiles_of g (grown g.rows g.cols k (rect_of g tile))

-- such a work on a tile reads these tiles, where this is done
abbrev pub ReadsFor : Work → Scope → Program → Span → Known → Tiling → ℕ → ℕ → Operation → List Tile → Done → Type 0
ReadsFor work.Local s program span known g step tile o ts done = ReadsEach program span known g step (tile ∷ []) o ts done
ReadsFor work.Window s program span known g step tile o ts done =
    ReadsAround program span known g step (halo_numbers g (reach_of o.window) tile) o.a ts done
ReadsFor work.Near s program span known g step tile o ts done = ReadsScalars program span known g step (halo_numbers g 1 tile) o.a ts done
ReadsFor work.Partial s program span known g step tile o ts done =
    ReadsZones program span known g step tile (value_operand s o) (class_operand s o) ts done
ReadsFor work.Merge s program span known g step tile o ts done =
    ArePartials (zone_op s) g ts (values_at program known step done o) (classes_at program known step done o)
ReadsFor work.Spread s program span known g step tile o ts done =
    ReadsTotal program span known g step tile (zone_op s) o (class_operand s o) ts done
ReadsFor work.Flow s program span known g step tile o ts done = ⊥

-- the operation is one of the program's, at a step of the span, and the work is one that it has
pub record CanRun (program : Program) (span : Span) (known : Known) (g : Tiling) (step tile : ℕ) (o : Operation) (w : Work)
    (s : Scope) : Type 0 where
  pub task : IsTaskAt program span known g step tile o
  pub scope_is : IsScopeOf s o.op
  pub suits : SuitsScope w s
  pub window : is_focal o.op ≡ true → is_window_length o.window ≡ true
  pub drain : goes_along_drains o.op ≡ true → HasDrainMap known o.drain
