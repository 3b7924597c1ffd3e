-- Tiles of operations on cells.
use Rattle.std.proofs.Common.{◌≡◌, ℕ, ◌<◌, false, Bool, cond, List, [], ◌∷◌, map, sym, ap, ◌∙◌}
use Rattle.cell_values.specs.declared.cell.Cell.{Cell}
use Rattle.cell_ops.specs.declared.work.CellWork.{CellWork}
use Rattle.cell_ops.specs.Work.{IsWorkOf, work_outcome}
use Rattle.cell_ops.proofs.Callers.{works_mean}
use Rattle.tile_map.specs.declared.rect.Rect.{Rect}
use Rattle.tile_map.specs.Parts.{part_of}
use Rattle.tile_map.specs.Rects.{cell_count, place_in}
use Rattle.tile_map.proofs.Callers.{part_of-same}
use Rattle.map_meaning.specs.declared.known.Known.{Known}
use Rattle.map_meaning.specs.declared.program.Operand.{Operand}
use Rattle.map_meaning.specs.declared.program.Operand.TheVariants.{Drain}
use Rattle.map_meaning.specs.declared.program.Operation.{Operation}
use Rattle.map_meaning.specs.declared.program.Program.{Program}
use Rattle.map_meaning.specs.Evaluation.{Done, operand_cell, outcome_at}
use Rattle.map_meaning.specs.Maps.{CellAt}
use Rattle.map_meaning.specs.Programs.{kinds_of, operands_of}
use Rattle.map_meaning.specs.Rules.{Setting, outcome_of}
use Rattle.map_meaning.specs.Scenes.{Scene, setting_at}
use Rattle.map_meaning.specs.Spans.{scene_of}
use Rattle.map_meaning.specs.Table.{goes_along_drains}
use Rattle.tile_cuts.specs.TileParts.{part_in}
use Rattle.std.proofs.Common.{◌+◌}
use Rattle.map_meaning.specs.declared.known.Span.{Span}
use Rattle.tile_map.specs.declared.tiling.Tiling.{Tiling}
use Rattle.tile_map.specs.Tiles.{rect_of}
use Rattle.tile_tasks.specs.declared.own.Operands.{Operands}
use Rattle.task_tiles.specs.declared.tile.Tile.{Tile}
use Rattle.tile_tasks.specs.inside.Tasks.{ReadsEach, many_for}
use Rattle.task_tiles.specs.TaskTiles.{tile_part}
use Rattle.tile_tasks.specs.inside.Own.{AreOwnOf, cells_a, cells_b, cells_c, cells_d}
use Rattle.tile_tasks.proofs.OwnLemmas.{own_shows}

module _ (program : Program) (known : Known) (step : ℕ) (done : Done) (o : Operation) (r : Rect) where
  abbrev scene : Scene
  scene = scene_of program.inputs known step

  abbrev cell : Operand → CellAt
  cell = operand_cell scene done

  abbrev setting : Setting
  setting = setting_at scene o.file o.window (kinds_of program o)

  -- what a work gives of the cells of its operands at a rectangle's places is the part of its operation there
  pub local_is : (work : CellWork) (a b c d : CellAt) → goes_along_drains o.op ≡ false → IsWorkOf work o.op setting →
      ((i : ℕ) → i < cell_count r → a i ≡ cell o.a (place_in known.cols r i)) → ((i : ℕ) → i < cell_count r → b i ≡ cell o.b (place_in known.cols r i)) →
      ((i : ℕ) → i < cell_count r → c i ≡ cell o.c (place_in known.cols r i)) → ((i : ℕ) → i < cell_count r → d i ≡ cell o.d (place_in known.cols r i)) →
      part_of (λ i. work_outcome work (a i) (b i) (c i) (d i)) (cell_count r) ≡ tile_part program known step done o r
  unfolding part_in
  local_is work a b c d alone is same_a same_b same_c same_d =
      part_of-same (λ i. work_outcome work (a i) (b i) (c i) (d i)) (λ i. outcome_at program scene done o (place_in known.cols r i)) (cell_count r)
      (λ i below.
      let p : ℕ = place_in known.cols r i in
      ap (λ (x : Cell). work_outcome work x (b i) (c i) (d i)) (same_a i below)
      ∙ (ap (λ (x : Cell). work_outcome work (cell o.a p) x (c i) (d i)) (same_b i below)
      ∙ (ap (λ (x : Cell). work_outcome work (cell o.a p) (cell o.b p) x (d i)) (same_c i below)
      ∙ (ap (λ (x : Cell). work_outcome work (cell o.a p) (cell o.b p) (cell o.c p) x) (same_d i below)
      ∙ (sym (works_mean work o.op setting (map cell (operands_of o)) p is)
      ∙ ap (λ (along : Bool). outcome_of o.op setting (map cell (cond along (Drain o.drain ∷ operands_of o) (operands_of o))) p) (sym alone))))))

-- the same of operands whose cells are handed in or were cut
pub local_tile_is : (program : Program) (s : Span) (known : Known) (g : Tiling) (step tile : ℕ) (o : Operation) (xs : Operands) (ts : List Tile) (work : CellWork) (size : ℕ) (done : Done) → g.cols ≡ known.cols → size ≡ cell_count (rect_of g tile) →
    goes_along_drains o.op ≡ false → IsWorkOf work o.op (setting_at (scene_of program.inputs known step) o.file o.window (kinds_of program o)) → AreOwnOf program s known g step tile o xs → ReadsEach program s known g step (tile ∷ []) o ts done →
    part_of (λ i. work_outcome work (cells_a xs ts i) (cells_b s step o xs ts i) (cells_c s step o xs ts i) (cells_d s step o xs ts i)) size ≡ tile_part program known step done o (rect_of g tile)
local_tile_is program s known g step tile o xs ts work size done cols same alone is own reads =
    let r = rect_of g tile in
    let f = operand_cell (scene_of program.inputs known step) done in
    let there : (operand : Operand) (i : ℕ) → f operand (place_in g.cols r i) ≡ f operand (place_in known.cols r i) = λ operand i. ap (λ (n : ℕ). f operand (place_in n r i)) cols in
    let of = λ (i : ℕ). work_outcome work (cells_a xs ts i) (cells_b s step o xs ts i) (cells_c s step o xs ts i) (cells_d s step o xs ts i) in
    ap (part_of of) same
    ∙ local_is program known step done o r work (cells_a xs ts) (cells_b s step o xs ts) (cells_c s step o xs ts) (cells_d s step o xs ts) alone is
    (λ i below. own_shows program s known g step tile o.a xs.a 0 ts done own.a reads.a reads.agrees i below ∙ there o.a i)
    (λ i below. own_shows program s known g step tile o.b xs.b (many_for s step 1 o.a) ts done own.b reads.b reads.agrees i below ∙ there o.b i)
    (λ i below. own_shows program s known g step tile o.c xs.c (many_for s step 1 o.a + many_for s step 1 o.b) ts done own.c reads.c reads.agrees i below ∙ there o.c i)
    (λ i below. own_shows program s known g step tile o.d xs.d (many_for s step 1 o.a + many_for s step 1 o.b + many_for s step 1 o.c) ts done own.d reads.d reads.agrees i below ∙ there o.d i)
