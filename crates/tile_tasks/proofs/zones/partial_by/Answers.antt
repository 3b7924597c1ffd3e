-- The values and the classes are those of the operands.
use Rattle.std.proofs.Common.{◌∙◌, ℕ, List, map, ap, subst, sym}
use Rattle.std.specs.Arc.{arc_value}
use Rattle.tile_map.specs.Args.{SpansPlaces}
use Rattle.map_meaning.specs.Evaluation.{operand_cell}
use Rattle.map_meaning.specs.Maps.{CellAt}
use Rattle.map_meaning.specs.Spans.{scene_of}
use Rattle.tile_tasks.specs.inside.Tasks.{many_for}
use Rattle.tile_tasks.specs.inside.Tiles.{tile_handed}
use Rattle.task_tiles.specs.declared.tile.Tile.{Tile}
use Rattle.tile_tasks.specs.inside.Own.{IsShownFor, own_cell}
use Rattle.tile_tasks.proofs.OwnLemmas.{own_shown, own_shows}
use Rattle.tile_tasks.proofs.zones.partial_by.Goals as goal

pub shown-value_cells-requires : goal.shown-value_cells-requires
shown-value_cells-requires c =
    let ts : List Tile = map arc_value c.args.tiles.now in
    own_shown c.args.program.now c.args.span c.args.known.now c.args.tiling.now c.args.step c.args.tile c.args.values c.in_ok-own_values.own_values 0 ts c.requires.reads.0 c.in_ok-own_values.ensures c.requires.reads.1.of_values c.tile_size-size.result c.tile_size-size.ensures.value

pub shown-class_cells-requires : goal.shown-class_cells-requires
shown-class_cells-requires c =
    let ts : List Tile = map arc_value c.args.tiles.now in
    subst (λ (n : ℕ). IsShownFor c.in_ok-own_classes.own_classes ts n c.tile_size-size.result) (sym c.many-index.ensures.value)
    (own_shown c.args.program.now c.args.span c.args.known.now c.args.tiling.now c.args.step c.args.tile c.args.classes c.in_ok-own_classes.own_classes (many_for c.args.span c.args.step 1 c.args.values) ts c.requires.reads.0 c.in_ok-own_classes.ensures c.requires.reads.1.of_classes c.tile_size-size.result c.tile_size-size.ensures.value)

pub tile_partial-requires-clause-values : goal.tile_partial-requires-clause-values
tile_partial-requires-clause-values c = subst (λ (n : ℕ). SpansPlaces c.shown-value_cells.result n) c.tile_size-size.ensures.value c.shown-value_cells.ensures.spans

pub tile_partial-requires-clause-classes : goal.tile_partial-requires-clause-classes
tile_partial-requires-clause-classes c = subst (λ (n : ℕ). SpansPlaces c.shown-class_cells.result n) c.tile_size-size.ensures.value c.shown-class_cells.ensures.spans

pub returns-clause-stands : goal.returns-clause-stands
returns-clause-stands c = λ done reads.
    let ts : List Tile = map arc_value c.args.tiles.now in
    let cell = operand_cell (scene_of c.args.program.now.inputs c.args.known.now c.args.step) done in
    c.in_ok-partial.ensures.stands (cell c.args.values) (cell c.args.classes)
    (λ i below.
    ap (λ (f : CellAt). f i) c.shown-value_cells.ensures.cell
    ∙ own_shows c.args.program.now c.args.span c.args.known.now c.args.tiling.now c.args.step c.args.tile c.args.values c.in_ok-own_values.own_values 0 ts done c.in_ok-own_values.ensures reads.of_values reads.agrees i below)
    (λ i below.
    ap (λ (f : CellAt). f i) c.shown-class_cells.ensures.cell
    ∙ (ap (λ (n : ℕ). own_cell c.in_ok-own_classes.own_classes (tile_handed ts n) i) c.many-index.ensures.value
    ∙ own_shows c.args.program.now c.args.span c.args.known.now c.args.tiling.now c.args.step c.args.tile c.args.classes c.in_ok-own_classes.own_classes (many_for c.args.span c.args.step 1 c.args.values) ts done c.in_ok-own_classes.ensures reads.of_classes reads.agrees i below))
