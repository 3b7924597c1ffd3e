-- The codes and the values are those of the definition.
use Rattle.std.proofs.Common.{◌*◌, ◌∙◌, ap, sym, List}
use Rattle.cell_values.specs.declared.cell.Cell.{Cell}
use Rattle.map_meaning.specs.Evaluation.{Done, operand_cell}
use Rattle.map_meaning.specs.Maps.{WholeMap, nth}
use Rattle.map_meaning.specs.Spans.{scene_of}
use Rattle.tile_map.specs.Cuts.{cut_of}
use Rattle.tile_map.specs.Parts.{tabulate}
use Rattle.tile_map.specs.Tiles.{rect_of}
use Rattle.tile_tasks.proofs.HaloMeanings.{near_is, near_surrounded}
use Rattle.tile_tasks.proofs.halo.near_tile.Goals as goal

pub near_part-requires : goal.near_part-requires
near_part-requires c =
    let g = c.args.tiling.now in
    let known = c.args.known.now in
    let done : Done = c.requires.reads.0 in
    let f = operand_cell (scene_of c.args.program.now.inputs known c.args.step) done c.args.operation.a in
    let m = c.drain_map-drain.result.now in
    record {
      drains = m;
      values = tabulate f (m.rows * m.cols);
      around_it = near_surrounded g known c.args.tile f m c.as_slice.result.now c.as_slice-2.result.now c.rect-inner.result c.halo-around.result c.drain_map-drain.ensures.sound c.drain_map-drain.ensures.rows c.drain_map-drain.ensures.cols
          c.requires.task.rows c.requires.task.cols c.requires.task.in_tiling c.rect-inner.ensures.value c.halo-around.ensures.value
          (c.as_slice.ensures.value ∙ (c.in_ok-codes.ensures ∙ ap (λ (xs : List Cell). cut_of g.cols xs c.halo-around.result) c.cells.ensures.value))
          (c.as_slice-2.ensures.value ∙ c.in_ok-cells.ensures.cells done (rw c.halo-around.ensures.value c.requires.reads.1.around))
          c.requires.reads.1.scalars;
    }

pub returns : goal.returns
returns c = λ done reads.
    let g = c.args.tiling.now in
    let known = c.args.known.now in
    let o = c.args.operation in
    let f = operand_cell (scene_of c.args.program.now.inputs known c.args.step) done o.a in
    let m = c.drain_map-drain.result.now in
    let around_it = near_surrounded g known c.args.tile f m c.as_slice.result.now c.as_slice-2.result.now c.rect-inner.result c.halo-around.result c.drain_map-drain.ensures.sound c.drain_map-drain.ensures.rows c.drain_map-drain.ensures.cols
    c.requires.task.rows c.requires.task.cols c.requires.task.in_tiling c.rect-inner.ensures.value c.halo-around.ensures.value
    (c.as_slice.ensures.value ∙ (c.in_ok-codes.ensures ∙ ap (λ (xs : List Cell). cut_of g.cols xs c.halo-around.result) c.cells.ensures.value))
    (c.as_slice-2.ensures.value ∙ c.in_ok-cells.ensures.cells done (rw c.halo-around.ensures.value reads.around))
    reads.scalars in
    c.in_ok-part.ensures m (tabulate f (m.rows * m.cols)) around_it
    ∙ near_is c.args.program.now known c.args.step done o c.args.op m c.rect-inner.result (rect_of g c.args.tile) c.requires.scope.0 c.requires.scope.1 c.drain_map-drain.ensures.sound c.drain_map-drain.ensures.rows c.drain_map-drain.ensures.cols
    (c.drain_map-drain.ensures.codes ∙ sym (ap (λ (maps : List WholeMap). nth maps o.drain) reads.around.agrees.drains)) c.rect-inner.ensures.value
