use Rattle.std.proofs.Common.{◌≡◌, ◌∙◌, ap, arith}
use Rattle.std.proofs.lemmas.List.{get_or_default}
use Rattle.cell_values.specs.declared.cell.Cell.TheVariants.{Mv}
use Rattle.tile_map.specs.Cuts.{cell_at}
use Rattle.tile_map.specs.declared.rect.Rect.{Rect}
use Rattle.tile_map.specs.Rects.{place_in}
use Rattle.flow_task.specs.inside.Begins.{coded_first, is_coded, tile_place_of}
use Rattle.flow_task.proofs.Within.{over_more}
use Rattle.flow_task.proofs.begin.directed_cells.Goals as goal

pub loop-cell-preserved : goal.loop-cell-preserved
loop-cell-preserved c =
    let place : c.place-at.result ≡ tile_place_of c.args.tiling.now c.args.tile c.loop-cell.cell = c.place-at.ensures.value ∙ ap (λ (r : Rect). place_in c.args.tiling.now.cols r c.loop-cell.cell) c.requires.rect in
    over_more (coded_first c.args.codes.now c.args.tiling.now c.args.tile) c.loop-cell.cell _ c.loop-cell.directed.items c.push.new.self.items c.loop-cell.invariant
    (c.is_coded.ensures ∙ ap is_coded (get_or_default c.args.codes.now c.place-at.result _ Mv (omega (arith, c.place-at.ensures.below, c.requires.codes)) ∙ ap (cell_at c.args.codes.now) place))
    c.in_ok-push.ensures.items
