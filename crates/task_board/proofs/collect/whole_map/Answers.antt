use Rattle.std.proofs.Common.{length, ap, ◌∙◌}
use Rattle.std.proofs.lemmas.Result.{IfOk-weaker}
use Rattle.tile_map.specs.Tiles.{rect_of}
use Rattle.tile_map.proofs.Callers.{length-cut_of}
use Rattle.task_board.proofs.MapLemmas.{put_together}
use Rattle.task_board.proofs.collect.whole_map.Goals as goal

pub gather-requires-clause-cells : goal.gather-requires-clause-cells
gather-requires-clause-cells c = λ tile below meets.
    let g = c.args.tiling.now in
    ap length (c.requires.1.there tile below).1 ∙ length-cut_of g.cols c.requires.0 (rect_of g tile)

pub returns : goal.returns
returns c = IfOk-weaker c.new.result _ _ (λ map is m are. is ∙ c.from_vec.ensures ∙ c.in_ok-cells.ensures ∙ put_together c.args.tiling.now c.args.tiles.now c.args.first m are) c.new.ensures
