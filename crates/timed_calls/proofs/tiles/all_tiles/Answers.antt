use Rattle.std.proofs.Common.{◌≡◌, ◌<◌, ◌+◌, ◌∙◌, ℕ, List, [], length, get_or, ap, sym, subst, arith}
use Rattle.std.proofs.lemmas.List.{length_push}
use Rattle.cell_values.specs.declared.cell.Cell.{Cell}
use Rattle.tile_map.specs.Rects.{cell_count}
use Rattle.tile_map.specs.Tiles.{rect_of}
use Rattle.tile_map.proofs.Callers.{length-cut_of, tile_behind}
use Rattle.timed_calls.proofs.tiles.all_tiles.Goals as goal

pub loop-tile-preserved : goal.loop-tile-preserved
loop-tile-preserved c =
    let g = c.args.map.now.tiling in
    let tiles = c.loop-tile.tiles.items in
    let cells = c.from_vec.result in
    let last : length cells ≡ cell_count (rect_of g c.loop-tile.tile) =
    ap length (c.from_vec.ensures ∙ c.in_ok-cells.ensures)
    ∙ (length-cut_of g.cols c.as_slice.result.now c.rect.result ∙ ap cell_count c.rect.ensures.value) in
    record {
      all = ap length c.in_ok-push.ensures.items ∙ (length_push tiles cells ∙ (let e = c.loop-tile.invariant.all in omega arith));
      whole = subst (λ (xs : List (List Cell)). (t : ℕ) → t < c.loop-tile.tile + 1 → length (get_or xs t []) ≡ cell_count (rect_of g t)) (sym c.in_ok-push.ensures.items)
          (tile_behind g tiles cells c.loop-tile.tile c.loop-tile.invariant.all c.loop-tile.invariant.whole last);
    }
