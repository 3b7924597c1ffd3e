use Rattle.std.proofs.Common.{arith, ◌≡◌, ◌<◌, ◌+◌, ◌-◌, ◌*◌, ◌/◌, ◌++◌, ◌∙◌, ℕ, List, length, map, slice_range, ap, sym, subst}
use Rattle.std.specs.Prelude.{min}
use Rattle.std.specs.List.{range_with_len}
use Rattle.std.proofs.lemmas.List.{append_assoc}
use Rattle.std.proofs.lemmas.Slice.{pushed}
use Rattle.cell_values.specs.declared.cell.Cell.{Cell}
use Rattle.tile_map.specs.Laws.{IsMet}
use Rattle.tile_map.specs.Rects.{cell_count}
use Rattle.tile_map.specs.Tiles.{across, rect_at}
use Rattle.tile_map.specs.Cuts.{gathered_cell}
use Rattle.tile_map.proofs.TileLemmas.{count_few}
use Rattle.tile_map.proofs.CutLemmas.{map-range-append}
use Rattle.tile_map.proofs.GatherLemmas.{first_tile_few, gathered_stretch, in_part, next_part, rect_of-by, stands, tile_by, tile_is_met}
use Rattle.tile_map.proofs.tiling.Tiling.gather_row.Goals as goal

pub overflow_mul-first_tile : goal.overflow_mul-first_tile
overflow_mul-first_tile g c =
    let few = first_tile_few c.args.self.now (c.args.rect.top + c.args.row) (omega arith) in
    rw c.across.ensures (omega arith)

pub overflow_add-first_tile : goal.overflow_add-first_tile
overflow_add-first_tile g c =
    let t = c.args.self.now in
    let r = c.args.rect in
    let part : c.loop-col.tile_col ≡ c.loop-col.col / t.tile_cols = c.loop-col.invariant.tile_col c.loop-col-test.true in
    let met = tile_is_met t r (r.top + c.args.row) c.loop-col.col c.requires.rect (omega arith) (omega arith) c.loop-col.invariant.low c.loop-col-test.true in
    let few = count_few t in
    rw (c.across.ensures, part) (let below = met.0 in omega arith)

pub tile-cells-requires : goal.tile-cells-requires
tile-cells-requires g c =
    let t = c.args.self.now in
    let r = c.args.rect in
    let row = r.top + c.args.row in
    let part : c.loop-col.tile_col ≡ c.loop-col.col / t.tile_cols = c.loop-col.invariant.tile_col c.loop-col-test.true in
    let met : IsMet t r (tile_by t row c.loop-col.col) = tile_is_met t r row c.loop-col.col c.requires.rect (omega arith) (omega arith) c.loop-col.invariant.low c.loop-col-test.true in
    let asked : row / t.tile_rows * c.across.result + c.loop-col.tile_col ≡ tile_by t row c.loop-col.col =
    ap (λ (x : ℕ). row / t.tile_rows * x + c.loop-col.tile_col) c.across.ensures ∙ ap (λ (x : ℕ). row / t.tile_rows * across t + x) part in
    subst (g.T.TileSource.has c.args.source.now) (sym asked) (c.requires.has (tile_by t row c.loop-col.col) met.0 met.1)

pub stretch-requires-clause-cells : goal.stretch-requires-clause-cells
stretch-requires-clause-cells g c =
    let t = c.args.self.now in
    let r = c.args.rect in
    let row = r.top + c.args.row in
    let col = c.loop-col.col in
    let tiles = g.T.TileSource.tiles c.args.source.now in
    let wide = c.requires.rect.right in
    let part : c.loop-col.tile_col ≡ col / t.tile_cols = c.loop-col.invariant.tile_col c.loop-col-test.true in
    let met : IsMet t r (tile_by t row col) = tile_is_met t r row col c.requires.rect (omega arith) (omega arith) c.loop-col.invariant.low c.loop-col-test.true in
    let asked : row / t.tile_rows * c.across.result + c.loop-col.tile_col ≡ tile_by t row col =
    ap (λ (x : ℕ). row / t.tile_rows * x + c.loop-col.tile_col) c.across.ensures ∙ ap (λ (x : ℕ). row / t.tile_rows * across t + x) part in
    ap length c.tile-cells.ensures
    ∙ (ap (λ (k : ℕ). length (tiles k)) asked
    ∙ (c.requires.cells (tile_by t row col) met.0 met.1
    ∙ (ap cell_count (rect_of-by t row col (omega arith))
    ∙ ap (λ (k : ℕ). cell_count (rect_at t (row / t.tile_rows) k)) (sym part))))

pub loop-col-preserved : goal.loop-col-preserved
loop-col-preserved g c =
    let t = c.args.self.now in
    let r = c.args.rect in
    let row = r.top + c.args.row in
    let col = c.loop-col.col in
    let end = c.min-end.result in
    let tile_col = c.loop-col.tile_col in
    let tiles = g.T.TileSource.tiles c.args.source.now in
    let cell = gathered_cell t tiles in
    let start : ℕ = row * t.cols + r.left in
    let wide = c.requires.rect.right in
    let under = c.requires.rect.below in
    let low = c.loop-col.invariant.low in
    let test : col < r.left + r.cols = c.loop-col-test.true in
    let part : tile_col ≡ col / t.tile_cols = c.loop-col.invariant.tile_col test in
    let inside = in_part t.tile_cols tile_col col t.sides.some_tile_cols part in
    let is_end : end ≡ min (r.left + r.cols) ((tile_col + 1) * t.tile_cols) = c.min-end.ensures in
    let from = inside.0 in
    let before = inside.1 in
    let met : IsMet t r (tile_by t row col) = tile_is_met t r row col c.requires.rect (omega arith) (omega arith) low test in
    let tile : row / t.tile_rows * across t + tile_col ≡ tile_by t row col = ap (λ (x : ℕ). row / t.tile_rows * across t + x) part in
    let full : length (tiles (row / t.tile_rows * across t + tile_col)) ≡ cell_count (rect_at t (row / t.tile_rows) tile_col) =
    ap (λ (k : ℕ). length (tiles k)) tile
    ∙ (c.requires.cells (tile_by t row col) met.0 met.1
    ∙ (ap cell_count (rect_of-by t row col (omega arith))
    ∙ ap (λ (k : ℕ). cell_count (rect_at t (row / t.tile_rows) k)) (sym part))) in
    let cells : c.tile-cells.result.now ≡ tiles (row / t.tile_rows * across t + tile_col) =
    c.tile-cells.ensures ∙ ap (λ (x : ℕ). tiles (row / t.tile_rows * x + tile_col)) c.across.ensures in
    let piece : c.stretch.result.now ≡ map cell (range_with_len (row * t.cols + col) (end - col)) =
    c.stretch.ensures
    ∙ (ap (λ (xs : List Cell). slice_range xs (stands t row tile_col col) (stands t row tile_col end)) cells
    ∙ gathered_stretch t tiles row tile_col col end (omega arith) from (omega arith) (omega arith) (omega arith) full) in
    record {
      low = omega arith;
      high = omega arith;
      tile_col = λ more. next_part t.tile_cols tile_col end (r.left + r.cols) t.sides.some_tile_cols is_end more;
      items =
          pushed c.stretch.result.now c.loop-col.invariant.items c.in_ok-extend_from_slice.was c.extend_from_slice.ensures.items
          ∙ (append_assoc c.args.into.now.items (map cell (range_with_len start (col - r.left))) c.stretch.result.now
          ∙ ap (λ (xs : List Cell). c.args.into.now.items ++ xs)
          (ap (λ (xs : List Cell). map cell (range_with_len start (col - r.left)) ++ xs) piece
          ∙ map-range-append cell start (row * t.cols + col) (col - r.left) (end - col) (end - r.left) (omega arith) (omega arith)));
    }
