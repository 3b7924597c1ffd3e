use Rattle.std.proofs.Common.{arith, ◌+◌, ◌++◌, ◌∙◌, ap, slice_range, ℕ}
use Rattle.std.proofs.lemmas.Slice.{pushed}
use Rattle.tile_map.specs.Cuts.{cell_at}
use Rattle.tile_map.proofs.CutLemmas.{cut_more, front_rows, front_rows_all}
use Rattle.tile_map.proofs.tiling.Tiling.cut.Goals as goal

pub loop-row-preserved : goal.loop-row-preserved
loop-row-preserved c =
    let cols = c.args.self.now.cols in
    let r = c.args.rect in
    let cells = c.args.cells.now in
    let start = c.row_start-start.result in
    let at = c.row_start-start.ensures.value in
    pushed (slice_range cells start (start + r.cols)) c.loop-row.invariant c.in_ok-extend_from_slice.was c.extend_from_slice.ensures.items
    ∙ (ap (λ (s : ℕ). front_rows cols r (cell_at cells) c.loop-row.row ++ slice_range cells s (s + r.cols)) at
    ∙ cut_more cols r cells c.loop-row.row (omega arith))

pub returns : goal.returns
returns c = c.loop-row.invariant ∙ front_rows_all c.args.self.now.cols c.args.rect (cell_at c.args.cells.now) c.loop-row.row (omega arith)
