use Rattle.std.proofs.Common.{arith, ◌++◌, ◌+◌, ◌*◌, ◌∙◌, ap, map, List}
use Rattle.std.specs.List.{range_with_len}
use Rattle.cell_values.specs.declared.cell.Cell.{Cell}
use Rattle.tile_map.specs.Cuts.{gathered_cell}
use Rattle.tile_map.proofs.CutLemmas.{front_rows_all, front_rows_more}
use Rattle.tile_map.proofs.tiling.Tiling.gather.Goals as goal

pub loop-row-preserved : goal.loop-row-preserved
loop-row-preserved g c =
    let t = c.args.self.now in
    let r = c.args.rect in
    let cell = gathered_cell t (g.T.TileSource.tiles c.args.source.now) in
    c.in_ok-gather_row.ensures
    ∙ (ap (λ (xs : List Cell). xs ++ map cell (range_with_len ((r.top + c.loop-row.row) * t.cols + r.left) r.cols)) c.loop-row.invariant
    ∙ front_rows_more t.cols r cell c.loop-row.row)

pub returns : goal.returns
returns g c = c.loop-row.invariant ∙ front_rows_all c.args.self.now.cols c.args.rect (gathered_cell c.args.self.now (g.T.TileSource.tiles c.args.source.now)) c.loop-row.row (omega arith)
