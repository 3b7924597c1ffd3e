use Rattle.std.proofs.Common.{◌≡◌}
use Rattle.tile_map.specs.Cuts.{gathered_cell}
use Rattle.tile_map.proofs.CutLemmas.{front_rows}
use Rattle.tile_map.proofs.tiling.Tiling.gather.Given as goal

-- the cells of the rows before
abbrev pub invariant-loop-row : goal.invariant-loop-row
invariant-loop-row g l = l.got.items ≡ front_rows l.self.cols l.rect (gathered_cell l.self (g.T.TileSource.tiles l.source)) l.row
