use Rattle.std.proofs.Common.{◌≡◌}
use Rattle.tile_map.specs.Cuts.{cell_at}
use Rattle.tile_map.proofs.CutLemmas.{front_rows}
use Rattle.tile_map.proofs.tiling.Tiling.cut.Given as goal

-- the cells of the rows before
abbrev pub invariant-loop-row : goal.invariant-loop-row
invariant-loop-row l = l.got.items ≡ front_rows l.self.cols l.rect (cell_at l.cells) l.row
