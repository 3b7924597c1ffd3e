use Rattle.std.proofs.Common.{◌+◌, ◌*◌, ◌≤◌, ◌≡◌, arith}
use Rattle.std.proofs.lemmas.Nat.{mul-le}
use Rattle.tile_map.proofs.tiling.Tiling.row_start.Goals as goal

pub returns-clause-ends : goal.returns-clause-ends
returns-clause-ends c =
    let r = c.args.rect in
    let g = c.args.self.now in
    let row : (r.top + c.args.row + 1) * g.cols ≤ g.rows * g.cols = mul-le (r.top + c.args.row + 1) g.cols g.rows g.cols (omega arith) (omega arith) in
    let one : (r.top + c.args.row + 1) * g.cols ≡ (r.top + c.args.row) * g.cols + g.cols = omega arith in
    omega arith
