use Rattle.std.proofs.Common.{ℕ, ◌+◌, ◌-◌, ◌*◌, arith}
use Rattle.tile_map.specs.Cuts.{cell_at}
use Rattle.window_ops.specs.inside.Classes.{class_in_cell}
use Rattle.window_ops.proofs.CountLemmas.{over-next, part-over}
use Rattle.window_ops.proofs.strip.leave_column.Goals as goal

pub leave_cell-requires-clause-there : goal.leave_cell-requires-clause-there
leave_cell-requires-clause-there c = λ class.
    let f : ℕ → ℕ = λ row. class_in_cell class (cell_at c.args.cells.now (row * c.args.cols + c.args.col)) in
    let before = c.loop-row.invariant.counts class in
    let next = over-next f c.args.top c.loop-row.row (omega arith) in
    let part = part-over f c.args.top (c.loop-row.row + 1 - c.args.top) (c.args.bottom - c.args.top) (omega arith) in
    let there = c.requires.there class in
    omega (arith, before, next, part, there)

pub loop-row-preserved : goal.loop-row-preserved
loop-row-preserved c = record {
  counts = λ class.
      let f : ℕ → ℕ = λ row. class_in_cell class (cell_at c.args.cells.now (row * c.args.cols + c.args.col)) in
      let before = c.loop-row.invariant.counts class in
      let one = c.leave_cell.ensures.counts class in
      let next = over-next f c.args.top c.loop-row.row (omega arith) in
      omega (arith, before, one, next);
  some = c.leave_cell.ensures.some;
}
