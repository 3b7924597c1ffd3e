use Rattle.std.proofs.Common.{ℕ, ◌+◌, ◌*◌, arith}
use Rattle.tile_map.specs.Cuts.{cell_at}
use Rattle.window_ops.specs.inside.Classes.{class_in_cell}
use Rattle.window_ops.proofs.CountLemmas.{few-column, over-next}
use Rattle.window_ops.proofs.strip.take_column.Goals as goal

pub take_cell-requires-clause-few : goal.take_cell-requires-clause-few
take_cell-requires-clause-few c = λ class.
    let before = c.loop-row.invariant.counts class in
    let less = few-column c.args.cols c.args.cells.now class c.args.top c.loop-row.row c.args.col in
    let room = c.requires.room class in
    let reach = c.requires.reach in
    omega (arith, before, less, room, reach)

pub loop-row-preserved : goal.loop-row-preserved
loop-row-preserved c = record {
  counts = λ class.
      let f : ℕ → ℕ = λ row. class_in_cell class (cell_at c.args.cells.now (row * c.args.cols + c.args.col)) in
      let before = c.loop-row.invariant.counts class in
      let one = c.in_ok-take_cell.ensures.counts class in
      let next = over-next f c.args.top c.loop-row.row (omega arith) in
      omega (arith, before, one, next);
  some = c.in_ok-take_cell.ensures.some;
}
