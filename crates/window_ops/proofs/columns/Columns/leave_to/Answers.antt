use Rattle.std.proofs.Common.{◌≡◌, ◌≤◌, ◌*◌, ◌+◌, length, sym, subst, arith}
use Rattle.std.proofs.lemmas.Nat.{mul-le}
use Rattle.text_base.specs.Limits.{most_cells}
use Rattle.window_ops.specs.inside.Sums.{AreColumnSums}
use Rattle.window_ops.proofs.ColumnLemmas.{IsRow, count-first, left, small-column, written}
use Rattle.window_ops.proofs.columns.Columns.leave_to.Goals as goal

pub leave_row-requires-clause-small : goal.leave_row-requires-clause-small
leave_row-requires-clause-small c = λ col below.
    let cols = c.args.cols in
    let bottom = c.args.self.now.bottom in
    let wide = c.row_of.ensures.size in
    let in_cols : 1 ≤ cols = omega arith in
    let rows : bottom * 1 ≤ bottom * cols = mul-le bottom 1 bottom cols (omega arith) in_cols in
    let within = c.requires.within in
    let few = c.requires.few in
    small-column c.args.cells.now cols c.loop-row.row bottom most_cells c.deref_mut.result.now col
    (subst (AreColumnSums c.args.cells.now cols c.loop-row.row bottom) (sym c.deref_mut.ensures.value) c.loop-row.invariant.sums) (omega arith) (omega arith)

pub leave_row-requires-clause-part : goal.leave_row-requires-clause-part
leave_row-requires-clause-part c = λ col below.
    let cells = c.args.cells.now in
    let cols = c.args.cols in
    let row = c.loop-row.row in
    let bottom = c.args.self.now.bottom in
    let wide = c.row_of.ensures.size in
    let is : IsRow cells cols row c.row_of.result.now = record { size = c.row_of.ensures.size; each = c.row_of.ensures.each } in
    let are : AreColumnSums cells cols row bottom c.deref_mut.result.now = subst (AreColumnSums cells cols row bottom) (sym c.deref_mut.ensures.value) c.loop-row.invariant.sums in
    count-first cells cols row bottom c.deref_mut.result.now c.row_of.result.now col (omega arith) are is (omega arith)

pub loop-row-preserved : goal.loop-row-preserved
loop-row-preserved c =
    let cells = c.args.cells.now in
    let cols = c.args.cols in
    let bottom = c.args.self.now.bottom in
    let row = c.loop-row.row in
    let less = c.leave_row.new.columns in
    let is : IsRow cells cols row c.row_of.result.now = record { size = c.row_of.ensures.size; each = c.row_of.ensures.each } in
    let are : AreColumnSums cells cols row bottom c.deref_mut.result.now = subst (AreColumnSums cells cols row bottom) (sym c.deref_mut.ensures.value) c.loop-row.invariant.sums in
    let size : length less ≡ length c.deref_mut.result.now = omega arith in
    let whole : c.loop-row.self.sums.len ≡ length less = let long = c.deref_mut.ensures.len in omega arith in
    record {
      bottom = c.loop-row.invariant.bottom;
      sums =
          subst (AreColumnSums cells cols (row + 1) bottom) (sym (written c.loop-row.self.sums.len less _ whole))
          (left cells cols row bottom c.deref_mut.result.now less c.row_of.result.now (omega arith) are is size c.leave_row.ensures);
    }
