use Rattle.std.proofs.Common.{◌≡◌, ◌≤◌, ◌*◌, ◌+◌, length, sym, subst, arith}
use Rattle.std.proofs.lemmas.Nat.{mul-le}
use Rattle.text_base.specs.Limits.{most_cells}
use Rattle.window_ops.specs.inside.Sums.{AreColumnSums}
use Rattle.window_ops.proofs.ColumnLemmas.{IsRow, small-column, taken, written}
use Rattle.window_ops.proofs.columns.Columns.take_to.Goals as goal

pub take_row-requires-clause-small : goal.take_row-requires-clause-small
take_row-requires-clause-small c = λ col below.
    let cols = c.args.cols in
    let wide = c.row_of.ensures.size in
    let in_cols : 1 ≤ cols = omega arith in
    let rows : (c.loop-row.row + 1) * 1 ≤ (c.loop-row.row + 1) * cols = mul-le (c.loop-row.row + 1) 1 (c.loop-row.row + 1) cols (omega arith) in_cols in
    let fits : (c.loop-row.row + 1) * cols ≤ c.args.bottom * cols = mul-le (c.loop-row.row + 1) cols c.args.bottom cols (omega arith) (omega arith) in
    let within = c.requires.within in
    let few = c.requires.few in
    small-column c.args.cells.now cols c.args.self.now.top c.loop-row.row most_cells c.deref_mut.result.now col
    (subst (AreColumnSums c.args.cells.now cols c.args.self.now.top c.loop-row.row) (sym c.deref_mut.ensures.value) c.loop-row.invariant.sums) (omega arith) (omega arith)

pub loop-row-preserved : goal.loop-row-preserved
loop-row-preserved c =
    let cells = c.args.cells.now in
    let cols = c.args.cols in
    let top = c.args.self.now.top in
    let row = c.loop-row.row in
    let more = c.take_row.new.columns in
    let is : IsRow cells cols row c.row_of.result.now = record { size = c.row_of.ensures.size; each = c.row_of.ensures.each } in
    let are : AreColumnSums cells cols top row c.deref_mut.result.now = subst (AreColumnSums cells cols top row) (sym c.deref_mut.ensures.value) c.loop-row.invariant.sums in
    let size : length more ≡ length c.deref_mut.result.now = omega arith in
    let whole : c.loop-row.self.sums.len ≡ length more = let long = c.deref_mut.ensures.len in omega arith in
    record {
      top = c.loop-row.invariant.top;
      sums =
          subst (AreColumnSums cells cols top (row + 1)) (sym (written c.loop-row.self.sums.len more _ whole))
          (taken cells cols top row c.deref_mut.result.now more c.row_of.result.now (omega arith) are is size c.take_row.ensures.each c.take_row.ensures.small);
    }
