use Rattle.std.proofs.Common.{◌≡◌, ℕ, ◌+◌, ◌-◌, ◌*◌, length, ◌≤◌, sym, ap, subst, ◌∙◌, arith}
use Rattle.tile_map.specs.Parts.{Outcome}
use Rattle.tile_map.specs.Rects.{cell_count, place_in}
use Rattle.region_meaning.specs.Windows.{window_outcome}
use Rattle.window_ops.specs.inside.Outcomes.{AreOutcomes, longest_window}
use Rattle.window_ops.specs.inside.Sums.{AreColumnSums, column_sum, sum_op_of}
use Rattle.window_ops.proofs.ColumnLemmas.{small-column}
use Rattle.window_ops.proofs.OutcomeLemmas.{length-outcomes}
use Rattle.window_ops.proofs.RoomLemmas.{few_cells, few_cols, room_for, rows_within}
use Rattle.window_ops.proofs.SumLemmas.{sum-window}
use Rattle.window_ops.proofs.sums.sum_part.Goals as goal

pub with_room-requires : goal.with_room-requires
with_room-requires c = few_cells c.args.rows c.args.cols c.args.inner c.args.cells.now c.requires.inner c.requires.cells c.requires.few

pub take_to-requires-clause-within : goal.take_to-requires-clause-within
take_to-requires-clause-within c =
    let to = ap (λ (p : ℕ × ℕ). p.1) c.reach-top.ensures in
    rows_within c.args.rows c.args.cols c.reach-top.result.1 c.args.cells.now c.requires.cells (omega arith)

pub leave_to-requires-clause-within : goal.leave_to-requires-clause-within
leave_to-requires-clause-within c =
    let to = ap (λ (p : ℕ × ℕ). p.1) c.reach-top.ensures in
    let end = c.take_to.ensures.bottom in
    rows_within c.args.rows c.args.cols c.take_to.new.self.bottom c.args.cells.now c.requires.cells (omega arith)

pub push_row-requires-clause-few : goal.push_row-requires-clause-few
push_row-requires-clause-few c =
    let below = c.requires.inner.below in
    let size : length c.deref.result.now ≡ c.args.cols = ap length c.deref.ensures.value ∙ c.leave_to.ensures.sums.size in
    let few = few_cols c.args.rows c.args.cols c.args.cells.now c.requires.cells c.requires.few (omega arith) in
    omega arith

pub push_row-requires-clause-room : goal.push_row-requires-clause-room
push_row-requires-clause-room c =
    room_for c.args.inner.rows c.args.inner.cols c.loop-row.row (length c.loop-row.out.cells.items) (omega arith) c.loop-row.invariant.size
    (few_cells c.args.rows c.args.cols c.args.inner c.args.cells.now c.requires.inner c.requires.cells c.requires.few)

pub loop-row-init : goal.loop-row-init
loop-row-init c =
    let f : ℕ → Outcome = λ i. window_outcome (sum_op_of c.args.summed) c.args.rows c.args.cols c.args.k c.args.cells.now (place_in c.args.cols c.args.inner i) in
    let out = c.in_ok-out.out in
    let columns = c.in_ok-columns.columns in
    let start = c.in_ok-out.ensures f in
    let none : 0 * c.args.inner.cols ≡ 0 = omega arith in
    let top = c.in_ok-columns.ensures.top in
    let bottom = c.in_ok-columns.ensures.bottom in
    let below = c.requires.inner.below in
    let first = c.saturating_sub-first.ensures in
    record {
      size = length-outcomes f 0 out.cells.items out.over start ∙ sym none;
      each = subst (λ (n : ℕ). AreOutcomes f n out.cells.items out.over) (sym none) start;
      sums =
          subst (λ (n : ℕ). AreColumnSums c.args.cells.now c.args.cols n columns.bottom columns.sums.items) (sym top)
          (subst (λ (n : ℕ). AreColumnSums c.args.cells.now c.args.cols c.saturating_sub-first.result n columns.sums.items) (sym bottom)
          (c.in_ok-columns.ensures.sums c.args.cells.now));
      order = omega arith;
      top = omega arith;
      bottom = omega arith;
    }

pub push_row-requires-clause-small : goal.push_row-requires-clause-small
push_row-requires-clause-small c = λ col below.
    let cells = c.args.cells.now in
    let cols = c.args.cols in
    let columns = c.deref.result.now in
    let top = c.reach-top.result.0 in
    let bottom = c.take_to.new.self.bottom in
    let are : AreColumnSums cells cols top bottom columns = subst (AreColumnSums cells cols top bottom) (sym c.deref.ensures.value) c.leave_to.ensures.sums in
    let size = are.size in
    let from : top ≡ c.args.inner.top + c.loop-row.row - c.args.k = ap (λ (p : ℕ × ℕ). p.0) c.reach-top.ensures in
    let to = ap (λ (p : ℕ × ℕ). p.1) c.reach-top.ensures in
    let end : bottom ≡ c.reach-top.result.1 = c.take_to.ensures.bottom in
    let reach = c.requires.reach in
    let few : bottom - top ≤ longest_window = omega arith in
    small-column cells cols top bottom longest_window columns col are few (omega arith)

pub loop-row-preserved : goal.loop-row-preserved
loop-row-preserved c =
    let e = c.args.summed in
    let rows = c.args.rows in
    let cols = c.args.cols in
    let k = c.args.k in
    let cells = c.args.cells.now in
    let inner = c.args.inner in
    let row = c.loop-row.row in
    let f : ℕ → Outcome = λ i. window_outcome (sum_op_of e) rows cols k cells (place_in cols inner i) in
    let out = c.push_row.new.out in
    let columns = c.deref.result.now in
    let top = c.reach-top.result.0 in
    let bottom = c.take_to.new.self.bottom in
    let left = c.leave_to.new.self in
    let are : AreColumnSums cells cols top bottom columns = subst (AreColumnSums cells cols top bottom) (sym c.deref.ensures.value) c.leave_to.ensures.sums in
    let more : row * inner.cols + inner.cols ≡ (row + 1) * inner.cols = omega arith in
    let before = c.loop-row.invariant.size in
    let added = c.in_ok-push_row.ensures.size in
    let from = ap (λ (p : ℕ × ℕ). p.0) c.reach-top.ensures in
    let to = ap (λ (p : ℕ × ℕ). p.1) c.reach-top.ensures in
    let end : bottom ≡ c.reach-top.result.1 = c.take_to.ensures.bottom in
    let left_top : left.top ≡ top = c.leave_to.ensures.top in
    let left_bottom : left.bottom ≡ bottom = c.leave_to.ensures.bottom in
    record {
      size = omega arith;
      each =
          subst (λ (n : ℕ). AreOutcomes f n out.cells.items out.over) more
          (c.in_ok-push_row.ensures.each f (row * inner.cols) c.loop-row.invariant.each
          (λ i below. sum-window e rows cols k cells inner columns row i c.requires.inner below are.size
          (λ col less.
          are.each col less
          ∙ (ap (column_sum cols cells col top) end
          ∙ ap (λ (p : ℕ × ℕ). column_sum cols cells col p.0 p.1) c.reach-top.ensures))));
      sums =
          subst (λ (n : ℕ). AreColumnSums cells cols n left.bottom left.sums.items) (sym left_top)
          (subst (λ (n : ℕ). AreColumnSums cells cols top n left.sums.items) (sym left_bottom) c.leave_to.ensures.sums);
      order = omega arith;
      top = omega arith;
      bottom = omega arith;
    }

pub returns : goal.returns
returns c =
    let f : ℕ → Outcome = λ i. window_outcome (sum_op_of c.args.summed) c.args.rows c.args.cols c.args.k c.args.cells.now (place_in c.args.cols c.args.inner i) in
    let out = c.loop-row.out in
    let all : c.loop-row.row ≡ c.args.inner.rows = omega arith in
    c.into_part.ensures f (cell_count c.args.inner)
    (subst (λ (n : ℕ). AreOutcomes f (n * c.args.inner.cols) out.cells.items out.over) all c.loop-row.invariant.each)
