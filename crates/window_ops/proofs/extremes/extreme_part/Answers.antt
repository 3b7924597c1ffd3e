use Rattle.std.proofs.Common.{◌≡◌, ℕ, ◌+◌, ◌-◌, ◌*◌, List, length, sym, ap, subst, ◌∙◌, arith}
use Rattle.cell_values.specs.declared.cell.Cell.{Cell}
use Rattle.cell_values.specs.declared.cell.Cell.TheVariants.{Mv}
use Rattle.tile_map.specs.Cuts.{cell_at}
use Rattle.tile_map.specs.Parts.{Outcome}
use Rattle.tile_map.specs.Rects.{place_in}
use Rattle.region_meaning.specs.Windows.{window_outcome}
use Rattle.window_ops.specs.inside.Extremes.{extreme_cell, extreme_op}
use Rattle.window_ops.specs.inside.Outcomes.{AreOutcomes, over}
use Rattle.window_ops.proofs.OutcomeLemmas.{length-outcomes}
use Rattle.window_ops.proofs.ExtremeLemmas.{extreme-window}
use Rattle.window_ops.proofs.RoomLemmas.{few_cells, room_for, rows_within}
use Rattle.window_ops.proofs.extremes.extreme_part.Goals as goal

pub with_room-requires : goal.with_room-requires
with_room-requires c = few_cells c.args.rows c.args.cols c.args.inner c.args.cells.now c.requires.inner c.requires.cells c.requires.few

pub of_columns-requires-clause-within : goal.of_columns-requires-clause-within
of_columns-requires-clause-within c =
    let to = ap (λ (p : ℕ × ℕ). p.1) c.reach-top.ensures in
    rows_within c.args.rows c.args.cols c.reach-top.result.1 c.args.cells.now c.requires.cells (omega arith)

pub push_row-requires-clause-room : goal.push_row-requires-clause-room
push_row-requires-clause-room c =
    room_for c.args.inner.rows c.args.inner.cols c.loop-row.row (length c.loop-row.out.cells.items) (omega arith) c.loop-row.invariant.size
    (few_cells c.args.rows c.args.cols c.args.inner c.args.cells.now c.requires.inner c.requires.cells c.requires.few)

pub loop-row-init : goal.loop-row-init
loop-row-init c =
    let f : ℕ → Outcome = λ i. window_outcome (extreme_op c.args.extreme) c.args.rows c.args.cols c.args.k c.args.cells.now (place_in c.args.cols c.args.inner i) in
    let out = c.in_ok-out.out in
    let start = c.in_ok-out.ensures f in
    let none : 0 * c.args.inner.cols ≡ 0 = omega arith in
    record {
      size = length-outcomes f 0 out.cells.items out.over start ∙ sym none;
      each = subst (λ (n : ℕ). AreOutcomes f n out.cells.items out.over) (sym none) start;
    }

pub loop-row-preserved : goal.loop-row-preserved
loop-row-preserved c =
    let e = c.args.extreme in
    let rows = c.args.rows in
    let cols = c.args.cols in
    let k = c.args.k in
    let cells = c.args.cells.now in
    let inner = c.args.inner in
    let row = c.loop-row.row in
    let f : ℕ → Outcome = λ i. window_outcome (extreme_op e) rows cols k cells (place_in cols inner i) in
    let out = c.push_row.new.out in
    let columns = c.deref.result.now in
    let is = c.deref.ensures.value in
    let size : length columns ≡ cols = ap length is ∙ c.in_ok-columns.ensures.size in
    let more : row * inner.cols + inner.cols ≡ (row + 1) * inner.cols = omega arith in
    let before = c.loop-row.invariant.size in
    let added = c.in_ok-push_row.ensures.size in
    record {
      size = omega arith;
      each =
          subst (λ (n : ℕ). AreOutcomes f n out.cells.items out.over) more
          (c.in_ok-push_row.ensures.each f (row * inner.cols) c.loop-row.invariant.each
          (λ i below. extreme-window e rows cols k cells inner columns row i c.requires.inner below size
          (λ col less.
          ap (λ (xs : List Cell). cell_at xs col) is
          ∙ (c.in_ok-columns.ensures.each col less
          ∙ ap (λ (p : ℕ × ℕ). over (extreme_cell e) Mv (λ r. cell_at cells (r * cols + col)) p.0 (p.1 - p.0)) c.reach-top.ensures))));
    }
