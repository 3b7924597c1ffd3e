use Rattle.std.proofs.Common.{◌≡◌, ℕ, ◌+◌, ◌-◌, ◌*◌, ◌<◌, List, ℤ, min, refl, sym, ap, subst, ◌∙◌, arith}
use Rattle.tile_map.specs.Parts.{Outcome}
use Rattle.tile_map.specs.Rects.{place_in}
use Rattle.tile_map.specs.Cuts.{cut_of}
use Rattle.region_meaning.specs.Windows.{present_values, window_outcome}
use Rattle.window_ops.specs.inside.Classes.{class_op_of}
use Rattle.window_ops.specs.inside.Outcomes.{AreOutcomes}
use Rattle.window_ops.proofs.CountLemmas.{strip-values, window-values}
use Rattle.window_ops.proofs.OutcomeLemmas.{length-outcomes}
use Rattle.window_ops.proofs.RoomLemmas.{few_cells, room_for}
use Rattle.window_ops.proofs.WindowLemmas.{window_at}
use Rattle.window_ops.proofs.classes.push_row.Goals as goal

pub push-requires : goal.push-requires
push-requires c =
    let f : ℕ → Outcome = λ i. window_outcome (class_op_of c.args.classed) c.args.rows c.args.cols c.args.k c.args.cells.now (place_in c.args.cols c.args.inner i) in
    let inner = c.args.inner in
    let out = c.loop-col.out in
    let i = c.loop-col.col - inner.left in
    let size = length-outcomes f (c.args.row * inner.cols + i) out.cells.items out.over c.loop-col.invariant.each in
    let room = room_for inner.rows inner.cols c.args.row (c.args.row * inner.cols) c.requires.row refl
    (few_cells c.args.rows c.args.cols inner c.args.cells.now c.requires.inner c.requires.cells c.requires.few) in
    omega (arith, size, room)

pub loop-col-init : goal.loop-col-init
loop-col-init c =
    let f : ℕ → Outcome = λ i. window_outcome (class_op_of c.args.classed) c.args.rows c.args.cols c.args.k c.args.cells.now (place_in c.args.cols c.args.inner i) in
    let out = c.args.out.now in
    let none : c.args.row * c.args.inner.cols ≡ c.args.row * c.args.inner.cols + (c.args.inner.left - c.args.inner.left) = omega arith in
    let from = c.start.ensures.from in
    let to = c.start.ensures.to in
    let first = c.saturating_sub.ensures in
    let right = c.requires.inner.right in
    record {
      each = subst (λ (n : ℕ). AreOutcomes f n out.cells.items out.over) none c.requires.before;
      counts = c.start.ensures.counts c.args.cells.now c.args.cols;
      top = c.start.ensures.top;
      bottom = c.start.ensures.bottom;
      order = omega arith;
      from = omega arith;
      to = omega arith;
    }

pub loop-col-preserved : goal.loop-col-preserved
loop-col-preserved c =
    let op = class_op_of c.args.classed in
    let rows = c.args.rows in
    let cols = c.args.cols in
    let k = c.args.k in
    let cells = c.args.cells.now in
    let inner = c.args.inner in
    let row = c.args.row in
    let col = c.loop-col.col in
    let i = col - inner.left in
    let f : ℕ → Outcome = λ i. window_outcome op rows cols k cells (place_in cols inner i) in
    let out = c.push.new.self in
    let strip = c.leave_to.new.self in
    let right = c.requires.inner.right in
    let below : i < inner.cols = omega arith in
    let there : inner.left + i ≡ col = omega arith in
    let top_is : strip.top ≡ inner.top + row - k = c.leave_to.ensures.top ∙ (c.in_ok-take_to.ensures.top ∙ (c.loop-col.invariant.top ∙ ap (λ (p : ℕ × ℕ). p.0) c.reach-top.ensures)) in
    let bottom_is : strip.bottom ≡ min rows (inner.top + row + 1 + k) = c.leave_to.ensures.bottom ∙ (c.in_ok-take_to.ensures.bottom ∙ (c.loop-col.invariant.bottom ∙ ap (λ (p : ℕ × ℕ). p.1) c.reach-top.ensures)) in
    let from_is : strip.from ≡ inner.left + i - k = c.leave_to.ensures.from ∙ (ap (λ (p : ℕ × ℕ). p.0) c.reach-from.ensures ∙ ap (λ (n : ℕ). n - k) (sym there)) in
    let to_is : strip.to ≡ min cols (inner.left + i + 1 + k) = c.leave_to.ensures.to ∙ (c.in_ok-take_to.ensures.to ∙ (ap (λ (p : ℕ × ℕ). p.1) c.reach-from.ensures ∙ ap (λ (n : ℕ). min cols (n + 1 + k)) (sym there))) in
    let values : List ℤ = present_values (cut_of cols cells (window_at rows cols k (inner.top + row) (inner.left + i))) in
    let same = strip-values rows cols k cells (inner.top + row) (inner.left + i) strip c.leave_to.ensures.counts top_is bottom_is from_is to_is in
    let more : row * inner.cols + i + 1 ≡ row * inner.cols + (col + 1 - inner.left) = omega arith in
    record {
      each =
          subst (λ (n : ℕ). AreOutcomes f n out.cells.items out.over) more
          (c.in_ok-push.ensures.each f (row * inner.cols + i) c.loop-col.invariant.each
          (sym (window-values op rows cols k cells inner row i c.requires.inner below) ∙ sym (c.outcome.ensures values same)));
      counts = c.leave_to.ensures.counts;
      top = c.leave_to.ensures.top ∙ (c.in_ok-take_to.ensures.top ∙ c.loop-col.invariant.top);
      bottom = c.leave_to.ensures.bottom ∙ (c.in_ok-take_to.ensures.bottom ∙ c.loop-col.invariant.bottom);
      order = omega arith;
      from = omega arith;
      to = omega arith;
    }

pub returns : goal.returns
returns c =
    let f : ℕ → Outcome = λ i. window_outcome (class_op_of c.args.classed) c.args.rows c.args.cols c.args.k c.args.cells.now (place_in c.args.cols c.args.inner i) in
    let out = c.loop-col.out in
    let all : c.args.row * c.args.inner.cols + (c.loop-col.col - c.args.inner.left) ≡ c.args.row * c.args.inner.cols + c.args.inner.cols = omega arith in
    subst (λ (n : ℕ). AreOutcomes f n out.cells.items out.over) all c.loop-col.invariant.each
