use Rattle.std.proofs.Common.{◌≡◌, ℕ, ◌+◌, ◌*◌, sym, subst, arith}
use Rattle.tile_map.specs.Parts.{Outcome}
use Rattle.tile_map.specs.Rects.{cell_count, place_in}
use Rattle.region_meaning.specs.Windows.{window_outcome}
use Rattle.window_ops.specs.inside.Classes.{class_op_of}
use Rattle.window_ops.specs.inside.Outcomes.{AreOutcomes}
use Rattle.window_ops.proofs.RoomLemmas.{few_cells}
use Rattle.window_ops.proofs.classes.class_part.Goals as goal

pub with_room-requires : goal.with_room-requires
with_room-requires c = few_cells c.args.rows c.args.cols c.args.inner c.args.cells.now c.requires.inner c.requires.cells c.requires.few

pub loop-row-init : goal.loop-row-init
loop-row-init c =
    let f : ℕ → Outcome = λ i. window_outcome (class_op_of c.args.classed) c.args.rows c.args.cols c.args.k c.args.cells.now (place_in c.args.cols c.args.inner i) in
    let out = c.in_ok-out.out in
    let none : 0 * c.args.inner.cols ≡ 0 = omega arith in
    subst (λ (n : ℕ). AreOutcomes f n out.cells.items out.over) (sym none) (c.in_ok-out.ensures f)

pub loop-row-preserved : goal.loop-row-preserved
loop-row-preserved c =
    let f : ℕ → Outcome = λ i. window_outcome (class_op_of c.args.classed) c.args.rows c.args.cols c.args.k c.args.cells.now (place_in c.args.cols c.args.inner i) in
    let out = c.push_row.new.out in
    let more : c.loop-row.row * c.args.inner.cols + c.args.inner.cols ≡ (c.loop-row.row + 1) * c.args.inner.cols = omega arith in
    subst (λ (n : ℕ). AreOutcomes f n out.cells.items out.over) more c.in_ok-push_row.ensures

pub returns : goal.returns
returns c =
    let f : ℕ → Outcome = λ i. window_outcome (class_op_of c.args.classed) c.args.rows c.args.cols c.args.k c.args.cells.now (place_in c.args.cols c.args.inner i) in
    let out = c.loop-row.out in
    let all : c.loop-row.row ≡ c.args.inner.rows = omega arith in
    c.into_part.ensures f (cell_count c.args.inner)
    (subst (λ (n : ℕ). AreOutcomes f (n * c.args.inner.cols) out.cells.items out.over) all c.loop-row.invariant)
