use Rattle.std.proofs.Common.{◌≡◌, ℕ, ◌+◌, ◌-◌, ◌<◌, length, min, fold, slice_range, subst, sym, ap, ◌∙◌, arith}
use Rattle.std.specs.Prelude.{Ok}
use Rattle.cell_values.specs.declared.cell.Cell.TheVariants.{Mv}
use Rattle.cell_values.specs.declared.cell.Cell.{Cell}
use Rattle.tile_map.specs.Parts.{Outcome}
use Rattle.window_ops.specs.inside.Extremes.{extreme_cell}
use Rattle.window_ops.specs.inside.Outcomes.{AreOutcomes}
use Rattle.window_ops.proofs.extremes.Extreme.push_row.Goals as goal

pub loop-col-preserved : goal.loop-col-preserved
loop-col-preserved c =
    let columns = c.args.columns.now in
    let k = c.args.k in
    let i = c.loop-col.col - c.args.left in
    let out = c.push.new.self in
    let extreme = extreme_cell c.args.self in
    let there : c.args.left + i ≡ c.loop-col.col = omega arith in
    let below : i < c.args.width = omega arith in
    record {
      size = let one = c.in_ok-push.ensures.size in let before = c.loop-col.invariant.size in omega arith;
      each = λ f places are all.
          let more : (places + i) + 1 ≡ places + (c.loop-col.col + 1 - c.args.left) = omega arith in
          subst (λ (n : ℕ). AreOutcomes f n out.cells.items out.over) more
          (c.in_ok-push.ensures.each f (places + i) (c.loop-col.invariant.each f places are all)
          (all i below
          ∙ ap (λ (cell : Cell). let o : Outcome = Ok cell in o)
          (ap (λ (col : ℕ). fold extreme Mv (slice_range columns (col - k) (min (length columns) (col + 1 + k)))) there
          ∙ (ap (λ (p : ℕ × ℕ). fold extreme Mv (slice_range columns p.0 p.1)) (sym c.reach-from.ensures)
          ∙ sym c.of_all.ensures))));
    }
