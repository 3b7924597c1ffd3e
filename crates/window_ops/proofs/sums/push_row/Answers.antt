use Rattle.std.proofs.Common.{◌≡◌, ℕ, ◌+◌, ◌-◌, ◌*◌, ◌<◌, length, min, sym, ap, subst, ◌∙◌, arith}
use Rattle.window_ops.specs.declared.sum.Sum.{Sum}
use Rattle.window_ops.specs.inside.Outcomes.{AreOutcomes, over}
use Rattle.window_ops.specs.inside.Sums.{IsSmall, most_summed, no_sum, outcome_of_sum, sum_at, sum_join}
use Rattle.window_ops.proofs.SumLemmas.{front-at, front-parts, small-front, small-more, small-over}
use Rattle.window_ops.proofs.sums.push_row.Goals as goal

pub without-window-requires-clause-small : goal.without-window-requires-clause-small
without-window-requires-clause-small c =
    let columns = c.args.columns.now in
    let to = c.reach-from.result.1 in
    let end = ap (λ (p : ℕ × ℕ). p.1) c.reach-from.ensures in
    let is = front-at c.add_up.new.into.items columns to c.index.result.now c.in_ok-add_up.ensures.size c.in_ok-add_up.ensures.each (omega arith) c.index.ensures in
    subst (IsSmall most_summed) (sym is) (small-front columns to (omega arith) c.requires.few c.requires.small)

pub without-window-requires-clause-part_small : goal.without-window-requires-clause-part_small
without-window-requires-clause-part_small c =
    let columns = c.args.columns.now in
    let from = c.reach-from.result.0 in
    let begin = ap (λ (p : ℕ × ℕ). p.0) c.reach-from.ensures in
    let within = c.requires.within in
    let is = front-at c.add_up.new.into.items columns from c.index-in-loop-col.result.now c.in_ok-add_up.ensures.size c.in_ok-add_up.ensures.each (omega arith) c.index-in-loop-col.ensures in
    subst (IsSmall most_summed) (sym is) (small-front columns from (omega arith) c.requires.few c.requires.small)

pub without-window-requires-clause-part : goal.without-window-requires-clause-part
without-window-requires-clause-part c =
    let columns = c.args.columns.now in
    let from = c.reach-from.result.0 in
    let to = c.reach-from.result.1 in
    let begin = ap (λ (p : ℕ × ℕ). p.0) c.reach-from.ensures in
    let end = ap (λ (p : ℕ × ℕ). p.1) c.reach-from.ensures in
    let within = c.requires.within in
    let parts = front-parts c.add_up.new.into.items columns from to c.index-in-loop-col.result.now c.index.result.now c.in_ok-add_up.ensures.size c.in_ok-add_up.ensures.each (omega arith) (omega arith) c.index-in-loop-col.ensures c.index.ensures in
    let counts : c.index.result.now.count ≡ c.index-in-loop-col.result.now.count + (over sum_join no_sum (sum_at columns) from (to - from)).count = ap (λ (s : Sum). s.count) parts in
    omega arith

pub outcome-requires : goal.outcome-requires
outcome-requires c =
    let columns = c.args.columns.now in
    let from = c.reach-from.result.0 in
    let to = c.reach-from.result.1 in
    let begin = ap (λ (p : ℕ × ℕ). p.0) c.reach-from.ensures in
    let end = ap (λ (p : ℕ × ℕ). p.1) c.reach-from.ensures in
    let within = c.requires.within in
    let reach = c.requires.reach in
    let window = over sum_join no_sum (sum_at columns) from (to - from) in
    let parts = front-parts c.add_up.new.into.items columns from to c.index-in-loop-col.result.now c.index.result.now c.in_ok-add_up.ensures.size c.in_ok-add_up.ensures.each (omega arith) (omega arith) c.index-in-loop-col.ensures c.index.ensures in
    subst (IsSmall 1000) (sym (c.without-window.ensures window parts))
    (small-more ((to - from) * 31) 1000 window (omega arith)
    (small-over 31 (sum_at columns) from (to - from) (λ i less. c.requires.small (from + i) (omega arith))))

pub loop-col-preserved : goal.loop-col-preserved
loop-col-preserved c =
    let columns = c.args.columns.now in
    let k = c.args.k in
    let i = c.loop-col.col - c.args.left in
    let out = c.push.new.self in
    let there : c.args.left + i ≡ c.loop-col.col = omega arith in
    let below : i < c.args.width = omega arith in
    let from = c.reach-from.result.0 in
    let to = c.reach-from.result.1 in
    let begin = ap (λ (p : ℕ × ℕ). p.0) c.reach-from.ensures in
    let end = ap (λ (p : ℕ × ℕ). p.1) c.reach-from.ensures in
    let within = c.requires.within in
    let window = over sum_join no_sum (sum_at columns) from (to - from) in
    let parts = front-parts c.add_up.new.into.items columns from to c.index-in-loop-col.result.now c.index.result.now c.in_ok-add_up.ensures.size c.in_ok-add_up.ensures.each (omega arith) (omega arith) c.index-in-loop-col.ensures c.index.ensures in
    let is : c.without-window.result ≡ window = c.without-window.ensures window parts in
    record {
      size = let one = c.in_ok-push.ensures.size in let before = c.loop-col.invariant.size in omega arith;
      each = λ f places are all.
          let more : (places + i) + 1 ≡ places + (c.loop-col.col + 1 - c.args.left) = omega arith in
          subst (λ (n : ℕ). AreOutcomes f n out.cells.items out.over) more
          (c.in_ok-push.ensures.each f (places + i) (c.loop-col.invariant.each f places are all)
          (all i below
          ∙ (ap (outcome_of_sum c.args.summed)
          (ap (λ (col : ℕ). over sum_join no_sum (sum_at columns) (col - k) (min (length columns) (col + 1 + k) - (col - k))) there
          ∙ (ap (λ (p : ℕ × ℕ). over sum_join no_sum (sum_at columns) p.0 (p.1 - p.0)) (sym c.reach-from.ensures)
          ∙ sym is))
          ∙ sym c.outcome.ensures)));
    }
