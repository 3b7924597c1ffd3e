use Rattle.std.proofs.Common.{◌≡◌, ℕ, ◌+◌, ◌<◌, List, get_or, sym, ap, subst, ◌∙◌, arith}
use Rattle.window_ops.specs.declared.sum.Sum.{Sum}
use Rattle.window_ops.specs.inside.Outcomes.{longest_window, over}
use Rattle.window_ops.specs.inside.Sums.{IsSmall, most_summed, no_sum, sum_at, sum_join}
use Rattle.window_ops.proofs.Grid.{over-more}
use Rattle.window_ops.proofs.SumLemmas.{front-more, small-front, small-more}
use Rattle.window_ops.proofs.sums.add_up.Goals as goal

pub join-sum-requires-clause-small : goal.join-sum-requires-clause-small
join-sum-requires-clause-small c =
    let i = c.loop-column.column-index in
    subst (IsSmall most_summed) (sym c.loop-column.invariant.sum) (small-front c.args.columns.now i (omega arith) c.requires.few c.requires.small)

pub join-sum-requires-clause-other_small : goal.join-sum-requires-clause-other_small
join-sum-requires-clause-other_small c =
    let i = c.loop-column.column-index in
    let column = sum_at c.args.columns.now i in
    small-more longest_window most_summed column (omega arith) (c.requires.small i c.loop-column-test.true)

pub loop-column-preserved : goal.loop-column-preserved
loop-column-preserved c =
    let columns = c.args.columns.now in
    let i = c.loop-column.column-index in
    let here : i ≡ 0 + i = omega arith in
    let sum : c.join-sum.result ≡ over sum_join no_sum (sum_at columns) 0 (i + 1) =
    c.join-sum.ensures
    ∙ (ap (λ (s : Sum). sum_join s (get_or columns i no_sum)) c.loop-column.invariant.sum
    ∙ (ap (λ (n : ℕ). sum_join (over sum_join no_sum (sum_at columns) 0 i) (sum_at columns n)) here
    ∙ sym (over-more sum_join no_sum (sum_at columns) 0 i))) in
    record {
      size = let before = c.loop-column.invariant.size in let one = c.in_ok-push-2.ensures.len in omega arith;
      sum = sum;
      each = subst (λ (xs : List Sum). (col : ℕ) → col < i + 1 + 1 → sum_at xs col ≡ over sum_join no_sum (sum_at columns) 0 col) (sym c.in_ok-push-2.ensures.items)
          (front-more c.loop-column.into.items columns c.join-sum.result i c.loop-column.invariant.size c.loop-column.invariant.each sum);
    }
