use Rattle.std.proofs.Common.{arith}
use Rattle.text_base.specs.Limits.{most_cells}
use Rattle.area_ops.proofs.CountLemmas.{count-nothing, nothing_counted}
use Rattle.area_ops.proofs.counts.counts_of_both.Goals as goal

pub pour_counts-requires-clause-into : goal.pour_counts-requires-clause-into
pour_counts-requires-clause-into c = nothing_counted most_cells c.new-counts.result.entries c.new-counts.ensures.empty

pub pour_counts-requires-clause-few : goal.pour_counts-requires-clause-few
pour_counts-requires-clause-few c = λ own.
    let e = count-nothing c.new-counts.result.entries own c.new-counts.ensures.empty in
    let few = c.requires.few own in
    omega (arith, e, few)

pub pour_counts-requires-2-clause-few : goal.pour_counts-requires-2-clause-few
pour_counts-requires-2-clause-few c = λ own.
    let e = count-nothing c.new-counts.result.entries own c.new-counts.ensures.empty in
    let p = c.in_ok-pour_counts.ensures.counts own in
    let few = c.requires.few own in
    omega (arith, e, p, few)

pub returns-clause-counts : goal.returns-clause-counts
returns-clause-counts c = λ own.
    let e = count-nothing c.new-counts.result.entries own c.new-counts.ensures.empty in
    let p = c.in_ok-pour_counts.ensures.counts own in
    let q = c.in_ok-pour_counts-2.ensures.counts own in
    omega (arith, e, p, q)
