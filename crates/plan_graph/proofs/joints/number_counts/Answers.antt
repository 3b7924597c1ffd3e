use Rattle.std.proofs.Common.{arith, ◌≡◌, ℕ, get_or, length, refl, subst}
use Rattle.std.proofs.lemmas.List.{get_or_read}
use Rattle.plan_graph.specs.inside.Joined.{AreCounted}
use Rattle.plan_graph.proofs.JoinedLemmas.{counted_all, counted_few, counted_more}
use Rattle.plan_graph.proofs.joints.number_counts.Goals as goal

pub overflow_add-index_mut : goal.overflow_add-index_mut
overflow_add-index_mut c =
    let numbers = c.args.numbers.now in
    let n = c.loop-number.number-index in
    let counts = c.loop-number.counts.items in
    let m = get_or numbers n 0 in
    let below = c.requires.below n (omega arith) in
    let many = c.loop-number.invariant.many in
    let at = get_or_read counts m c.index_mut.result.now (omega arith) c.index_mut.ensures.value 0 in
    let few = counted_few numbers c.args.count n m counts c.loop-number.invariant (omega arith) below in
    omega arith

pub loop-number-preserved : goal.loop-number-preserved
loop-number-preserved c =
    let numbers = c.args.numbers.now in
    let n = c.loop-number.number-index in
    let counts = c.loop-number.counts.items in
    let m = get_or numbers n 0 in
    let below = c.requires.below n (omega arith) in
    let many = c.loop-number.invariant.many in
    counted_more numbers c.args.count n m c.index_mut.result.now counts c.loop-number.invariant (omega arith) refl below
    (get_or_read counts m c.index_mut.result.now (omega arith) c.index_mut.ensures.value 0)

pub returns : goal.returns
returns c =
    let numbers = c.args.numbers.now in
    let end : c.loop-number.number-index ≡ length numbers = omega arith in
    counted_all numbers c.args.count c.loop-number.counts.items
    (subst (λ (n : ℕ). AreCounted numbers c.args.count n c.loop-number.counts.items) end c.loop-number.invariant)
