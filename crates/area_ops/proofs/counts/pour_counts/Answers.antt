use Rattle.std.proofs.Common.{◌+◌, ℕ, List, ap, sym, subst, ◌∙◌, arith}
use Rattle.std.specs.List.Sorted.{IsStrictlySortedBy}
use Rattle.std.specs.Map.{keys_of}
use Rattle.std.specs.Map.Iter.{deref_pair}
use Rattle.std.proofs.lemmas.Map.Iter.{btree_map_turn, rest_all, rest_more}
use Rattle.std.proofs.lemmas.Map.Keys.{sorted_tail}
use Rattle.text_base.specs.Limits.{most_cells}
use Rattle.area_ops.specs.inside.Counts.{Member, count_at, count_in, member_cmp}
use Rattle.area_ops.proofs.CountLemmas.{count-nothing, first_taken, member_total, room_left}
use Rattle.area_ops.proofs.counts.pour_counts.Goals as goal

pub add_count-requires-clause-some : goal.add_count-requires-clause-some
add_count-requires-clause-some c =
    let turn = btree_map_turn deref_pair c.loop-member.yielded c.into_iter-member-iterator.result c.loop-member.member-iterator c.next.new.self c.next.result (c.in-Some.member, c.in-Some.count)
    c.loop-member.yielded_by c.in-Some.is c.next.ensures.steps member_total c.args.from.now c.into_iter-member-iterator.ensures.into_iter_gives.0 c.into_iter-member-iterator.ensures.into_iter_gives.5 in
    c.requires.from.some c.in-Some.member.now c.in-Some.count.now turn.1

pub add_count-requires-clause-few : goal.add_count-requires-clause-few
add_count-requires-clause-few c =
    let k = c.in-Some.member.now in
    let rest = rest_more deref_pair c.loop-member.member-iterator c.next.new.self c.next.result (c.in-Some.member, c.in-Some.count) c.in-Some.is c.next.ensures.steps in
    room_left k c.in-Some.count.now (count_at c.loop-member.into k) (count_at c.args.into.now k) (count_at c.args.from.now k) most_cells c.next.new.self
    (subst (λ (es : List (Member × ℕ)). IsStrictlySortedBy member_cmp (keys_of es)) rest c.loop-member.invariant.sorted)
    (sym (ap (λ (es : List (Member × ℕ)). count_at c.loop-member.into k + count_in es k) rest) ∙ c.loop-member.invariant.left k) (c.requires.few k)

pub loop-member-preserved : goal.loop-member-preserved
loop-member-preserved c =
    let k = c.in-Some.member.now in
    let n = c.in-Some.count.now in
    let rest = rest_more deref_pair c.loop-member.member-iterator c.next.new.self c.next.result (c.in-Some.member, c.in-Some.count) c.in-Some.is c.next.ensures.steps in
    let sorted = subst (λ (es : List (Member × ℕ)). IsStrictlySortedBy member_cmp (keys_of es)) rest c.loop-member.invariant.sorted in
    record {
      left = λ own.
          let e = c.in_ok-add_count.ensures.counts own in
          let f = first_taken own (count_at c.loop-member.into own) (k, n) c.next.new.self sorted in
          let l = sym (ap (λ (es : List (Member × ℕ)). count_at c.loop-member.into own + count_in es own) rest) ∙ c.loop-member.invariant.left own in
          omega (arith, e, f, l);
      sorted = sorted_tail member_cmp k (keys_of c.next.new.self) sorted;
      sound = c.in_ok-add_count.ensures.sound;
    }

pub returns-clause-counts : goal.returns-clause-counts
returns-clause-counts c = λ own.
    let none = rest_all deref_pair c.loop-member.member-iterator c.next.new.self c.next.result c.in-None.is c.next.ensures.steps in
    let e = count-nothing c.loop-member.member-iterator own none in
    let l = c.loop-member.invariant.left own in
    omega (arith, e, l)
