use Rattle.std.proofs.Common.{arith, ap, length}
use Rattle.std.proofs.lemmas.List.Filters.{dedup_is}
use Rattle.std.proofs.lemmas.List.Kept.{Contains-dedup_nat, Contains-from_dedup}
use Rattle.std.proofs.lemmas.List.Sorted.{Contains-permutation, IsPermutation-sym}
use Rattle.std.proofs.lemmas.Map.Keys.{IsStrictlyIncreasing-dedup}
use Rattle.plan_graph.proofs.joints.sorted_set.Goals as goal

pub returns : goal.returns
returns c =
    let is = dedup_is _ _ _ c.dedup.ensures.filtered in
    let same = c.in_ok-set.ensures.items in
    let moved = c.sort_unstable.ensures.permutation in
    record {
      rises = rw is (IsStrictlyIncreasing-dedup _ c.sort_unstable.ensures.sorted);
      all = λ n h. rw is (Contains-dedup_nat _ n (Contains-permutation _ _ n moved (rw same h)));
      only = λ n h. rw same at (Contains-permutation _ _ n (IsPermutation-sym _ _ moved) (Contains-from_dedup _ _ n (rw is at h)));
      few = let a = c.dedup.ensures.bound in let b = c.sort_unstable.ensures.len in let e = ap length same in omega (arith, a, b, c.dedup.new.self.ok.0, c.sort_unstable.new.self.ok.0, c.in_ok-set.set.ok.0);
    }
