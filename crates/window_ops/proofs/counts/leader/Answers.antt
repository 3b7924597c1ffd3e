use Rattle.std.proofs.Common.{◌≡◌, rules, ap, sym, ◌∙◌, pos, w64, FitsSigned}
use Rattle.std.specs.Map.Iter.{deref_pair}
use Rattle.std.proofs.lemmas.Map.Iter.{rest_all}
use Rattle.std.proofs.lemmas.Int.{to_z-of_z}
use Rattle.window_ops.specs.declared.counts.Ranked.{Ranked}
use Rattle.window_ops.proofs.ClassLemmas.{first_from, first_is_most_frequent, rank}
use Rattle.window_ops.proofs.counts.leader.Goals as goal

pub returns : goal.returns
returns c = λ first rest same.
    let counts = c.args.counts.now in
    let best = c.loop-value.best in
    let none = rest_all deref_pair c.loop-value.value-iterator c.next.new.self c.next.result c.in-None.is c.next.ensures.steps in
    let all : best ≡ first_from (rank (pos 0) 0) counts.entries = sym (ap (first_from best) none) ∙ c.loop-value.invariant in
    let is = ap (λ (r : Ranked). r.value) all ∙ first_is_most_frequent counts c.into_iter-value-iterator.ensures.into_iter_gives.4 c.requires first rest same in
    let fits : FitsSigned w64 best.value = search rules in
    to_z-of_z w64 best.value fits ∙ is
