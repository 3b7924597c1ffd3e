use Rattle.std.proofs.Common.{arith, ◌∙◌, ◌++◌, ◌∷◌, [], ◌+◌, ℕ, sym, ap, List}
use Rattle.std.proofs.lemmas.List.FromFn.{map-range_with_len_more}
use Rattle.task_graph.proofs.needs.partials.Goals as goal

pub loop-partial-preserved : goal.loop-partial-preserved
loop-partial-preserved c =
    let p = c.loop-partial.partial in
    c.in_ok-push.ensures.items
    ∙ (ap (λ (xs : List ℕ). xs ++ (c.args.start + p) ∷ []) c.loop-partial.invariant
    ∙ sym (map-range_with_len_more (λ (partial : ℕ). c.args.start + partial) 0 p p (omega arith)))
