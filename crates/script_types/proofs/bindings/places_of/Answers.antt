use Rattle.std.proofs.Common.{◌≡◌, ◌+◌, [], ◌∷◌, ◌++◌, take, drop, sym, ◌∙◌, ap, Some, None, if◌then◌else◌, arith}
use Rattle.std.specs.Option.{is_some}
use Rattle.std.specs.Str.{bytes_eq}
use Rattle.std.proofs.lemmas.List.{drop_more, take_more, length-take-le}
use Rattle.script_types.specs.Names.{place_from}
use Rattle.script_types.specs.inside.Answers.{bindings_pass}
use Rattle.script_types.specs.inside.Look.{look}
use Rattle.script_types.proofs.BindingLemmas.{binding-right, none-of, place-more}
use Rattle.script_types.proofs.bindings.places_of.Goals as goal

pub loop-at-preserved : goal.loop-at-preserved
loop-at-preserved c =
    let bs = c.args.bindings.now in
    let at = c.loop-at.at in
    let b = c.index-bindings-at.result in
    let known = look c.loop-at.places.values in
    let new : place_from 0 (take at bs) b.name ≡ None = sym (c.loop-at.invariant.0 b.name) ∙ ap known (sym c.bytes-name.ensures) ∙ sym c.get.ensures ∙ none-of c.get.result (sym c.is_some.ensures ∙ c.if-is_some.false) in
    let left = drop_more bs at b (omega arith) ∙ ap (λ x. x ∷ drop (at + 1) bs) (sym c.index-bindings-at.is) in
    let front = take_more bs at b (omega arith) ∙ ap (λ x. take at bs ++ x ∷ []) (sym c.index-bindings-at.is) in (
      (λ name. c.in_ok-set.ensures name ∙ ap (λ n. if bytes_eq name n then Some at else known name) c.bytes-name.ensures ∙ ap (λ r. if bytes_eq name b.name then Some at else r) (c.loop-at.invariant.0 name) ∙ sym (place-more bs at b name (omega arith) (length-take-le at bs (omega arith)) (sym c.index-bindings-at.is) new)),
      (ap (λ xs. bindings_pass xs (drop (at + 1) bs)) front ∙ sym (binding-right (take at bs) b (drop (at + 1) bs) (ap is_some new) (sym c.is_bad_number.ensures ∙ c.if-is_bad_number.false)) ∙ ap (bindings_pass (take at bs)) (sym left) ∙ c.loop-at.invariant.1),
    )
