use Rattle.std.proofs.Common.{arith, ◌≡◌, ◌∙◌, ℕ, ◌+◌, sym, ap, subst, length, List, [], ◌∷◌, ◌++◌, length-append}
use Rattle.number_lists.specs.inside.Joined.{lists_of, EndsAt}
use Rattle.number_lists.proofs.ListLemmas.{lists_more, ends_more}
use Rattle.number_lists.proofs.lists.Lists.add.Goals as goal

pub invariant_of-self-in-Ok : goal.invariant_of-self-in-Ok
invariant_of-self-in-Ok c =
    let ends = c.self.inside.ends.items in
    let items = c.extend_from_slice.new.self.items in
    let e : items ≡ c.self.inside.items.items ++ c.args.list.now = c.in_ok-extend_from_slice.ensures.items in
    let last : c.len.result ≡ length items = omega arith in
    let grown : length items ≡ length c.self.inside.items.items + length c.args.list.now = ap length e ∙ length-append c.self.inside.items.items c.args.list.now in
    subst (λ (xs : List ℕ). EndsAt 0 xs (length items)) (sym c.in-Ok.ensures.items)
    (subst (λ (n : ℕ). EndsAt 0 (ends ++ n ∷ []) (length items)) (sym last) (ends_more 0 ends (length c.self.inside.items.items) (length items) c.self.invariant (omega arith)))

pub returns-in-Ok : goal.returns-in-Ok
returns-in-Ok c =
    let ends = c.self.inside.ends.items in
    let old = c.self.inside.items.items in
    let items = c.extend_from_slice.new.self.items in
    let e : items ≡ old ++ c.args.list.now = c.in_ok-extend_from_slice.ensures.items in
    let last : c.len.result ≡ length items = omega arith in
    let grown : length items ≡ length old + length c.args.list.now = ap length e ∙ length-append old c.args.list.now in
    ap (λ (xs : List ℕ). lists_of 0 xs items) c.in-Ok.ensures.items
    ∙ (ap (λ (ys : List ℕ). lists_of 0 (ends ++ c.len.result ∷ []) ys) e
    ∙ (lists_more 0 ends old c.args.list.now c.len.result c.self.invariant (omega arith)
    ∙ ap (λ (xss : List (List ℕ)). xss ++ c.args.list.now ∷ []) c.self.view_is))
