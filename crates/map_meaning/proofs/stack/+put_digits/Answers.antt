-- The last digit stands behind the others.
use Rattle.std.proofs.Common.{◌≡◌, ℕ, zero, suc, ◌+◌, ◌/◌, ◌%◌, ◌++◌, ◌∷◌, [], refl, ap, ◌∙◌, arith}
use Rattle.std.specs.Prelude.{◌-◌}
use Rattle.std.proofs.lemmas.List.{append_assoc}
use Rattle.map_meaning.specs.StackNames.{in_digits}
use Rattle.map_meaning.proofs.stack.+put_digits.Goals as goal

-- one digit more
digits_more : (count number : ℕ) → (count ≡ 0 → ⊥) → in_digits (count - 1) (number / 10) ++ (48 + number % 10) ∷ [] ≡ in_digits count number
digits_more zero number some = absurd (some refl)
digits_more (suc more) number some =
    let less : suc more - 1 ≡ more = omega arith in
    let digit : 48 + number % 10 ≡ number % 10 + 48 = omega arith in
    ap (λ k. in_digits k (number / 10) ++ (48 + number % 10) ∷ []) less ∙ ap (λ d. in_digits more (number / 10) ++ d ∷ []) digit

pub returns-clause-digits : goal.returns-clause-digits
returns-clause-digits t c =
    let count = c.args.count in
    let number = c.args.number in
    let old = c.args.into.now.items in
    c.in_ok-push.ensures.items ∙
    (ap (λ xs. xs ++ (48 + number % 10) ∷ []) c.in_ok-put_digits.ensures.digits ∙
    (append_assoc old (in_digits (count - 1) (number / 10)) ((48 + number % 10) ∷ []) ∙
    ap (λ xs. old ++ xs) (digits_more count number c.if-count-eq0.false)))
