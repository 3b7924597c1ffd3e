-- Lists one after another in one list, where there is none yet.
use Rattle.std.proofs.Common.{◌≡◌, ℕ, List, [], length, refl, sym, ap, subst}
use Rattle.number_lists.specs.inside.Joined.{lists_of, EndsAt}

-- no list yet
pub none_end : (ends items : List ℕ) → ends ≡ [] → items ≡ [] → EndsAt 0 ends (length items)
unfolding EndsAt
none_end ends items e f = subst (λ (xs : List ℕ). EndsAt 0 xs (length items)) (sym e) (subst (λ (ys : List ℕ). 0 ≡ length ys) (sym f) refl)

pub none_are : (ends items : List ℕ) → ends ≡ [] → lists_of 0 ends items ≡ []
unfolding lists_of
none_are ends items e = ap (λ (xs : List ℕ). lists_of 0 xs items) e
