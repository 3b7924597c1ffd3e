-- The maps of a function of numbers.
use Rattle.std.proofs.Common.{◌≡◌, ℕ, zero, suc, ◌<◌, [], ◌∷◌, length, refl, sym, ap, ◌∙◌, inl, inr, arith}
use Rattle.std.proofs.lemmas.Bool.{cases_lt}
use Rattle.std.proofs.lemmas.List.{get_or_append_left, get_or_push, length_push}
use Rattle.tile_map.specs.Parts.{tabulate}
use Rattle.map_meaning.specs.Maps.{WholeMap, nth}

-- there are as many as are asked for
pub tabulate_count : (f : ℕ → WholeMap) (n : ℕ) → length (tabulate f n) ≡ n
tabulate_count f zero = refl
tabulate_count f (suc n) = let e = length_push (tabulate f n) (f n) in let c = tabulate_count f n in omega arith

-- the one with a number is the function's
pub nth_tabulate : (f : ℕ → WholeMap) (n k : ℕ) → k < n → nth (tabulate f n) k ≡ f k
nth_tabulate f zero k below = absurd (omega arith)
nth_tabulate f (suc n) k below = elim (cases_lt k n) as (λ x. nth (tabulate f (suc n)) k ≡ f k) [
  | inl less ↦ get_or_append_left (tabulate f n) (f n ∷ []) [] k (let c = tabulate_count f n in omega arith) ∙ nth_tabulate f n k less
  | inr not ↦ let same : k ≡ n = omega arith in get_or_push (tabulate f n) (f n) [] k (tabulate_count f n ∙ sym same) ∙ ap f (sym same)
]
