-- Fractions as whole numbers: the nearest one, ties away from zero, and the one that is cut toward zero.
use Rattle.std.specs.Prelude.{◌≤ℤ◌, ◌<ℤ◌, ℕ, suc, ℤ, pos, negsuc, ◌+◌, ◌*◌, ◌/◌, ◌<◌, ◌≤◌, neg_ℤ, int_div, unsigned_abs}
use Rattle.std.specs.Prelude.{int_lt, if◌then◌else◌}

-- q is the nearest whole number to s / d, and the greater one where two are as near
pub record IsNearestSize (s d q : ℕ) : Type 0 where
  pub above : 2 * (q * d) ≤ 2 * s + d
  pub below : 2 * s < 2 * (q * d) + d

-- q is the nearest whole number to n / d, where d is above 0, and the farther one from 0 where two are as near
pub record IsNearest (n d q : ℤ) : Type 0 where
  pub size : IsNearestSize (unsigned_abs n) (unsigned_abs d) (unsigned_abs q)
  pub positive : pos 0 ≤ℤ n → pos 0 ≤ℤ q
  pub negative : n <ℤ pos 0 → q ≤ℤ pos 0

-- the nearest whole number to s / d, where d is above 0
unfoldable pub nearest_size : ℕ → ℕ → ℕ
nearest_size s d = (2 * s + d) / (2 * d)

-- the nearest whole number to n / d, where d is above 0
unfoldable pub nearest : ℤ → ℕ → ℤ
nearest n d = if int_lt n (pos 0) then neg_ℤ (pos (nearest_size (unsigned_abs n) d)) else pos (nearest_size (unsigned_abs n) d)

-- the nearest whole number to n / d, where d is not 0
abbrev pub nearest_quotient : ℤ → ℤ → ℤ
nearest_quotient n (pos d) = nearest n d
nearest_quotient n (negsuc d) = nearest (neg_ℤ n) (suc d)

-- n / d cut toward zero, where d is not 0
abbrev pub cut_quotient : ℤ → ℤ → ℤ
cut_quotient n d = int_div n d
