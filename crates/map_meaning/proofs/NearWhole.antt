-- The whole numbers near a scalar.
use Rattle.std.proofs.Common.{◌≡◌, ◌/◌, ◌%◌, ◌<◌, refl, arith, lit<}
use Rattle.std.proofs.Math.Nat.{mod-lt}
use Rattle.std.proofs.lemmas.Nat.{div-add-mod'}
use Rattle.std.specs.Prelude.{ℤ, pos, negsuc, neg_ℤ, ◌*ℤ◌}
use Rattle.std.proofs.lemmas.Int.{ints}
use Rattle.map_meaning.specs.Laws.{IsWholeAbove, IsWholeBelow}
use Rattle.map_meaning.specs.Whole.{whole_above, whole_below}

pub below : (z : ℤ) → IsWholeBelow z (whole_below z)
below (pos n) =
    let parts = div-add-mod' n 1000000 in
    let small : n % 1000000 < 1000000 = mod-lt n (lit< tt) in
    record { whole = (pos (n / 1000000), refl); not_above = omega (arith, ints, parts, small); greatest = omega (arith, ints, parts, small) }
below (negsuc n) =
    let parts = div-add-mod' n 1000000 in
    let small : n % 1000000 < 1000000 = mod-lt n (lit< tt) in
    record { whole = (negsuc (n / 1000000), refl); not_above = omega (arith, ints, parts, small); greatest = omega (arith, ints, parts, small) }

pub above : (z : ℤ) → IsWholeAbove z (whole_above z)
above z =
    let h = below (neg_ℤ z) in
    let k : ℤ = h.whole.0 in
    let is : whole_below (neg_ℤ z) ≡ k *ℤ pos 1000000 = h.whole.1 in
    record { whole = (neg_ℤ k, omega (arith, ints, is)); not_below = omega (arith, ints, h.not_above); least = omega (arith, ints, h.greatest) }
