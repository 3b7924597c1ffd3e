-- Numbers that are cut or reduced.
use Rattle.std.proofs.Common.{◌≢◌, zero, suc, ℤ, pos, negsuc, ◌<◌, ◌/◌, ◌%◌, refl, arith, mod-lt}
use Rattle.std.specs.Prelude.{int_rem, unsigned_abs, ◌≤ℤ◌, ◌<ℤ◌}
use Rattle.std.specs.Int.{int_rem_euclid}
use Rattle.std.proofs.lemmas.Int.{ints, quot-rem, rem_below}
use Rattle.std.proofs.lemmas.Nat.{div-add-mod'}
use Rattle.cell_values.specs.Units.{full_turn}
use Rattle.cell_values.specs.Rounding.{cut_quotient}
use Rattle.meaning_laws.specs.Numbers.{IsCutTowardZero, IsReduced}

-- a divisor that is not 0 has a size
has_size : (d : ℤ) → d ≢ pos 0 → 0 < unsigned_abs d
has_size (pos zero) none = absurd (none refl)
has_size (pos (suc d)) none = omega arith
has_size (negsuc d) none = omega arith

-- the rest is on the side of the dividend
rest_above : (n d : ℤ) → pos 0 ≤ℤ n → pos 0 ≤ℤ int_rem n d
rest_above (pos a) d above = omega (arith, ints)
rest_above (negsuc a) d above = absurd (omega (arith, ints, above))

rest_under : (n d : ℤ) → n <ℤ pos 0 → int_rem n d ≤ℤ pos 0
rest_under (pos a) d under = absurd (omega (arith, ints, under))
rest_under (negsuc a) d under = omega (arith, ints)

-- a quotient that is cut leaves such a rest
pub quotient_is_cut : (n d : ℤ) → d ≢ pos 0 → IsCutTowardZero n d (cut_quotient n d)
quotient_is_cut n d some = record {
  rest = int_rem n d;
  parts = quot-rem n d;
  small = rem_below n d (has_size d some);
  positive = rest_above n d;
  negative = rest_under n d;
}

-- a number that is reduced lies whole turns away
pub reduced : (z : ℤ) → IsReduced z (int_rem_euclid z (pos full_turn))
reduced (pos a) =
    let parts = div-add-mod' a full_turn in
    let small : a % full_turn < full_turn = mod-lt a (omega arith) in
    record {
      turns = pos (a / full_turn);
      apart = omega (arith, ints, parts);
      least = omega (arith, ints);
      most = omega (arith, ints, small);
    }
reduced (negsuc a) =
    let parts = div-add-mod' a full_turn in
    let small : a % full_turn < full_turn = mod-lt a (omega arith) in
    record {
      turns = negsuc (a / full_turn);
      apart = omega (arith, ints, parts, small);
      least = omega (arith, ints);
      most = omega (arith, ints, small);
    }
