-- Whole numbers near a scalar. Scalars count millionths.
use Rattle.std.specs.Prelude.{ℤ, pos, neg_ℤ, ◌*ℤ◌}
use Rattle.std.specs.Int.{int_div_euclid}
use Rattle.cell_values.specs.Units.{million}
use Rattle.cell_values.specs.Rounding.{nearest}

-- the greatest whole number that is not above
abbrev pub whole_below : ℤ → ℤ
whole_below z = int_div_euclid z (pos million) *ℤ pos million

-- the least whole number that is not below
abbrev pub whole_above : ℤ → ℤ
whole_above z = neg_ℤ (whole_below (neg_ℤ z))

-- the nearest whole number, ties away from zero
abbrev pub whole_nearest : ℤ → ℤ
whole_nearest z = nearest z million *ℤ pos million
