-- Laws of conversions and of quotients.
use Rattle.std.specs.Prelude.{◌≡◌, ℤ, pos, neg_ℤ, ◌+ℤ◌, ◌*ℤ◌, ◌≤ℤ◌, ◌<ℤ◌, ◌<◌, unsigned_abs, Ok}
use Rattle.cell_values.specs.declared.kind.Kind.{Kind}
use Rattle.cell_values.specs.declared.kind.Kind.TheVariants.{Boolean, Nominal, Ordinal, Scalar, Directional, Ldd}
use Rattle.cell_values.specs.declared.cell.Cell.TheVariants.{Val}
use Rattle.cell_values.specs.Conversion.{conversion_of}
use Rattle.cell_values.specs.Units.{full_turn}

-- the number of the first kind is this one of the second
abbrev pub Converts : Kind → Kind → ℤ → ℤ → Type 0
Converts from to z w = conversion_of from to (Val z) ≡ Ok (Val w)

-- a conversion of each sort: 90 degrees are the scalar 90, -90 degrees the direction 270, -1.5 the class -1
pub record ConversionsByExample : Type 0 where
  pub truth : Converts Scalar Boolean (neg_ℤ (pos 500000)) (pos 1)
  pub class : Converts Scalar Nominal (neg_ℤ (pos 1500000)) (neg_ℤ (pos 1))
  pub order : Converts Scalar Ordinal (pos 2999999) (pos 2)
  pub whole : Converts Nominal Scalar (neg_ℤ (pos 3)) (neg_ℤ (pos 3000000))
  pub code : Converts Ldd Scalar (pos 5) (pos 5000000)
  pub angle : Converts Directional Scalar (pos 90000000) (pos 90000000)
  pub reduced : Converts Scalar Directional (neg_ℤ (pos 90000000)) (pos 270000000)
  pub turned : Converts Scalar Directional (pos 720000001) (pos 1)

-- The direction of a number lies whole turns from it, and is within one turn.
pub record IsReduced (z direction : ℤ) : Type 0 where
  pub turns : ℤ
  pub apart : z ≡ direction +ℤ turns *ℤ pos full_turn
  pub least : pos 0 ≤ℤ direction
  pub most : direction <ℤ pos full_turn

-- q is n / d cut toward zero: the rest is smaller than d, and on the side of 0 on which n is
pub record IsCutTowardZero (n d q : ℤ) : Type 0 where
  pub rest : ℤ
  pub parts : q *ℤ d +ℤ rest ≡ n
  pub small : unsigned_abs rest < unsigned_abs d
  pub positive : pos 0 ≤ℤ n → pos 0 ≤ℤ rest
  pub negative : n <ℤ pos 0 → rest ≤ℤ pos 0
