-- The value that a kind takes from a decimal.
use Rattle.std.specs.Prelude.{◌≡◌, ℕ, ℤ, pos, ◌*ℤ◌, List}
use Rattle.cell_values.specs.declared.kind.Kind.{Kind}
use Rattle.cell_values.specs.declared.kind.Kind.TheVariants.{Boolean, Nominal, Ordinal, Scalar, Directional, Ldd}
use Rattle.cell_values.specs.declared.cell.Cell.{Cell}
use Rattle.cell_values.specs.declared.cell.Cell.TheVariants.{Val}
use Rattle.cell_values.specs.Units.{million}
use Rattle.cell_values.specs.Kinds.{IsValue}
use Rattle.cell_values.specs.Rounding.{IsNearest}
use Rattle.cell_values.specs.Decimal.{Decimal, IsDecimal, numerator, denominator}

-- z is the whole number n / d itself
abbrev pub IsQuotient : ℤ → ℕ → ℤ → Type 0
IsQuotient n d z = z *ℤ pos d ≡ n

-- What a kind takes n / d for: its nearest number of millionths, or the number itself.
abbrev pub IsTaken : Kind → ℤ → ℕ → ℤ → Type 0
IsTaken Boolean n d z = IsQuotient n d z
IsTaken Nominal n d z = IsQuotient n d z
IsTaken Ordinal n d z = IsQuotient n d z
IsTaken Scalar n d z = IsNearest (pos million *ℤ n) (pos d) z
IsTaken Directional n d z = IsNearest (pos million *ℤ n) (pos d) z
IsTaken Ldd n d z = IsQuotient n d z

-- z is the value of the kind that the decimal stands for
pub record HasValue (kind : Kind) (d : Decimal) (z : ℤ) : Type 0 where
  pub taken : IsTaken kind (numerator d) (denominator d) z
  pub value : IsValue kind z

-- the decimal has a value of the kind
abbrev pub HasSomeValue : Kind → Decimal → Type 0
HasSomeValue kind d = (z : ℤ) × HasValue kind d z

-- the text is a decimal, and the cell its value of the kind
abbrev pub IsCellOf : Kind → List ℕ → Cell → Type 0
IsCellOf kind text cell = (d : Decimal) × (z : ℤ) × IsDecimal text d × HasValue kind d z × (cell ≡ Val z)

-- the text is a decimal without a value of the kind
abbrev pub HasNoValue : Kind → List ℕ → Type 0
HasNoValue kind text = (d : Decimal) × IsDecimal text d × ¬ (HasSomeValue kind d)

-- two decimals have one exact value
abbrev pub HasSameValue : Decimal → Decimal → Type 0
HasSameValue a b = numerator a *ℤ pos (denominator b) ≡ numerator b *ℤ pos (denominator a)
