-- Decimal texts. Each stands for a whole number times a power of ten, exactly.
use Rattle.std.specs.Prelude.{◌≡◌, ℕ, ◌+◌, ◌*◌, ◌^◌, ◌<◌, ◌≤◌, suc, Bool, true, false, IsTrue, ◌⊎◌}
use Rattle.std.specs.Prelude.{List, [], ◌++◌, length, ℤ, pos, negsuc, neg_ℤ, codes}
use Rattle.std.specs.Char.{is_ascii_digit}
use Rattle.std.specs.List.{list_all}
use Rattle.std.specs.Str.Parse.{digits_value}
use Rattle.text_base.specs.Limits.{longest_number}

-- a decimal by its parts: its sign, the digits before and behind the point, as bytes, and its exponent
pub record Decimal : Type 0 where
  pub negative : Bool
  pub whole : List ℕ
  pub fraction : List ℕ
  pub exponent : ℤ

-- digits alone
abbrev pub are_digits : List ℕ → Bool
are_digits text = list_all is_ascii_digit text

-- a number with a sign
abbrev pub with_sign : Bool → ℕ → ℤ
with_sign false size = pos size
with_sign true size = neg_ℤ (pos size)

-- the text of a sign, or no text where the number is not negative
abbrev pub IsSign : List ℕ → Bool → Type 0
IsSign text false = (text ≡ []) ⊎ (text ≡ codes "+")
IsSign text true = text ≡ codes "-"

-- a point and the digits behind it, or no text where there are no such digits
abbrev pub IsPointed : List ℕ → List ℕ → Type 0
IsPointed text fraction = (text ≡ codes "." ++ fraction) ⊎ ((text ≡ []) × (fraction ≡ []))

-- the most digits of an exponent
abbrev pub most_exponent_digits : ℕ
most_exponent_digits = 6

-- `e` or `E`, a sign or none, and one to six digits
pub record IsPower (text : List ℕ) (exponent : ℤ) : Type 0 where
  pub letter : List ℕ
  pub sign : List ℕ
  pub digits : List ℕ
  pub negative : Bool
  pub parts : text ≡ letter ++ sign ++ digits
  pub lettered : (letter ≡ codes "e") ⊎ (letter ≡ codes "E")
  pub signed : IsSign sign negative
  pub numeral : IsTrue (are_digits digits)
  pub some : 0 < length digits
  pub few : length digits ≤ most_exponent_digits
  pub value : exponent ≡ with_sign negative (digits_value 10 digits)

-- an exponent, or no text where it is 0
abbrev pub IsExponent : List ℕ → ℤ → Type 0
IsExponent text exponent = IsPower text exponent ⊎ ((text ≡ []) × (exponent ≡ pos 0))

-- The text is this decimal: a sign, digits with at most one point, and an exponent. A digit stands before or behind
-- the point. The text has at most 128 bytes.
pub record IsDecimal (text : List ℕ) (d : Decimal) : Type 0 where
  pub sign : List ℕ
  pub pointed : List ℕ
  pub power : List ℕ
  pub parts : text ≡ sign ++ d.whole ++ pointed ++ power
  pub short : length text ≤ longest_number
  pub signed : IsSign sign d.negative
  pub whole : IsTrue (are_digits d.whole)
  pub fraction : IsTrue (are_digits d.fraction)
  pub some : 0 < length d.whole + length d.fraction
  pub behind : IsPointed pointed d.fraction
  pub raised : IsExponent power d.exponent

-- the text is a decimal
abbrev pub IsDecimalText : List ℕ → Type 0
IsDecimalText text = (d : Decimal) × IsDecimal text d

-- an exponent above 0, and else 0
abbrev pub rise_of : ℤ → ℕ
rise_of (pos n) = n
rise_of (negsuc n) = 0

-- the size of an exponent below 0, and else 0
abbrev pub fall_of : ℤ → ℕ
fall_of (pos n) = 0
fall_of (negsuc n) = suc n

-- all digits in a row, raised by an exponent above 0
unfoldable pub size_of : Decimal → ℕ
size_of d = digits_value 10 (d.whole ++ d.fraction) * 10 ^ rise_of d.exponent

-- The exact value of a decimal is `numerator` over `denominator`: this whole number
unfoldable pub numerator : Decimal → ℤ
numerator d = with_sign d.negative (size_of d)

-- over this power of ten, one ten for each digit behind the point and for each step of an exponent below 0
unfoldable pub denominator : Decimal → ℕ
denominator d = 10 ^ (length d.fraction + fall_of d.exponent)
