-- How tokens are spelled: which bytes are which token, in each sort of place.
use Rattle.std.specs.Prelude.{◌≡◌, ◌⊎◌, ◌+◌, ◌<◌, ◌≤◌, ℕ, Bool, true, false, ◌||◌, ◌&&◌, ◌==◌, if◌then◌else◌}
use Rattle.std.specs.Prelude.{List, [], ◌∷◌, ◌++◌, length, codes, is_some, Option, Some, None}
use Rattle.std.specs.Char.{is_ascii_digit}
use Rattle.std.specs.List.{list_all}
use Rattle.std.specs.Str.{bytes_eq}
use Rattle.text_base.specs.Bytes.{is_letter, is_word_byte, is_file_byte, point, plus, hyphen, small_e, capital_e}
use Rattle.text_base.specs.Words.{begins_word}
use Rattle.cell_values.specs.inside.Reading.{decimal_of}
use Rattle.script_syntax.specs.declared.token.Comparison.TheVariants as compares
use Rattle.script_syntax.specs.declared.token.Sign.TheVariants.{Plus, Minus}
use Rattle.script_syntax.specs.declared.token.Factor.TheVariants.{Times, Over, WholeOver, Modulo}
use Rattle.script_syntax.specs.declared.token.Operator.{Operator}
use Rattle.script_syntax.specs.declared.token.Operator.TheVariants as operators
use Rattle.script_syntax.specs.declared.token.Key.{Key}
use Rattle.script_syntax.specs.declared.token.Key.TheVariants as keys
use Rattle.script_syntax.specs.declared.token.Mark.TheVariants as marks
use Rattle.script_syntax.specs.declared.token.Token.{Token}
use Rattle.script_syntax.specs.declared.token.Token.TheVariants as tokens
use Rattle.script_syntax.specs.declared.place.Mode.{Mode}
use Rattle.script_syntax.specs.declared.place.Mode.TheVariants.{Bindings, BoundFile, AreaFile, Sections}

-- ---- words

-- a letter, then letters, digits and `_`
abbrev pub is_word_text : List ℕ → Bool
is_word_text [] = false
is_word_text (b ∷ bs) = is_letter b && list_all is_word_byte bs

-- the words of the language that are operators
abbrev pub operator_spelled : List ℕ → Option Operator
operator_spelled w =
    if bytes_eq w (codes "and") then Some operators.And
    else (if bytes_eq w (codes "or") then Some operators.Or
    else (if bytes_eq w (codes "xor") then Some operators.Xor
    else (if bytes_eq w (codes "eq") then Some (operators.Compare compares.Equal)
    else (if bytes_eq w (codes "ne") then Some (operators.Compare compares.Unequal)
    else (if bytes_eq w (codes "lt") then Some (operators.Compare compares.Less)
    else (if bytes_eq w (codes "le") then Some (operators.Compare compares.AtMost)
    else (if bytes_eq w (codes "gt") then Some (operators.Compare compares.Greater)
    else (if bytes_eq w (codes "ge") then Some (operators.Compare compares.AtLeast)
    else (if bytes_eq w (codes "div") then Some (operators.Product Over)
    else (if bytes_eq w (codes "idiv") then Some (operators.Product WholeOver)
    else (if bytes_eq w (codes "mod") then Some (operators.Product Modulo) else None)))))))))))

-- the other words of the language, `not` apart
abbrev pub key_spelled : List ℕ → Option Key
key_spelled w =
    if bytes_eq w (codes "binding") then Some keys.Binding
    else (if bytes_eq w (codes "areamap") then Some keys.Areamap
    else (if bytes_eq w (codes "timer") then Some keys.Timer
    else (if bytes_eq w (codes "initial") then Some keys.Initial
    else (if bytes_eq w (codes "dynamic") then Some keys.Dynamic
    else (if bytes_eq w (codes "report") then Some keys.Report
    else (if bytes_eq w (codes "if") then Some keys.If
    else (if bytes_eq w (codes "then") then Some keys.Then
    else (if bytes_eq w (codes "else") then Some keys.Else else None))))))))

-- an operator, where the word spells one, and else a name
abbrev pub operator_or_name : List ℕ → Option Operator → Token
operator_or_name w None = tokens.Name w
operator_or_name w (Some o) = tokens.Operator o

-- a key word, where the word is one, and else `not`, an operator or a name
abbrev pub key_or_other : List ℕ → Option Key → Token
key_or_other w None = if bytes_eq w (codes "not") then tokens.Not else operator_or_name w (operator_spelled w)
key_or_other w (Some k) = tokens.Key k

-- the token that a word is: a word of the language, and else a name
unfoldable pub word_token : List ℕ → Token
word_token w = key_or_other w (key_spelled w)

-- ---- numbers

-- `e` or `E`, a sign or none, and digits
pub record PowerForm : Type 0 where
  pub letter : ℕ
  pub sign : Option ℕ
  pub digits : List ℕ

-- digits, a point and digits or none, and a power or none
pub record NumberForm : Type 0 where
  pub whole : List ℕ
  pub fraction : Option (List ℕ)
  pub power : Option PowerForm

-- `+` or `-`
abbrev pub is_sign : ℕ → Bool
is_sign b = (b == plus) || (b == hyphen)

-- `e` or `E`
abbrev pub is_exponent_letter : ℕ → Bool
is_exponent_letter b = (b == small_e) || (b == capital_e)

-- the bytes of a sign
abbrev pub sign_text : Option ℕ → List ℕ
sign_text None = []
sign_text (Some b) = b ∷ []

-- a sign is `+` or `-`
abbrev pub IsSignForm : Option ℕ → Type 0
IsSignForm None = Unit {0}
IsSignForm (Some b) = is_sign b ≡ true

-- one to six digits behind the letter and a sign
pub record IsPowerForm (f : PowerForm) : Type 0 where
  pub lettered : is_exponent_letter f.letter ≡ true
  pub signed : IsSignForm f.sign
  pub digits : list_all is_ascii_digit f.digits ≡ true
  pub some : 0 < length f.digits
  pub few : length f.digits ≤ 6

-- the bytes of a power
abbrev pub power_text : Option PowerForm → List ℕ
power_text None = []
power_text (Some f) = f.letter ∷ sign_text f.sign ++ f.digits

-- a power has the form of one
abbrev pub IsPowerPart : Option PowerForm → Type 0
IsPowerPart None = Unit {0}
IsPowerPart (Some f) = IsPowerForm f

-- the point and the digits behind it
abbrev pub fraction_bytes : Option (List ℕ) → List ℕ
fraction_bytes None = []
fraction_bytes (Some ds) = point ∷ ds

-- the digits behind the point
abbrev pub fraction_of : Option (List ℕ) → List ℕ
fraction_of None = []
fraction_of (Some ds) = ds

-- the bytes of a number
abbrev pub number_text : NumberForm → List ℕ
number_text f = f.whole ++ fraction_bytes f.fraction ++ power_text f.power

-- digits stand on one side of the point at least
pub record IsNumberForm (f : NumberForm) : Type 0 where
  pub whole : list_all is_ascii_digit f.whole ≡ true
  pub fraction : list_all is_ascii_digit (fraction_of f.fraction) ≡ true
  pub some : 0 < length f.whole + length (fraction_of f.fraction)
  pub power : IsPowerPart f.power

-- the bytes are a number
pub record IsNumber (w : List ℕ) : Type 0 where
  pub form : NumberForm
  pub is : IsNumberForm form
  pub text : number_text form ≡ w

-- ---- symbols

-- the token beside a byte in a table
abbrev pub beside : ℕ → List (ℕ × Token) → Option Token
beside b [] = None
beside b (row ∷ rows) = if b == row.0 then Some row.1 else beside b rows

-- the symbols of one byte
abbrev pub one_byte_symbols : List (ℕ × Token)
one_byte_symbols =
    (59, tokens.Mark marks.Semicolon) ∷ (61, tokens.Mark marks.Equal) ∷ (58, tokens.Mark marks.Colon) ∷ (44, tokens.Mark marks.Comma)
    ∷ (40, tokens.Mark marks.Open) ∷ (41, tokens.Mark marks.Close)
    ∷ (43, tokens.Operator (operators.Sum Plus)) ∷ (45, tokens.Operator (operators.Sum Minus))
    ∷ (42, tokens.Operator (operators.Product Times)) ∷ (47, tokens.Operator (operators.Product Over))
    ∷ (60, tokens.Operator (operators.Compare compares.Less)) ∷ (62, tokens.Operator (operators.Compare compares.Greater))
    ∷ (38, tokens.Operator operators.And) ∷ (124, tokens.Operator operators.Or)
    ∷ (33, tokens.Not) ∷ (126, tokens.Not) ∷ []

-- the token that a byte is as a symbol
abbrev pub one_byte_symbol : ℕ → Option Token
one_byte_symbol b = beside b one_byte_symbols

-- the first bytes of the symbols whose second byte is `=`
abbrev pub equal_symbols : List (ℕ × Token)
equal_symbols =
    (61, tokens.Operator (operators.Compare compares.Equal)) ∷ (33, tokens.Operator (operators.Compare compares.Unequal))
    ∷ (60, tokens.Operator (operators.Compare compares.AtMost)) ∷ (62, tokens.Operator (operators.Compare compares.AtLeast)) ∷ []

-- the symbols of two bytes
abbrev pub two_byte_symbol : ℕ → ℕ → Option Token
two_byte_symbol a b = if b == 61 then beside a equal_symbols else None

-- the token that the bytes are as a symbol
abbrev pub symbol_token : List ℕ → Option Token
symbol_token [] = None
symbol_token (a ∷ []) = one_byte_symbol a
symbol_token (a ∷ b ∷ []) = two_byte_symbol a b
symbol_token (a ∷ b ∷ c ∷ rest) = None

-- ---- file places

-- letters, digits, `_`, `.`, `-` and `+`, one at least
abbrev pub is_run : List ℕ → Bool
is_run [] = false
is_run (b ∷ bs) = is_file_byte b && list_all is_file_byte bs

-- the bytes begin with one that may stand in a run
abbrev pub begins_run : List ℕ → Bool
begins_run [] = false
begins_run (b ∷ bs) = is_file_byte b

-- a run that is a file word where it begins as one, and may stand nowhere else
abbrev pub area_token : List ℕ → Token
area_token w = if begins_word w then tokens.File w else tokens.Stray

-- in an entry a run that is a decimal is a number
abbrev pub bound_token : List ℕ → Token
bound_token w = if is_some (decimal_of w) then tokens.Number w else area_token w

-- the run is this token in a file place
abbrev pub run_token : Mode → List ℕ → Token
run_token Bindings w = area_token w
run_token BoundFile w = bound_token w
run_token AreaFile w = area_token w
run_token Sections w = area_token w

-- ---- all places

-- the bytes are this token outside of file places
abbrev pub SpellsPlain : List ℕ → Token → Type 0
SpellsPlain w t = ((is_word_text w ≡ true) × (t ≡ word_token w)) ⊎ (IsNumber w × (t ≡ tokens.Number w)) ⊎ (symbol_token w ≡ Some t)

-- the bytes are this token in a file place
abbrev pub SpellsFile : Mode → List ℕ → Token → Type 0
SpellsFile mode w t = ((is_run w ≡ true) × (t ≡ run_token mode w)) ⊎ ((begins_run w ≡ false) × (symbol_token w ≡ Some t))

-- the bytes are this token in a place of this sort
abbrev pub Spells : Mode → List ℕ → Token → Type 0
Spells Bindings w t = SpellsPlain w t
Spells BoundFile w t = SpellsFile BoundFile w t
Spells AreaFile w t = SpellsFile AreaFile w t
Spells Sections w t = SpellsPlain w t

-- the sort of the next place: before `areamap` a file place comes behind `=`, and one comes behind `areamap`
abbrev pub mode_after : Mode → Token → Mode
mode_after Bindings (tokens.Mark marks.Equal) = BoundFile
mode_after Bindings (tokens.Key keys.Areamap) = AreaFile
mode_after Bindings _ = Bindings
mode_after BoundFile t = Bindings
mode_after AreaFile t = Sections
mode_after Sections t = Sections
