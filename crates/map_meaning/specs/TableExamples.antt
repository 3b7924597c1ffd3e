-- Worked examples: the table of operations, a line for each row.
use Rattle.std.specs.Prelude.{◌≡◌, ℕ, ◌+◌, ◌==◌, nat_lt, Bool, true, false, ◌&&◌, not, if◌then◌else◌}
use Rattle.std.specs.Prelude.{List, [], ◌∷◌, ◌++◌, map, codes, zero, suc}
use Rattle.std.specs.List.{filter}
use Rattle.cell_values.specs.declared.kind.Kind.{Kind}
use Rattle.cell_values.specs.declared.kind.Kind.TheVariants.{Boolean, Nominal, Ordinal, Scalar, Directional, Ldd}
use Rattle.map_meaning.specs.declared.op.Op.{Op}
use Rattle.map_meaning.specs.declared.op.Op.TheVariants as op
use Rattle.map_meaning.specs.declared.row.Ask.{Ask}
use Rattle.map_meaning.specs.declared.row.Ask.TheVariants as ask
use Rattle.map_meaning.specs.declared.row.Given.{Given}
use Rattle.map_meaning.specs.declared.row.Given.TheVariants.{Always, Common, Same}
use Rattle.map_meaning.specs.declared.row.Kinds.{Kinds}
use Rattle.map_meaning.specs.declared.row.Meant.{Meant}
use Rattle.map_meaning.specs.declared.row.Meant.TheVariants as meant
use Rattle.map_meaning.specs.declared.row.Row.{Row}
use Rattle.map_meaning.specs.declared.row.Stands.{Stands}
use Rattle.map_meaning.specs.declared.row.Stands.TheVariants.{Anywhere, Dynamic, Sample, Mask}
use Rattle.map_meaning.specs.declared.table.TheConstants.{COPY, MANY_OPERANDS}
use Rattle.map_meaning.specs.Missing.{spreads_missing}
use Rattle.map_meaning.specs.Overs.{may_be_over}
use Rattle.map_meaning.specs.Table.{ask_at, goes_along_drains, is_focal, is_window_length, map_row, row_of, table_rows, takes}

-- a word without the blanks behind it
abbrev pub without_blanks : List ℕ → List ℕ
without_blanks [] = []
without_blanks (byte ∷ more) = if byte == 32 then [] else byte ∷ without_blanks more

-- the letter of a kind
abbrev pub letter : Kind → List ℕ
letter Boolean = codes "B"
letter Nominal = codes "N"
letter Ordinal = codes "O"
letter Scalar = codes "S"
letter Directional = codes "D"
letter Ldd = codes "L"

-- the letter of a kind that is there
abbrev pub letter_if : Bool → Kind → List ℕ
letter_if there kind = if there then letter kind else []

-- the letters of some kinds
abbrev pub letters : Kinds → List ℕ
letters kinds =
    letter_if kinds.boolean Boolean ++ letter_if kinds.nominal Nominal ++ letter_if kinds.ordinal Ordinal
    ++ letter_if kinds.scalar Scalar ++ letter_if kinds.directional Directional ++ letter_if kinds.ldd Ldd

-- what an operand is asked; `=` stands before the kinds of operands that agree
abbrev pub asked : Ask → List ℕ
asked (ask.Only kind) = letter kind
asked (ask.One kinds) = letters kinds
asked (ask.Alike kinds) = codes "=" ++ letters kinds
asked (ask.Table kind) = codes "table " ++ letter kind
asked (ask.Series kind) = codes "series " ++ letter kind
asked ask.Stack = codes "stack"
asked ask.Length = codes "length"

-- what so many operands are asked, from the one at a place on
abbrev pub asked_from : Row → ℕ → ℕ → List ℕ
asked_from row i zero = []
asked_from row i (suc zero) = asked (ask_at row i)
asked_from row i (suc (suc more)) = asked (ask_at row i) ++ codes ", " ++ asked_from row (i + 1) (suc more)

-- what further operands are asked, and how many there are at most in all
abbrev pub asked_behind : Row → List ℕ
asked_behind row =
    if nat_lt row.least row.most
    then codes ", " ++ asked row.further ++ codes " .." ++ (if row.most == MANY_OPERANDS then [] else ((row.most + 48) ∷ []))
    else []

-- the kind of the result: `=` for the one in which operands agree, a number for that of an operand, counted from 1
abbrev pub given_letter : Given → List ℕ
given_letter (Always kind) = letter kind
given_letter Common = codes "="
given_letter (Same i) = (i + 49) ∷ []

-- where a word may stand, where that is not anywhere
abbrev pub stands_where : Stands → List ℕ
stands_where Anywhere = []
stands_where Dynamic = codes " dynamic"
stands_where Sample = codes " sample"
stands_where Mask = codes " mask"

-- what a word means, where that is no operation
abbrev pub means_what : Meant → List ℕ
means_what (meant.Op o) = []
means_what meant.Step = codes ": the step"
means_what meant.Stack = codes ": a stack"
means_what meant.Sample = codes ": a series"
means_what meant.Mask = codes ": a mask"

-- a row in one line
abbrev pub line_of_row : Row → List ℕ
line_of_row one =
    without_blanks one.word ++ codes "(" ++ asked_from one 0 one.least ++ asked_behind one ++ codes ") " ++ given_letter one.gives
    ++ stands_where one.stands ++ means_what one.meant

-- a word means an operation that passes a test
abbrev pub means_one : (Op → Bool) → Meant → Bool
means_one test (meant.Op o) = test o
means_one test _ = false

-- the words of the operations that pass a test and have more than so many operands over maps
abbrev pub words_where : ℕ → (Op → Bool) → List (List ℕ)
words_where i test =
    map (λ row. without_blanks row.word) (filter (λ row. means_one test row.meant && nat_lt i (map_row row).least) table_rows)

-- the table, line by line
pub record TableExamples : Type 0 where
  pub rows : map line_of_row table_rows
      ≡ codes "+(S, S) S" ∷ codes "-(S, S) S" ∷ codes "*(S, S) S" ∷ codes "/(S, S) S" ∷ codes "idiv(S, S) S" ∷ codes "mod(S, S) S"
      ∷ codes "-(S) S" ∷ codes "abs(S) S" ∷ codes "rounddown(S) S" ∷ codes "roundup(S) S" ∷ codes "roundoff(S) S"
      ∷ codes "min(=OS, =OS, =OS ..) =" ∷ codes "max(=OS, =OS, =OS ..) ="
      ∷ codes "==(=BNOSD, =BNOSD) B" ∷ codes "!=(=BNOSD, =BNOSD) B"
      ∷ codes "<(=OS, =OS) B" ∷ codes "<=(=OS, =OS) B" ∷ codes ">(=OS, =OS) B" ∷ codes ">=(=OS, =OS) B"
      ∷ codes "and(B, B) B" ∷ codes "or(B, B) B" ∷ codes "xor(B, B) B" ∷ codes "not(B) B"
      ∷ codes "if(B, BNOSD) 2" ∷ codes "if(B, =BNOSD, =BNOSD) =" ∷ codes "cover(=BNOSD, =BNOSD, =BNOSD ..) ="
      ∷ codes "defined(BNOSDL) B"
      ∷ codes "boolean(BNOS) B" ∷ codes "nominal(BNOSL) N" ∷ codes "ordinal(BNOSL) O" ∷ codes "scalar(BNOSDL) S" ∷ codes "directional(SD) D"
      ∷ codes "lookupboolean(table B, BNOSD, BNOSD ..5) B"
      ∷ codes "lookupnominal(table N, BNOSD, BNOSD ..5) N"
      ∷ codes "lookupordinal(table O, BNOSD, BNOSD ..5) O"
      ∷ codes "lookupscalar(table S, BNOSD, BNOSD ..5) S"
      ∷ codes "lookupdirectional(table D, BNOSD, BNOSD ..5) D"
      ∷ codes "timeinputboolean(series B, BNO) B dynamic"
      ∷ codes "timeinputnominal(series N, BNO) N dynamic"
      ∷ codes "timeinputordinal(series O, BNO) O dynamic"
      ∷ codes "timeinputscalar(series S, BNO) S dynamic"
      ∷ codes "timeinputdirectional(series D, BNO) D dynamic"
      ∷ codes "timeinput(stack) 1 dynamic: a stack" ∷ codes "time() S dynamic: the step" ∷ codes "timeoutput(BNO, BNOSD) 2 sample: a series"
      ∷ codes "windowtotal(S, length) S" ∷ codes "windowaverage(S, length) S"
      ∷ codes "windowminimum(OS, length) 1" ∷ codes "windowmaximum(OS, length) 1"
      ∷ codes "windowdiversity(BNO, length) S" ∷ codes "windowmajority(BNO, length) 1"
      ∷ codes "areatotal(S, BNO) S" ∷ codes "areaaverage(S, BNO) S" ∷ codes "areaminimum(OS, BNO) 1" ∷ codes "areamaximum(OS, BNO) 1"
      ∷ codes "areadiversity(BNO, BNO) S" ∷ codes "areamajority(BNO, BNO) 1" ∷ codes "areaarea(BNO) S"
      ∷ codes "maptotal(S) S" ∷ codes "mapminimum(OS) 1" ∷ codes "mapmaximum(OS) 1"
      ∷ codes "upstream(L, S) S" ∷ codes "downstream(L, S) S"
      ∷ codes "accuflux(L, S) S" ∷ codes "accuthresholdflux(L, S, S) S" ∷ codes "accuthresholdstate(L, S, S) S"
      ∷ codes "catchment(L, BNO) 2"
      ∷ codes "lddmask(L, B) L mask: a mask"
      ∷ []
  -- the operations of which the first operand may be missing and the result be there, and those of which the second and the third may
  pub first_missing : words_where 0 (λ o. not (spreads_missing o 0))
      ≡ codes "cover" ∷ codes "defined"
      ∷ codes "windowtotal" ∷ codes "windowaverage" ∷ codes "windowminimum" ∷ codes "windowmaximum" ∷ codes "windowdiversity"
      ∷ codes "windowmajority" ∷ codes "areatotal" ∷ codes "areaaverage" ∷ codes "areaminimum" ∷ codes "areamaximum"
      ∷ codes "areadiversity" ∷ codes "areamajority" ∷ codes "maptotal" ∷ codes "mapminimum" ∷ codes "mapmaximum"
      ∷ []
  pub second_missing : words_where 1 (λ o. not (spreads_missing o 1))
      ≡ codes "if" ∷ codes "cover" ∷ codes "upstream" ∷ codes "downstream" ∷ []
  pub third_missing : words_where 2 (λ o. not (spreads_missing o 2)) ≡ codes "if" ∷ []
  -- those of which the result may be out of range
  pub out_of_range : words_where 0 may_be_over
      ≡ codes "+" ∷ codes "-" ∷ codes "*" ∷ codes "/" ∷ codes "idiv" ∷ codes "nominal" ∷ codes "ordinal" ∷ codes "windowtotal"
      ∷ codes "areatotal" ∷ codes "maptotal" ∷ codes "upstream" ∷ codes "accuflux" ∷ codes "accuthresholdflux"
      ∷ []
  -- those over windows, and those along drain directions
  pub windows : words_where 0 is_focal
      ≡ codes "windowtotal" ∷ codes "windowaverage" ∷ codes "windowminimum" ∷ codes "windowmaximum" ∷ codes "windowdiversity"
      ∷ codes "windowmajority"
      ∷ []
  pub along_drains : words_where 0 goes_along_drains
      ≡ codes "upstream" ∷ codes "downstream" ∷ codes "accuflux" ∷ codes "accuthresholdflux" ∷ codes "accuthresholdstate"
      ∷ codes "catchment"
      ∷ []
  -- the copy has no word
  pub copy : line_of_row COPY ≡ codes "(BNOSD) 1"
  -- a statement has 256 operands at most
  pub many : takes (row_of op.Min) 256 ≡ true
  -- the length of a window is odd, and from 1 to 31
  pub lengths : map is_window_length (0 ∷ 1 ∷ 2 ∷ 30 ∷ 31 ∷ 32 ∷ 33 ∷ []) ≡ false ∷ true ∷ false ∷ false ∷ true ∷ false ∷ false ∷ []
