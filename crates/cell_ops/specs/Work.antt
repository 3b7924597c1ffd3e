-- What is computed at a place.
use Rattle.std.specs.Prelude.{◌≡◌, ℕ, ◌<◌, Bool, true, false, List, [], Option, Some, None, Ok, ⊤}
use Rattle.cell_values.specs.declared.kind.Kind.{Kind}
use Rattle.cell_values.specs.declared.kind.Kind.TheVariants.{Boolean, Nominal, Ordinal, Scalar, Directional}
use Rattle.cell_values.specs.declared.cell.Cell.{Cell}
use Rattle.cell_values.specs.declared.cell.Cell.TheVariants.{Mv}
use Rattle.cell_values.specs.Conversion.{IsConversion, conversion_of}
use Rattle.tile_map.specs.Parts.{Outcome}
use Rattle.map_meaning.specs.declared.op.Op.{Op}
use Rattle.map_meaning.specs.declared.op.Op.TheVariants.{CopyOf, Add, Sub, Mul, Div, IntDiv, IntMod, Neg, Abs, RoundDown, RoundUp}
use Rattle.map_meaning.specs.declared.op.Op.TheVariants.{RoundOff, Min, Max, Equal, NotEqual, Less, LessEqual, Greater, GreaterEqual}
use Rattle.map_meaning.specs.declared.op.Op.TheVariants.{And, Or, Xor, Not, IfThen, IfElse, Cover, Defined}
use Rattle.map_meaning.specs.declared.op.Op.TheVariants.{ToBoolean, ToNominal, ToOrdinal, ToScalar, ToDirectional}
use Rattle.map_meaning.specs.declared.op.Op.TheVariants.{LookupBoolean, LookupNominal, LookupOrdinal, LookupScalar, LookupDirectional}
use Rattle.map_meaning.specs.declared.op.Op.TheVariants.{TimeInputBoolean, TimeInputNominal, TimeInputOrdinal, TimeInputScalar}
use Rattle.map_meaning.specs.declared.op.Op.TheVariants.{TimeInputDirectional}
use Rattle.map_meaning.specs.Local.{lookup_of, timeinput_of}
use Rattle.map_meaning.specs.Maps.{CellAt}
use Rattle.map_meaning.specs.Rules.{Rule, Local, Setting, kind_at, of_kinds, operand_at, outcome_of, rule_of}
use Rattle.cell_ops.specs.declared.work.CellWork.{CellWork}
use Rattle.cell_ops.specs.declared.work.CellWork.TheVariants.{Plain, Convert, Lookup, SeriesAt}

-- what a rule gives of four cells at a place; one that looks at other places gives nothing of them
abbrev pub of_cells : Rule → Setting → Cell → Cell → Cell → Cell → Outcome
of_cells (Local f) setting a b c d = f setting a b c d
of_cells _ setting a b c d = Ok Mv

-- what a work gives of its operands' cells at one place
unfoldable pub work_outcome : CellWork → Cell → Cell → Cell → Cell → Outcome
work_outcome (Plain op) a b c d = of_cells (rule_of op) (of_kinds []) a b c d
work_outcome (Convert from to) a b c d = conversion_of from to a
work_outcome (Lookup table keys) a b c d = lookup_of table.now keys a b c d
work_outcome (SeriesAt series step) a b c d = timeinput_of series.now step a

-- the operation looks at nothing but its operands' cells
abbrev pub is_plain : Op → Bool
is_plain CopyOf = true
is_plain Add = true
is_plain Sub = true
is_plain Mul = true
is_plain Div = true
is_plain IntDiv = true
is_plain IntMod = true
is_plain Neg = true
is_plain Abs = true
is_plain RoundDown = true
is_plain RoundUp = true
is_plain RoundOff = true
is_plain Min = true
is_plain Max = true
is_plain Equal = true
is_plain NotEqual = true
is_plain Less = true
is_plain LessEqual = true
is_plain Greater = true
is_plain GreaterEqual = true
is_plain And = true
is_plain Or = true
is_plain Xor = true
is_plain Not = true
is_plain IfThen = true
is_plain IfElse = true
is_plain Cover = true
is_plain Defined = true
is_plain _ = false

-- the work is one that there is
abbrev pub IsWork : CellWork → Type 0
IsWork (Plain op) = is_plain op ≡ true
IsWork (Convert from to) = IsConversion from to
IsWork (Lookup table keys) = ⊤
IsWork (SeriesAt series step) = ⊤

-- the kind that an operation converts to, if it does
abbrev pub converts_to : Op → Option Kind
converts_to ToBoolean = Some Boolean
converts_to ToNominal = Some Nominal
converts_to ToOrdinal = Some Ordinal
converts_to ToScalar = Some Scalar
converts_to ToDirectional = Some Directional
converts_to op = None

-- the operation looks its results up in a table
abbrev pub is_lookup : Op → Bool
is_lookup LookupBoolean = true
is_lookup LookupNominal = true
is_lookup LookupOrdinal = true
is_lookup LookupScalar = true
is_lookup LookupDirectional = true
is_lookup op = false

-- the operation looks its results up in a series
abbrev pub is_timeinput : Op → Bool
is_timeinput TimeInputBoolean = true
is_timeinput TimeInputNominal = true
is_timeinput TimeInputOrdinal = true
is_timeinput TimeInputScalar = true
is_timeinput TimeInputDirectional = true
is_timeinput op = false

-- The work is that of an operation that is told this: of the kinds of its operands, the step, the table, the series.
abbrev pub IsWorkOf : CellWork → Op → Setting → Type 0
IsWorkOf (Plain plain) op setting = (plain ≡ op) × (is_plain op ≡ true)
IsWorkOf (Convert from to) op setting = (converts_to op ≡ Some to) × (from ≡ kind_at setting.kinds 0)
IsWorkOf (Lookup table keys) op setting =
    (is_lookup op ≡ true) × (table.now ≡ setting.table) × ((i : ℕ) → i < 4 → kind_at keys i ≡ kind_at setting.kinds i)
IsWorkOf (SeriesAt series step) op setting = (is_timeinput op ≡ true) × (series.now ≡ setting.series) × (step ≡ setting.step)

-- the work of an operation gives what the operation means
abbrev pub GiveTheMeaning : Type 0
GiveTheMeaning =
    (work : CellWork) (op : Op) (setting : Setting) (operands : List CellAt) (place : ℕ) → IsWorkOf work op setting →
    outcome_of op setting operands place
    ≡ work_outcome work (operand_at operands 0 place) (operand_at operands 1 place)
    (operand_at operands 2 place) (operand_at operands 3 place)
