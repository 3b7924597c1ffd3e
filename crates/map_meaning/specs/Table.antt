-- The table of operations: the row of an operation, and the kinds that it allows.
use Rattle.std.specs.Prelude.{◌≡◌, ℕ, ◌-◌, ◌%◌, ◌<◌, nat_le, nat_lt, ◌==◌, Bool, true, false}
use Rattle.std.specs.Prelude.{◌&&◌, if◌then◌else◌, List, length, slice_index_or}
use Rattle.cell_values.specs.declared.kind.Kind.{Kind}
use Rattle.cell_values.specs.declared.kind.Kind.TheVariants.{Boolean, Nominal, Ordinal, Scalar, Directional, Ldd}
use Rattle.map_meaning.specs.declared.op.Op.{Op}
use Rattle.map_meaning.specs.declared.op.Op.TheVariants as op
use Rattle.map_meaning.specs.declared.row.Row.{Row}
use Rattle.map_meaning.specs.declared.row.Kinds.{Kinds}
use Rattle.map_meaning.specs.declared.row.Ask.{Ask}
use Rattle.map_meaning.specs.declared.row.Ask.TheVariants as ask
use Rattle.map_meaning.specs.declared.row.Given.{Given}
use Rattle.map_meaning.specs.declared.row.Given.TheVariants.{Always, Common, Same}
use Rattle.drain_meaning.specs.declared.op.FlowOp.{FlowOp}
use Rattle.drain_meaning.specs.declared.op.FlowOp.TheVariants as flow
use Rattle.drain_meaning.specs.declared.op.NearOp.TheVariants as near
use Rattle.map_meaning.specs.declared.table.TheConstants.{OPERATIONS, COPY, NO_ROW, MANY_OPERANDS}
use Rattle.map_meaning.specs.Rules.{kind_at}

-- the kinds are the same
abbrev pub is_kind : Kind → Kind → Bool
is_kind Boolean Boolean = true
is_kind Nominal Nominal = true
is_kind Ordinal Ordinal = true
is_kind Scalar Scalar = true
is_kind Directional Directional = true
is_kind Ldd Ldd = true
is_kind _ _ = false

-- the kind is one of these
abbrev pub has_kind : Kinds → Kind → Bool
has_kind kinds Boolean = kinds.boolean
has_kind kinds Nominal = kinds.nominal
has_kind kinds Ordinal = kinds.ordinal
has_kind kinds Scalar = kinds.scalar
has_kind kinds Directional = kinds.directional
has_kind kinds Ldd = kinds.ldd

-- the rows of the table of operations, in their order
unfoldable pub table_rows : List Row
table_rows = OPERATIONS

-- the row of the table at a place
abbrev pub line : ℕ → Row
line n = slice_index_or OPERATIONS n COPY

-- the row of an operation
unfoldable pub row_of : Op → Row
row_of op.CopyOf = COPY
row_of op.Add = line 0
row_of op.Sub = line 1
row_of op.Mul = line 2
row_of op.Div = line 3
row_of op.IntDiv = line 4
row_of op.IntMod = line 5
row_of op.Neg = line 6
row_of op.Abs = line 7
row_of op.RoundDown = line 8
row_of op.RoundUp = line 9
row_of op.RoundOff = line 10
row_of op.Min = line 11
row_of op.Max = line 12
row_of op.Equal = line 13
row_of op.NotEqual = line 14
row_of op.Less = line 15
row_of op.LessEqual = line 16
row_of op.Greater = line 17
row_of op.GreaterEqual = line 18
row_of op.And = line 19
row_of op.Or = line 20
row_of op.Xor = line 21
row_of op.Not = line 22
row_of op.IfThen = line 23
row_of op.IfElse = line 24
row_of op.Cover = line 25
row_of op.Defined = line 26
row_of op.ToBoolean = line 27
row_of op.ToNominal = line 28
row_of op.ToOrdinal = line 29
row_of op.ToScalar = line 30
row_of op.ToDirectional = line 31
row_of op.LookupBoolean = line 32
row_of op.LookupNominal = line 33
row_of op.LookupOrdinal = line 34
row_of op.LookupScalar = line 35
row_of op.LookupDirectional = line 36
row_of op.TimeInputBoolean = line 37
row_of op.TimeInputNominal = line 38
row_of op.TimeInputOrdinal = line 39
row_of op.TimeInputScalar = line 40
row_of op.TimeInputDirectional = line 41
row_of op.WindowTotal = line 45
row_of op.WindowAverage = line 46
row_of op.WindowMinimum = line 47
row_of op.WindowMaximum = line 48
row_of op.WindowDiversity = line 49
row_of op.WindowMajority = line 50
row_of op.AreaTotal = line 51
row_of op.AreaAverage = line 52
row_of op.AreaMinimum = line 53
row_of op.AreaMaximum = line 54
row_of op.AreaDiversity = line 55
row_of op.AreaMajority = line 56
row_of op.AreaArea = line 57
row_of op.MapTotal = line 58
row_of op.MapMinimum = line 59
row_of op.MapMaximum = line 60
row_of (op.Near near.Upstream) = line 61
row_of (op.Near near.Downstream) = line 62
row_of (op.Flow flow.Accuflux) = line 63
row_of (op.Flow flow.ThresholdFlux) = line 64
row_of (op.Flow flow.ThresholdState) = line 65
row_of (op.Flow flow.Catchment) = line 66
row_of (op.Flow _) = NO_ROW

-- the transport has a row of the table
abbrev pub is_transport : FlowOp → Bool
is_transport flow.Accuflux = true
is_transport flow.ThresholdFlux = true
is_transport flow.ThresholdState = true
is_transport flow.Catchment = true
is_transport _ = false

-- the operation has a row of the table, or is the copy of an operand
abbrev pub has_row : Op → Bool
has_row (op.Flow o) = is_transport o
has_row _ = true

-- the operation looks at windows
abbrev pub is_focal : Op → Bool
is_focal op.WindowTotal = true
is_focal op.WindowAverage = true
is_focal op.WindowMinimum = true
is_focal op.WindowMaximum = true
is_focal op.WindowDiversity = true
is_focal op.WindowMajority = true
is_focal _ = false

-- the operation goes along drain directions: its first operand is a drain map
abbrev pub goes_along_drains : Op → Bool
goes_along_drains (op.Near o) = true
goes_along_drains (op.Flow o) = true
goes_along_drains _ = false

-- a window's length: odd, and from 1 to 31
abbrev pub is_window_length : ℕ → Bool
is_window_length length = (length % 2 == 1) && nat_le length 31

-- the length of a window is asked, and no map
abbrev pub is_length : Ask → Bool
is_length ask.Length = true
is_length _ = false

-- the name of a table or of a series is asked, and no map
abbrev pub is_file : Ask → Bool
is_file (ask.Table kind) = true
is_file (ask.Series kind) = true
is_file _ = false

-- a row without its first operand
abbrev pub behind_file : Row → Row
behind_file row = record {
  word = row.word;
  meant = row.meant;
  first = row.second;
  second = row.further;
  further = row.further;
  least = row.least - 1;
  most = row.most - 1;
  gives = row.gives;
  stands = row.stands;
}

-- a row without its second operand
abbrev pub before_length : Row → Row
before_length row = record {
  word = row.word;
  meant = row.meant;
  first = row.first;
  second = row.further;
  further = row.further;
  least = row.least - 1;
  most = row.most - 1;
  gives = row.gives;
  stands = row.stands;
}

-- What a row asks of the operands that are maps: those behind the name of a table or of a series, or before the length of a
-- window.
abbrev pub map_row : Row → Row
map_row row = if is_file row.first then behind_file row else if is_length row.second then before_length row else row

-- what the operand at this place is asked
abbrev pub ask_at : Row → ℕ → Ask
ask_at row i = if i == 0 then row.first else if i == 1 then row.second else row.further

-- the operand is asked to agree with others
abbrev pub is_alike : Ask → Bool
is_alike (ask.Alike kinds) = true
is_alike _ = false

-- the place of the first operand that is asked to agree with others
abbrev pub first_alike : Row → ℕ
first_alike r = if is_alike (ask_at r 0) then 0 else if is_alike (ask_at r 1) then 1 else 2

-- the kind in which the operands agree
abbrev pub common_kind : Row → List Kind → Kind
common_kind row kinds = kind_at kinds (first_alike row)

-- an operand of this kind may stand where others agree in the first kind
abbrev pub allows : Kind → Ask → Kind → Bool
allows common (ask.Only asked) kind = is_kind asked kind
allows common (ask.One kinds) kind = has_kind kinds kind
allows common (ask.Alike kinds) kind = has_kind kinds kind && is_kind common kind
allows common _ kind = false

-- the kind of the result
abbrev pub given_kind : Given → Kind → List Kind → Kind
given_kind (Always kind) common kinds = kind
given_kind Common common kinds = common
given_kind (Same i) common kinds = kind_at kinds i

-- the row may be written with this many operands
abbrev pub takes : Row → ℕ → Bool
takes row count = nat_le row.least count && nat_le count row.most

-- One operation of the row has this many operands. Where the row may be written with any number, more than the least are
-- nested operations.
abbrev pub has_count : Row → ℕ → Bool
has_count row count = if nat_lt row.most MANY_OPERANDS then takes row count else (count == row.least)

-- the row allows operands of these kinds, from the first on, and then gives this kind
pub record HasKinds (row : Row) (kinds : List Kind) (kind : Kind) : Type 0 where
  pub count : has_count row (length kinds) ≡ true
  pub each : (i : ℕ) → i < length kinds → allows (common_kind row kinds) (ask_at row i) (kind_at kinds i) ≡ true
  pub gives : given_kind row.gives (common_kind row kinds) kinds ≡ kind
