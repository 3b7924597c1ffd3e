-- What each operation makes of its operands: the table of values.
use Rattle.std.specs.Prelude.{ℕ, ◌*◌, ◌-◌, ◌/◌, pos, List, [], slice_index_or, Ok}
use Rattle.cell_values.specs.declared.kind.Kind.{Kind}
use Rattle.cell_values.specs.declared.kind.Kind.TheVariants.{Boolean, Nominal, Ordinal, Scalar, Directional}
use Rattle.cell_values.specs.declared.cell.Cell.{Cell}
use Rattle.cell_values.specs.declared.cell.Cell.TheVariants.{Val}
use Rattle.cell_values.specs.Arithmetic.{scalar_sum, scalar_difference, scalar_product}
use Rattle.cell_values.specs.Arithmetic.{scalar_quotient, scalar_whole_quotient, scalar_remainder}
use Rattle.cell_values.specs.Conversion.{conversion_of}
use Rattle.lookup_table.specs.Form.{TableValue}
use Rattle.time_series.specs.Form.{SeriesValue}
use Rattle.tile_map.specs.Cuts.{cell_at}
use Rattle.tile_map.specs.Parts.{Outcome, tabulate}
use Rattle.region_meaning.specs.declared.area.AreaOp.{AreaOp}
use Rattle.region_meaning.specs.declared.area.AreaOp.TheVariants as area
use Rattle.region_meaning.specs.declared.window.WindowOp.{WindowOp}
use Rattle.region_meaning.specs.declared.window.WindowOp.TheVariants as window
use Rattle.region_meaning.specs.AreaResults.{area_outcome}
use Rattle.region_meaning.specs.Areas.{AreaPlace}
use Rattle.region_meaning.specs.Windows.{window_outcome}
use Rattle.drain_meaning.specs.declared.op.FlowOp.{FlowOp}
use Rattle.drain_meaning.specs.declared.op.NearOp.{NearOp}
use Rattle.drain_meaning.specs.Drains.{DrainMap}
use Rattle.drain_meaning.specs.Equations.{transport_of}
use Rattle.drain_meaning.specs.Near.{near_outcome}
use Rattle.drain_meaning.specs.Transports.{transport_outcome}
use Rattle.map_meaning.specs.declared.op.Op.{Op}
use Rattle.map_meaning.specs.declared.op.Op.TheVariants as op
use Rattle.map_meaning.specs.Maps.{CellAt, WholeMap, nowhere}
use Rattle.map_meaning.specs.Local as value

-- What an operation is told beside its operands: their kinds, from the first on, the size of the maps, the step, what it
-- looks its results up in, where it does, and the length of its window, where it has one.
pub record Setting : Type 0 where
  pub kinds : List Kind
  pub rows : ℕ
  pub cols : ℕ
  pub step : ℕ
  pub table : TableValue
  pub series : SeriesValue
  pub window : ℕ

-- no table: one without rows
abbrev pub no_table : TableValue
no_table = record { keys = 0; kind = Scalar; rows = [] }

-- no series: one without rows
abbrev pub no_series : SeriesValue
no_series = record { kind = Scalar; rows = [] }

-- what an operation is told that looks at nothing but operands of these kinds
abbrev pub of_kinds : List Kind → Setting
of_kinds kinds =
    record { kinds = kinds; rows = 0; cols = 0; step = 0; table = no_table; series = no_series; window = 0 }

-- the kind of the operand at a place of the list
abbrev pub kind_at : List Kind → ℕ → Kind
kind_at kinds i = slice_index_or kinds i Scalar

-- What an operation looks at, with what it makes of it.
pub data Rule : Type 0 where
  -- its operands' cells at the place alone
  Local : (Setting → Cell → Cell → Cell → Cell → Outcome) → Rule
  -- the window of the place
  Focal : WindowOp → Rule
  -- the area of the place's class, which is told by the second operand
  Zonal : AreaOp → Rule
  -- the number of cells of the place's class, which is told by the one operand
  ZoneSize : Rule
  -- the whole map
  Global : AreaOp → Rule
  -- the cells one step up or down stream, along the drain map that is the first operand
  Near : NearOp → Rule
  -- what is transported along the drain map that is the first operand
  Along : FlowOp → Rule

-- a local rule of one operand
abbrev pub one : (Cell → Outcome) → Rule
one f = Local (λ setting a b c d. f a)

-- a local rule of two operands
abbrev pub two : (Cell → Cell → Outcome) → Rule
two f = Local (λ setting a b c d. f a b)

-- a local rule of three operands
abbrev pub three : (Cell → Cell → Cell → Outcome) → Rule
three f = Local (λ setting a b c d. f a b c)

-- the conversion of one operand to a kind
abbrev pub converting : Kind → Rule
converting to = Local (λ setting a b c d. conversion_of (kind_at setting.kinds 0) to a)

-- the value of the table at the operands
abbrev pub looking_up : Rule
looking_up = Local (λ setting a b c d. value.lookup_of setting.table setting.kinds a b c d)

-- the cell of the series in the row of the step
abbrev pub at_step : Rule
at_step = Local (λ setting a b c d. value.timeinput_of setting.series setting.step a)

-- the rule of each operation
unfoldable pub rule_of : Op → Rule
rule_of op.CopyOf = one value.copy_of
rule_of op.Add = two scalar_sum
rule_of op.Sub = two scalar_difference
rule_of op.Mul = two scalar_product
rule_of op.Div = two scalar_quotient
rule_of op.IntDiv = two scalar_whole_quotient
rule_of op.IntMod = two (λ a b. Ok (scalar_remainder a b))
rule_of op.Neg = one value.negative_of
rule_of op.Abs = one value.abs_of
rule_of op.RoundDown = one value.rounddown_of
rule_of op.RoundUp = one value.roundup_of
rule_of op.RoundOff = one value.roundoff_of
rule_of op.Min = two value.min_of
rule_of op.Max = two value.max_of
rule_of op.Equal = two value.equal_of
rule_of op.NotEqual = two value.unequal_of
rule_of op.Less = two value.less_of
rule_of op.LessEqual = two value.less_equal_of
rule_of op.Greater = two value.greater_of
rule_of op.GreaterEqual = two value.greater_equal_of
rule_of op.And = two value.and_of
rule_of op.Or = two value.or_of
rule_of op.Xor = two value.xor_of
rule_of op.Not = one value.not_of
rule_of op.IfThen = two value.if_then_of
rule_of op.IfElse = three value.if_else_of
rule_of op.Cover = two value.cover_of
rule_of op.Defined = one value.defined_of
rule_of op.ToBoolean = converting Boolean
rule_of op.ToNominal = converting Nominal
rule_of op.ToOrdinal = converting Ordinal
rule_of op.ToScalar = converting Scalar
rule_of op.ToDirectional = converting Directional
rule_of op.LookupBoolean = looking_up
rule_of op.LookupNominal = looking_up
rule_of op.LookupOrdinal = looking_up
rule_of op.LookupScalar = looking_up
rule_of op.LookupDirectional = looking_up
rule_of op.TimeInputBoolean = at_step
rule_of op.TimeInputNominal = at_step
rule_of op.TimeInputOrdinal = at_step
rule_of op.TimeInputScalar = at_step
rule_of op.TimeInputDirectional = at_step
rule_of op.WindowTotal = Focal window.Total
rule_of op.WindowAverage = Focal window.Average
rule_of op.WindowMinimum = Focal window.Minimum
rule_of op.WindowMaximum = Focal window.Maximum
rule_of op.WindowDiversity = Focal window.Diversity
rule_of op.WindowMajority = Focal window.Majority
rule_of op.AreaTotal = Zonal area.Total
rule_of op.AreaAverage = Zonal area.Average
rule_of op.AreaMinimum = Zonal area.Minimum
rule_of op.AreaMaximum = Zonal area.Maximum
rule_of op.AreaDiversity = Zonal area.Diversity
rule_of op.AreaMajority = Zonal area.Majority
rule_of op.AreaArea = ZoneSize
rule_of op.MapTotal = Global area.Total
rule_of op.MapMinimum = Global area.Minimum
rule_of op.MapMaximum = Global area.Maximum
rule_of (op.Near o) = Near o
rule_of (op.Flow o) = Along o

-- the operand at a place of the list, by its places; none is missing everywhere
abbrev pub operand_at : List CellAt → ℕ → CellAt
operand_at operands i = slice_index_or operands i nowhere

-- how many places a map has
abbrev pub setting_places : Setting → ℕ
setting_places setting = setting.rows * setting.cols

-- how far a window of this length reaches from its middle
abbrev pub reach_of : ℕ → ℕ
reach_of length = (length - 1) / 2

-- all places of a map, each with the cell of its value and that of its class
abbrev pub zone_places : Setting → CellAt → CellAt → List AreaPlace
zone_places setting values classes = tabulate (λ place. record { value = values place; area = classes place }) (setting_places setting)

-- one class, or one value, at each place
abbrev pub alike : ℕ → CellAt
alike number place = Val (pos number)

-- an operand as a whole map
abbrev pub whole_by : Setting → CellAt → WholeMap
whole_by setting operand = tabulate operand (setting_places setting)

-- the drain map with these codes
abbrev pub drain_by : Setting → CellAt → DrainMap
drain_by setting codes = record { rows = setting.rows; cols = setting.cols; codes = whole_by setting codes }

-- What a rule gives at a place, from its operands. What is transported has the kind of the second operand.
abbrev pub by_rule : Rule → Setting → List CellAt → ℕ → Outcome
by_rule (Local f) setting operands place =
    f setting (operand_at operands 0 place) (operand_at operands 1 place) (operand_at operands 2 place) (operand_at operands 3 place)
by_rule (Focal o) setting operands place =
    window_outcome o setting.rows setting.cols (reach_of setting.window) (whole_by setting (operand_at operands 0)) place
by_rule (Zonal o) setting operands place =
    area_outcome o (zone_places setting (operand_at operands 0) (operand_at operands 1)) (operand_at operands 1 place)
by_rule ZoneSize setting operands place =
    area_outcome area.Area (zone_places setting (alike 0) (operand_at operands 0)) (operand_at operands 0 place)
by_rule (Global o) setting operands place =
    area_outcome o (zone_places setting (operand_at operands 0) (alike 1)) (alike 1 place)
by_rule (Near o) setting operands place =
    near_outcome o (drain_by setting (operand_at operands 0)) (cell_at (whole_by setting (operand_at operands 1))) place
by_rule (Along o) setting operands place =
    transport_outcome (transport_of o) (kind_at setting.kinds 1) (drain_by setting (operand_at operands 0))
    (cell_at (whole_by setting (operand_at operands 1))) (cell_at (whole_by setting (operand_at operands 2))) place

-- what an operation gives at a place, from its operands: a cell, or Over
abbrev pub outcome_of : Op → Setting → List CellAt → ℕ → Outcome
outcome_of o = by_rule (rule_of o)
