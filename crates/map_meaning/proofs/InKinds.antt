-- The results of operations on cells, and the kinds that they lie in.
use Rattle.std.proofs.Common.{◌≡◌, ℕ, zero, suc, ◌<◌, ◌≤◌, ◌&&◌, Bool, true, false, List, [], ◌∷◌, length, refl, sym, ◌∙◌, subst, Ok, Err, cond, arith}
use Rattle.std.specs.Prelude.{All, IfOk, Option, None, Some, option_map, slice_index_or, ℤ, pos, negsuc, ◌-ℤ◌, ◌*ℤ◌, int_div, int_rem, unsigned_abs, ◌==◌, nat_le, int_le, int_lt, not, ◌||◌, ◌+ℤ◌, neg_ℤ}
use Rattle.std.proofs.Math.Nat.{mod-le}
use Rattle.std.proofs.lemmas.Int.{ints, quot-rem}
use Rattle.std.specs.Ordering.{int_eq}
use Rattle.std.proofs.lemmas.Bool.{and_parts}
use Rattle.cell_values.specs.declared.kind.Kind.{Kind}
use Rattle.cell_values.specs.declared.kind.Kind.TheVariants.{Boolean, Nominal, Ordinal, Scalar, Directional}
use Rattle.cell_values.specs.declared.cell.Cell.{Cell}
use Rattle.cell_values.specs.declared.cell.Cell.TheVariants.{Mv, Val}
use Rattle.cell_values.specs.Kinds.{IsCell, IsValue, cell_of_number, is_value}
use Rattle.cell_values.specs.Arithmetic.{at_cells, divided_cells, scalar_remainder}
use Rattle.cell_values.specs.Rounding.{cut_quotient, nearest, nearest_quotient}
use Rattle.map_meaning.specs.Whole.{whole_above, whole_below, whole_nearest}
use Rattle.cell_values.specs.Conversion.{conversion_of, converted}
use Rattle.cell_values.proofs.Readings.{value-from_test}
use Rattle.std.specs.List.{find}
use Rattle.lookup_table.specs.Form.{TableRow, TableValue, result_of}
use Rattle.lookup_table.specs.Keys.{all_lie_in}
use Rattle.time_series.specs.declared.row.SeriesRow.{SeriesRow}
use Rattle.time_series.specs.Form.{SeriesValue}
use Rattle.time_series.specs.Values.{cell_in_column, cell_in_row, cells_at}
use Rattle.tile_map.specs.Parts.{Outcome}
use Rattle.region_meaning.specs.declared.area.AreaOp.TheVariants as area
use Rattle.region_meaning.specs.declared.window.WindowOp.TheVariants as window
use Rattle.region_meaning.specs.Areas.{AreaPlace}
use Rattle.region_meaning.proofs.Callers.{area_outcome-of_kind, area_outcome-scalar, length-tabulate, tabulate-all, window_outcome-of_kind, window_outcome-scalar}
use Rattle.drain_meaning.specs.declared.flow.Flow.{Flow}
use Rattle.drain_meaning.specs.declared.flow.Flow.TheVariants as flow
use Rattle.drain_meaning.specs.declared.op.FlowOp.TheVariants as flows
use Rattle.drain_meaning.specs.declared.op.NearOp.TheVariants as near
use Rattle.drain_meaning.specs.Drains.{next_at}
use Rattle.drain_meaning.specs.Equations.{transport_of}
use Rattle.drain_meaning.specs.Flows.{flow_outcome}
use Rattle.drain_meaning.specs.Near.{near_flow, near_outcome}
use Rattle.drain_meaning.specs.Transports.{transported, where_directed}
use Rattle.tile_map.specs.Cuts.{cell_at}
use Rattle.text_base.specs.Limits.{most_cells}
use Rattle.map_meaning.specs.declared.op.Op.{Op}
use Rattle.map_meaning.specs.declared.op.Op.TheVariants as op
use Rattle.map_meaning.specs.Laws.{AreMapsOfKinds, HoldsKind, LiesIn}
use Rattle.map_meaning.specs.Local.{timeinput_of, further_key, key_number, value_at_keys, compared, cover_of, defined_of, if_else_of, if_then_of, is_either, is_one, truth}
use Rattle.map_meaning.specs.Maps.{CellAt}
use Rattle.map_meaning.specs.Missing.{at_cell}
use Rattle.map_meaning.specs.Programs.{file_role}
use Rattle.map_meaning.specs.Spans.{HasSeriesKind, HasTableKind}
use Rattle.map_meaning.specs.Rules.{Setting, alike, drain_by, kind_at, operand_at, outcome_of, reach_of, rule_of, setting_places, whole_by, zone_places}
use Rattle.map_meaning.specs.Table.{HasKinds, is_kind, map_row, row_of}
use Rattle.map_meaning.proofs.Callers.{same_kind}

-- ---- outcomes by their form

-- a number that is tested for its kind
tested : (kind : Kind) (z : ℤ) (b : Bool) → is_value kind z ≡ b → LiesIn kind (cond b (Ok (Val z)) (Err (record {})))
tested kind z true h = value-from_test kind z h
tested kind z false h = tt

of_number : (kind : Kind) (z : ℤ) → LiesIn kind (cell_of_number kind z)
of_number kind z = tested kind z (is_value kind z) refl

-- an operation on one number
of_cell : (kind : Kind) (f : ℤ → Outcome) → ((a : ℤ) → LiesIn kind (f a)) → (x : Cell) → LiesIn kind (at_cell f x)
of_cell kind f h Mv = tt
of_cell kind f h (Val a) = h a

-- an operation on two numbers
of_cells : (kind : Kind) (f : ℤ → ℤ → Outcome) → ((a b : ℤ) → LiesIn kind (f a b)) → (x y : Cell) → LiesIn kind (at_cells f x y)
of_cells kind f h Mv y = tt
of_cells kind f h (Val a) Mv = tt
of_cells kind f h (Val a) (Val b) = h a b

-- a choice of two outcomes
of_choice : (kind : Kind) (x y : Outcome) (b : Bool) → LiesIn kind x → LiesIn kind y → LiesIn kind (cond b x y)
of_choice kind x y true hx hy = hx
of_choice kind x y false hx hy = hy

-- a choice of two cells
of_cell_choice : (kind : Kind) (x y : Cell) (b : Bool) → IsCell kind x → IsCell kind y → IsCell kind (cond b x y)
of_cell_choice kind x y true hx hy = hx
of_cell_choice kind x y false hx hy = hy

-- a division of two numbers
of_division : (kind : Kind) (f : ℤ → ℤ → Outcome) → ((a b : ℤ) → LiesIn kind (f a b)) → (x y : Cell) → LiesIn kind (divided_cells f x y)
of_division kind f h = of_cells kind (λ a b. cond (int_eq b (pos 0)) (Ok Mv) (f a b)) (λ a b. of_choice kind (Ok Mv) (f a b) (int_eq b (pos 0)) tt (h a b))

-- operations on numbers whose results are tested as scalars
of_one : (f : ℤ → ℤ) (x : Cell) → LiesIn Scalar (at_cell (λ a. cell_of_number Scalar (f a)) x)
of_one f = of_cell Scalar (λ a. cell_of_number Scalar (f a)) (λ a. of_number Scalar (f a))

of_numbers : (f : ℤ → ℤ → ℤ) (x y : Cell) → LiesIn Scalar (at_cells (λ a b. cell_of_number Scalar (f a b)) x y)
of_numbers f = of_cells Scalar (λ a b. cell_of_number Scalar (f a b)) (λ a b. of_number Scalar (f a b))

of_divided : (f : ℤ → ℤ → ℤ) (x y : Cell) → LiesIn Scalar (divided_cells (λ a b. cell_of_number Scalar (f a b)) x y)
of_divided f = of_division Scalar (λ a b. cell_of_number Scalar (f a b)) (λ a b. of_number Scalar (f a b))

-- a boolean
of_truth : (b : Bool) → IsCell Boolean (truth b)
of_truth true = value-from_test Boolean (pos 1) refl
of_truth false = value-from_test Boolean (pos 0) refl

-- a comparison
of_comparison : (holds : ℤ → ℤ → Bool) (x y : Cell) → LiesIn Boolean (compared holds x y)
of_comparison holds = of_cells Boolean (λ a b. Ok (truth (holds a b))) (λ a b. of_truth (holds a b))

-- a conversion
of_conversion : (from to : Kind) (x : Cell) → LiesIn to (conversion_of from to x)
of_conversion from to Mv = tt
of_conversion from to (Val z) = of_number to (converted from to z)

-- the least and the greatest of two
of_least : (kind : Kind) (x y : Cell) → IsCell kind x → IsCell kind y → LiesIn kind (at_cells (λ a b. Ok (Val (cond (int_le a b) a b))) x y)
of_least kind Mv y hx hy = tt
of_least kind (Val a) Mv hx hy = tt
of_least kind (Val a) (Val b) hx hy = which (int_le a b)
  where
    which : (t : Bool) → IsCell kind (Val (cond t a b))
    which true = hx
    which false = hy

of_greatest : (kind : Kind) (x y : Cell) → IsCell kind x → IsCell kind y → LiesIn kind (at_cells (λ a b. Ok (Val (cond (int_le a b) b a))) x y)
of_greatest kind Mv y hx hy = tt
of_greatest kind (Val a) Mv hx hy = tt
of_greatest kind (Val a) (Val b) hx hy = which (int_le a b)
  where
    which : (t : Bool) → IsCell kind (Val (cond t b a))
    which true = hy
    which false = hx

-- the choices
of_if_then : (kind : Kind) (c x : Cell) → IsCell kind x → LiesIn kind (if_then_of c x)
of_if_then kind Mv x hx = tt
of_if_then kind (Val c) x hx = of_cell_choice kind x Mv (is_one c) hx tt

of_if_else : (kind : Kind) (c x y : Cell) → IsCell kind x → IsCell kind y → LiesIn kind (if_else_of c x y)
of_if_else kind Mv x y hx hy = tt
of_if_else kind (Val c) x y hx hy = of_cell_choice kind x y (is_one c) hx hy

of_cover : (kind : Kind) (x y : Cell) → IsCell kind x → IsCell kind y → LiesIn kind (cover_of x y)
of_cover kind Mv y hx hy = hy
of_cover kind (Val a) y hx hy = hx

-- a test on what is defined
of_defined : (x : Cell) → LiesIn Boolean (defined_of x)
of_defined Mv = of_truth false
of_defined (Val a) = of_truth true

-- what is left of a number where another is taken away is no larger
left_size : (a b : ℤ) → unsigned_abs (int_rem a b) ≤ unsigned_abs a
left_size (pos n) b = mod-le n (unsigned_abs b)
left_size (negsuc n) b = let h = mod-le (suc n) (unsigned_abs b) in grind (arith, ints)

left_is : (a b : ℤ) → int_rem a b ≡ a -ℤ b *ℤ int_div a b
left_is a b = omega (arith, ints, quot-rem a b)

-- a number no larger than a scalar is one
no_larger : (a z : ℤ) → IsValue Scalar a → unsigned_abs z ≤ unsigned_abs a → IsValue Scalar z
no_larger a z h size = record { least = omega (arith, ints, size, h.least, h.greatest); greatest = omega (arith, ints, size, h.least, h.greatest) }

-- what is left of a scalar is one
of_left : (a b : Cell) → IsCell Scalar a → IsCell Scalar (scalar_remainder a b)
of_left Mv b ha = tt
of_left (Val a) Mv ha = tt
of_left (Val a) (Val b) ha = of_cell_choice Scalar Mv (Val (a -ℤ (b *ℤ int_div a b))) (int_eq b (pos 0)) tt (subst (IsValue Scalar) (left_is a b) (no_larger a (int_rem a b) ha (left_size a b)))

-- ---- how many operands there are

exactly : (n k : ℕ) → (n == k) ≡ true → n ≡ k
exactly n k h = grind arith

pub from_least : (n low high : ℕ) → (nat_le low n && nat_le n high) ≡ true → low ≤ n
from_least n low high h = let parts = and_parts (nat_le low n) (nat_le n high) h in grind (arith, parts.0)

-- an operand that is asked to agree has the kind of the first
agrees : (kinds : Bool) (j k : Kind) → (kinds && is_kind j k) ≡ true → j ≡ k
agrees kinds j k h = same_kind j k (and_parts kinds (is_kind j k) h).1

-- a result of this kind is one of the row's kind
as_kind : (kind other : Kind) (outcome : Outcome) → kind ≡ other → LiesIn kind outcome → LiesIn other outcome
as_kind kind other outcome same h = subst (λ k. LiesIn k outcome) same h

-- ---- tables and series

-- the facts of the items behind the first one
behind : {X : Type 0} (P : X → Type 0) (x : X) (xs : List X) → All P (x ∷ xs) → All P xs
behind P x xs all k d below = all (suc k) d (omega arith)

-- the result of a row that is found
found : (kind : Kind) (test : TableRow → Bool) (rows : List TableRow) → All (λ row. IsValue kind row.result) rows → IsCell kind (result_of (find test rows))
found kind test [] all = tt
found kind test (row ∷ rows) all = by_case (test row) (found kind test rows (behind (λ row. IsValue kind row.result) row rows all))
  where
    by_case : (b : Bool) → IsCell kind (result_of (find test rows)) → IsCell kind (result_of (cond b (Some row) (find test rows)))
    by_case true later = all 0 row (omega arith)
    by_case false later = later

-- the value of a table
at_keys : (kind : Kind) (table : TableValue) (a b c d : Option ℤ) → HasTableKind kind table → IsCell kind (value_at_keys table a b c d)
at_keys kind table None b c d all = tt
at_keys kind table (Some a) None c d all = tt
at_keys kind table (Some a) (Some b) None d all = tt
at_keys kind table (Some a) (Some b) (Some c) None all = tt
at_keys kind table (Some a) (Some b) (Some c) (Some d) all = found kind (λ row. all_lie_in row.keys (a ∷ b ∷ c ∷ d ∷ [])) table.rows all

-- the cell at a place, if there is one
pub at_place : (kind : Kind) (cells : List Cell) (place : ℕ) → All (IsCell kind) cells → IsCell kind (slice_index_or cells place Mv)
at_place kind [] place all = tt
at_place kind (cell ∷ cells) zero all = all 0 cell (omega arith)
at_place kind (cell ∷ cells) (suc place) all = at_place kind cells place (behind (IsCell kind) cell cells all)

-- the cell of a column
in_column : (kind : Kind) (cells : List Cell) (z : ℤ) → All (IsCell kind) cells → IsCell kind (cell_in_column cells z)
in_column kind cells (pos zero) all = tt
in_column kind cells (pos (suc place)) all = at_place kind cells place all
in_column kind cells (negsuc n) all = tt

-- the cell of a column of the row of a step
in_row : (kind : Kind) (rows : List SeriesRow) (step : ℕ) (z : ℤ) → All (λ row. All (IsCell kind) row.cells) rows → IsCell kind (cell_in_row (cells_at rows step) z)
in_row kind [] step z all = tt
in_row kind (row ∷ rows) step z all = by_case (row.step == step) (in_row kind rows step z (behind (λ row. All (IsCell kind) row.cells) row rows all))
  where
    by_case : (b : Bool) → IsCell kind (cell_in_row (option_map (λ row. row.cells) (find (λ row. row.step == step) rows)) z) → IsCell kind (cell_in_row (option_map (λ row. row.cells) (cond b (Some row) (find (λ row. row.step == step) rows))) z)
    by_case true later = in_column kind row.cells z (all 0 row (omega arith))
    by_case false later = later

-- the cell of the series at an id
at_column : (kind : Kind) (series : SeriesValue) (step : ℕ) (x : Cell) → HasSeriesKind kind series → LiesIn kind (timeinput_of series step x)
at_column kind series step Mv all = tt
at_column kind series step (Val z) all = in_row kind series.rows step z all

-- ---- windows, areas and whole maps

-- an outcome whose cell, if it is one, is of the kind
if_cell : (kind : Kind) (outcome : Outcome) → IfOk outcome (IsCell kind) → LiesIn kind outcome
if_cell kind (Ok cell) h = h
if_cell kind (Err over) h = tt

-- an operand is a map of its kind
pub whole_in : (setting : Setting) (operands : List CellAt) (i : ℕ) → i < length setting.kinds → AreMapsOfKinds setting operands → All (IsCell (kind_at setting.kinds i)) (whole_by setting (operand_at operands i))
whole_in setting operands i some maps = tabulate-all (IsCell (kind_at setting.kinds i)) (operand_at operands i) (setting_places setting) (λ place below. maps.kinds place below i some)

-- the values of the places of areas are of an operand's kind
pub zones_in : (setting : Setting) (operands : List CellAt) (classes : CellAt) (i : ℕ) → i < length setting.kinds → AreMapsOfKinds setting operands →
    All (λ p. IsCell (kind_at setting.kinds i) p.value) (zone_places setting (operand_at operands i) classes)
zones_in setting operands classes i some maps =
    tabulate-all (λ p. IsCell (kind_at setting.kinds i) p.value) (λ place. record { value = operand_at operands i place; area = classes place }) (setting_places setting) (λ place below. maps.kinds place below i some)

-- areas have as many places as the map
pub zones_few : (setting : Setting) (values classes : CellAt) → setting_places setting ≤ most_cells → length (zone_places setting values classes) ≤ most_cells
zones_few setting values classes few =
    let count = length-tabulate (λ place. let p : AreaPlace = record { value = values place; area = classes place } in p) (setting_places setting) in omega (arith, count, few)

-- ---- drain directions

-- what comes of a flow
of_flow : (kind : Kind) (f : Flow) → LiesIn kind (flow_outcome kind f)
of_flow kind flow.Mv = tt
of_flow kind (flow.Num z) = of_number kind z

-- no transport without a row has operands
pub no_row : (n : ℕ) → (nat_le 1 n && nat_le n 0) ≡ true → ⊥
no_row n h = let parts = and_parts (nat_le 1 n) (nat_le n 0) h in grind (arith, parts.0, parts.1)

-- ---- the operations

-- an operation's result is a cell of its kind where its operands' cells at the place are of theirs
lies : (o : Op) (setting : Setting) (kind : Kind) (operands : List CellAt) (place : ℕ) → HasKinds (map_row (row_of o)) setting.kinds kind → HoldsKind (file_role o (length setting.kinds)) setting kind →
    AreMapsOfKinds setting operands → place < setting_places setting → LiesIn kind (outcome_of o setting operands place)
unfolding row_of rule_of near_outcome
lies op.CopyOf setting kind operands place h holds maps below =
    as_kind (kind_at setting.kinds 0) kind (Ok (operand_at operands 0 place)) h.gives (maps.kinds place below 0 (from_least _ 1 1 h.count))
lies op.Add setting kind operands place h holds maps below =
    as_kind Scalar kind _ h.gives (of_numbers (λ a b. a +ℤ b) (operand_at operands 0 place) (operand_at operands 1 place))
lies op.Sub setting kind operands place h holds maps below =
    as_kind Scalar kind _ h.gives (of_numbers (λ a b. a -ℤ b) (operand_at operands 0 place) (operand_at operands 1 place))
lies op.Mul setting kind operands place h holds maps below =
    as_kind Scalar kind _ h.gives (of_numbers (λ a b. nearest (a *ℤ b) 1000000) (operand_at operands 0 place) (operand_at operands 1 place))
lies op.Div setting kind operands place h holds maps below =
    as_kind Scalar kind _ h.gives (of_divided (λ a b. nearest_quotient (a *ℤ pos 1000000) b) (operand_at operands 0 place) (operand_at operands 1 place))
lies op.IntDiv setting kind operands place h holds maps below =
    as_kind Scalar kind _ h.gives (of_divided (λ a b. cut_quotient a b *ℤ pos 1000000) (operand_at operands 0 place) (operand_at operands 1 place))
lies op.IntMod setting kind operands place h holds maps below =
    let scalar : Scalar ≡ kind_at setting.kinds 0 = same_kind Scalar (kind_at setting.kinds 0) (h.each 0 some) in
    as_kind Scalar kind (Ok (scalar_remainder (operand_at operands 0 place) (operand_at operands 1 place))) h.gives (of_left (operand_at operands 0 place) (operand_at operands 1 place) (subst (λ k. IsCell k (operand_at operands 0 place)) (sym scalar) (maps.kinds place below 0 some)))
  where
    some : 0 < length setting.kinds
    some = omega (arith, from_least (length setting.kinds) 2 2 h.count)
lies op.Neg setting kind operands place h holds maps below =
    as_kind Scalar kind _ h.gives (of_one (λ a. neg_ℤ a) (operand_at operands 0 place))
lies op.Abs setting kind operands place h holds maps below =
    as_kind Scalar kind _ h.gives (of_one (λ a. pos (unsigned_abs a)) (operand_at operands 0 place))
lies op.RoundDown setting kind operands place h holds maps below =
    as_kind Scalar kind _ h.gives (of_one (λ a. whole_below a) (operand_at operands 0 place))
lies op.RoundUp setting kind operands place h holds maps below =
    as_kind Scalar kind _ h.gives (of_one (λ a. whole_above a) (operand_at operands 0 place))
lies op.RoundOff setting kind operands place h holds maps below =
    as_kind Scalar kind _ h.gives (of_one (λ a. whole_nearest a) (operand_at operands 0 place))
lies op.Min setting kind operands place h holds maps below =
    let two : length setting.kinds ≡ 2 = exactly _ 2 h.count in
    let same = agrees _ _ _ (h.each 1 (omega (arith, two))) in
    as_kind (kind_at setting.kinds 0) kind _ h.gives (of_least (kind_at setting.kinds 0) (operand_at operands 0 place) (operand_at operands 1 place) (maps.kinds place below 0 (omega (arith, two))) (subst (λ k. IsCell k (operand_at operands 1 place)) (sym same) (maps.kinds place below 1 (omega (arith, two)))))
lies op.Max setting kind operands place h holds maps below =
    let two : length setting.kinds ≡ 2 = exactly _ 2 h.count in
    let same = agrees _ _ _ (h.each 1 (omega (arith, two))) in
    as_kind (kind_at setting.kinds 0) kind _ h.gives (of_greatest (kind_at setting.kinds 0) (operand_at operands 0 place) (operand_at operands 1 place) (maps.kinds place below 0 (omega (arith, two))) (subst (λ k. IsCell k (operand_at operands 1 place)) (sym same) (maps.kinds place below 1 (omega (arith, two)))))
lies op.Cover setting kind operands place h holds maps below =
    let two : length setting.kinds ≡ 2 = exactly _ 2 h.count in
    let same = agrees _ _ _ (h.each 1 (omega (arith, two))) in
    as_kind (kind_at setting.kinds 0) kind _ h.gives (of_cover (kind_at setting.kinds 0) (operand_at operands 0 place) (operand_at operands 1 place) (maps.kinds place below 0 (omega (arith, two))) (subst (λ k. IsCell k (operand_at operands 1 place)) (sym same) (maps.kinds place below 1 (omega (arith, two)))))
lies op.Equal setting kind operands place h holds maps below =
    as_kind Boolean kind _ h.gives (of_comparison (int_eq) (operand_at operands 0 place) (operand_at operands 1 place))
lies op.NotEqual setting kind operands place h holds maps below =
    as_kind Boolean kind _ h.gives (of_comparison (λ a b. not (int_eq a b)) (operand_at operands 0 place) (operand_at operands 1 place))
lies op.Less setting kind operands place h holds maps below =
    as_kind Boolean kind _ h.gives (of_comparison (int_lt) (operand_at operands 0 place) (operand_at operands 1 place))
lies op.LessEqual setting kind operands place h holds maps below =
    as_kind Boolean kind _ h.gives (of_comparison (int_le) (operand_at operands 0 place) (operand_at operands 1 place))
lies op.Greater setting kind operands place h holds maps below =
    as_kind Boolean kind _ h.gives (of_comparison (λ a b. int_lt b a) (operand_at operands 0 place) (operand_at operands 1 place))
lies op.GreaterEqual setting kind operands place h holds maps below =
    as_kind Boolean kind _ h.gives (of_comparison (λ a b. int_le b a) (operand_at operands 0 place) (operand_at operands 1 place))
lies op.And setting kind operands place h holds maps below =
    as_kind Boolean kind _ h.gives (of_comparison (λ a b. is_one a && is_one b) (operand_at operands 0 place) (operand_at operands 1 place))
lies op.Or setting kind operands place h holds maps below =
    as_kind Boolean kind _ h.gives (of_comparison (λ a b. is_one a || is_one b) (operand_at operands 0 place) (operand_at operands 1 place))
lies op.Xor setting kind operands place h holds maps below =
    as_kind Boolean kind _ h.gives (of_comparison (λ a b. is_either (is_one a) (is_one b)) (operand_at operands 0 place) (operand_at operands 1 place))
lies op.Not setting kind operands place h holds maps below =
    as_kind Boolean kind _ h.gives (of_cell Boolean (λ a. Ok (truth (not (is_one a)))) (λ a. of_truth (not (is_one a))) (operand_at operands 0 place))
lies op.IfThen setting kind operands place h holds maps below =
    as_kind (kind_at setting.kinds 1) kind _ h.gives (of_if_then (kind_at setting.kinds 1) (operand_at operands 0 place) (operand_at operands 1 place) (maps.kinds place below 1 (from_least _ 2 2 h.count)))
lies op.IfElse setting kind operands place h holds maps below =
    let three : 3 ≤ length setting.kinds = from_least (length setting.kinds) 3 3 h.count in
    let same = agrees _ _ _ (h.each 2 (omega (arith, three))) in
    as_kind (kind_at setting.kinds 1) kind _ h.gives (of_if_else (kind_at setting.kinds 1) (operand_at operands 0 place) (operand_at operands 1 place) (operand_at operands 2 place) (maps.kinds place below 1 (omega (arith, three))) (subst (λ k. IsCell k (operand_at operands 2 place)) (sym same) (maps.kinds place below 2 (omega (arith, three)))))
lies op.Defined setting kind operands place h holds maps below =
    as_kind Boolean kind _ h.gives (of_defined (operand_at operands 0 place))
lies op.ToBoolean setting kind operands place h holds maps below =
    as_kind Boolean kind _ h.gives (of_conversion (kind_at setting.kinds 0) Boolean (operand_at operands 0 place))
lies op.ToNominal setting kind operands place h holds maps below =
    as_kind Nominal kind _ h.gives (of_conversion (kind_at setting.kinds 0) Nominal (operand_at operands 0 place))
lies op.ToOrdinal setting kind operands place h holds maps below =
    as_kind Ordinal kind _ h.gives (of_conversion (kind_at setting.kinds 0) Ordinal (operand_at operands 0 place))
lies op.ToScalar setting kind operands place h holds maps below =
    as_kind Scalar kind _ h.gives (of_conversion (kind_at setting.kinds 0) Scalar (operand_at operands 0 place))
lies op.ToDirectional setting kind operands place h holds maps below =
    as_kind Directional kind _ h.gives (of_conversion (kind_at setting.kinds 0) Directional (operand_at operands 0 place))
lies op.LookupBoolean setting kind operands place h holds maps below =
    at_keys kind setting.table (key_number (kind_at setting.kinds 0) (operand_at operands 0 place)) (further_key setting.table setting.kinds 1 (operand_at operands 1 place)) (further_key setting.table setting.kinds 2 (operand_at operands 2 place)) (further_key setting.table setting.kinds 3 (operand_at operands 3 place)) holds
lies op.LookupNominal setting kind operands place h holds maps below =
    at_keys kind setting.table (key_number (kind_at setting.kinds 0) (operand_at operands 0 place)) (further_key setting.table setting.kinds 1 (operand_at operands 1 place)) (further_key setting.table setting.kinds 2 (operand_at operands 2 place)) (further_key setting.table setting.kinds 3 (operand_at operands 3 place)) holds
lies op.LookupOrdinal setting kind operands place h holds maps below =
    at_keys kind setting.table (key_number (kind_at setting.kinds 0) (operand_at operands 0 place)) (further_key setting.table setting.kinds 1 (operand_at operands 1 place)) (further_key setting.table setting.kinds 2 (operand_at operands 2 place)) (further_key setting.table setting.kinds 3 (operand_at operands 3 place)) holds
lies op.LookupScalar setting kind operands place h holds maps below =
    at_keys kind setting.table (key_number (kind_at setting.kinds 0) (operand_at operands 0 place)) (further_key setting.table setting.kinds 1 (operand_at operands 1 place)) (further_key setting.table setting.kinds 2 (operand_at operands 2 place)) (further_key setting.table setting.kinds 3 (operand_at operands 3 place)) holds
lies op.LookupDirectional setting kind operands place h holds maps below =
    at_keys kind setting.table (key_number (kind_at setting.kinds 0) (operand_at operands 0 place)) (further_key setting.table setting.kinds 1 (operand_at operands 1 place)) (further_key setting.table setting.kinds 2 (operand_at operands 2 place)) (further_key setting.table setting.kinds 3 (operand_at operands 3 place)) holds
lies op.TimeInputBoolean setting kind operands place h holds maps below =
    at_column kind setting.series setting.step (operand_at operands 0 place) holds
lies op.TimeInputNominal setting kind operands place h holds maps below =
    at_column kind setting.series setting.step (operand_at operands 0 place) holds
lies op.TimeInputOrdinal setting kind operands place h holds maps below =
    at_column kind setting.series setting.step (operand_at operands 0 place) holds
lies op.TimeInputScalar setting kind operands place h holds maps below =
    at_column kind setting.series setting.step (operand_at operands 0 place) holds
lies op.TimeInputDirectional setting kind operands place h holds maps below =
    at_column kind setting.series setting.step (operand_at operands 0 place) holds
lies op.WindowTotal setting kind operands place h holds maps below =
    as_kind Scalar kind _ h.gives (if_cell Scalar _ (window_outcome-scalar window.Total setting.rows setting.cols (reach_of setting.window) (whole_by setting (operand_at operands 0)) place refl))
lies op.WindowAverage setting kind operands place h holds maps below =
    as_kind Scalar kind _ h.gives (if_cell Scalar _ (window_outcome-scalar window.Average setting.rows setting.cols (reach_of setting.window) (whole_by setting (operand_at operands 0)) place refl))
lies op.WindowDiversity setting kind operands place h holds maps below =
    as_kind Scalar kind _ h.gives (if_cell Scalar _ (window_outcome-scalar window.Diversity setting.rows setting.cols (reach_of setting.window) (whole_by setting (operand_at operands 0)) place refl))
lies op.WindowMinimum setting kind operands place h holds maps below =
    as_kind (kind_at setting.kinds 0) kind _ h.gives (if_cell (kind_at setting.kinds 0) _ (window_outcome-of_kind window.Minimum (kind_at setting.kinds 0) setting.rows setting.cols (reach_of setting.window) (whole_by setting (operand_at operands 0)) place refl (whole_in setting operands 0 (from_least _ 1 1 h.count) maps)))
lies op.WindowMaximum setting kind operands place h holds maps below =
    as_kind (kind_at setting.kinds 0) kind _ h.gives (if_cell (kind_at setting.kinds 0) _ (window_outcome-of_kind window.Maximum (kind_at setting.kinds 0) setting.rows setting.cols (reach_of setting.window) (whole_by setting (operand_at operands 0)) place refl (whole_in setting operands 0 (from_least _ 1 1 h.count) maps)))
lies op.WindowMajority setting kind operands place h holds maps below =
    as_kind (kind_at setting.kinds 0) kind _ h.gives (if_cell (kind_at setting.kinds 0) _ (window_outcome-of_kind window.Majority (kind_at setting.kinds 0) setting.rows setting.cols (reach_of setting.window) (whole_by setting (operand_at operands 0)) place refl (whole_in setting operands 0 (from_least _ 1 1 h.count) maps)))
lies op.AreaTotal setting kind operands place h holds maps below =
    as_kind Scalar kind _ h.gives (if_cell Scalar _ (area_outcome-scalar area.Total (zone_places setting (operand_at operands 0) (operand_at operands 1)) (operand_at operands 1 place) refl (zones_few setting (operand_at operands 0) (operand_at operands 1) maps.few)))
lies op.AreaAverage setting kind operands place h holds maps below =
    as_kind Scalar kind _ h.gives (if_cell Scalar _ (area_outcome-scalar area.Average (zone_places setting (operand_at operands 0) (operand_at operands 1)) (operand_at operands 1 place) refl (zones_few setting (operand_at operands 0) (operand_at operands 1) maps.few)))
lies op.AreaDiversity setting kind operands place h holds maps below =
    as_kind Scalar kind _ h.gives (if_cell Scalar _ (area_outcome-scalar area.Diversity (zone_places setting (operand_at operands 0) (operand_at operands 1)) (operand_at operands 1 place) refl (zones_few setting (operand_at operands 0) (operand_at operands 1) maps.few)))
lies op.AreaMinimum setting kind operands place h holds maps below =
    let two : 2 ≤ length setting.kinds = from_least (length setting.kinds) 2 2 h.count in
    as_kind (kind_at setting.kinds 0) kind _ h.gives (if_cell (kind_at setting.kinds 0) _ (area_outcome-of_kind area.Minimum (kind_at setting.kinds 0) (zone_places setting (operand_at operands 0) (operand_at operands 1)) (operand_at operands 1 place) refl (zones_in setting operands (operand_at operands 1) 0 (omega (arith, two)) maps)))
lies op.AreaMaximum setting kind operands place h holds maps below =
    let two : 2 ≤ length setting.kinds = from_least (length setting.kinds) 2 2 h.count in
    as_kind (kind_at setting.kinds 0) kind _ h.gives (if_cell (kind_at setting.kinds 0) _ (area_outcome-of_kind area.Maximum (kind_at setting.kinds 0) (zone_places setting (operand_at operands 0) (operand_at operands 1)) (operand_at operands 1 place) refl (zones_in setting operands (operand_at operands 1) 0 (omega (arith, two)) maps)))
lies op.AreaMajority setting kind operands place h holds maps below =
    let two : 2 ≤ length setting.kinds = from_least (length setting.kinds) 2 2 h.count in
    as_kind (kind_at setting.kinds 0) kind _ h.gives (if_cell (kind_at setting.kinds 0) _ (area_outcome-of_kind area.Majority (kind_at setting.kinds 0) (zone_places setting (operand_at operands 0) (operand_at operands 1)) (operand_at operands 1 place) refl (zones_in setting operands (operand_at operands 1) 0 (omega (arith, two)) maps)))
lies op.AreaArea setting kind operands place h holds maps below =
    as_kind Scalar kind _ h.gives (if_cell Scalar _ (area_outcome-scalar area.Area (zone_places setting (alike 0) (operand_at operands 0)) (operand_at operands 0 place) refl (zones_few setting (alike 0) (operand_at operands 0) maps.few)))
lies op.MapTotal setting kind operands place h holds maps below =
    as_kind Scalar kind _ h.gives (if_cell Scalar _ (area_outcome-scalar area.Total (zone_places setting (operand_at operands 0) (alike 1)) (alike 1 place) refl (zones_few setting (operand_at operands 0) (alike 1) maps.few)))
lies op.MapMinimum setting kind operands place h holds maps below =
    as_kind (kind_at setting.kinds 0) kind _ h.gives (if_cell (kind_at setting.kinds 0) _ (area_outcome-of_kind area.Minimum (kind_at setting.kinds 0) (zone_places setting (operand_at operands 0) (alike 1)) (alike 1 place) refl (zones_in setting operands (alike 1) 0 (from_least _ 1 1 h.count) maps)))
lies op.MapMaximum setting kind operands place h holds maps below =
    as_kind (kind_at setting.kinds 0) kind _ h.gives (if_cell (kind_at setting.kinds 0) _ (area_outcome-of_kind area.Maximum (kind_at setting.kinds 0) (zone_places setting (operand_at operands 0) (alike 1)) (alike 1 place) refl (zones_in setting operands (alike 1) 0 (from_least _ 1 1 h.count) maps)))
lies (op.Near near.Upstream) setting kind operands place h holds maps below =
    as_kind Scalar kind _ h.gives (of_flow Scalar (where_directed (next_at (drain_by setting (operand_at operands 0)) place) (near_flow near.Upstream (drain_by setting (operand_at operands 0)) (cell_at (whole_by setting (operand_at operands 1))) place)))
lies (op.Near near.Downstream) setting kind operands place h holds maps below =
    as_kind Scalar kind _ h.gives (of_flow Scalar (where_directed (next_at (drain_by setting (operand_at operands 0)) place) (near_flow near.Downstream (drain_by setting (operand_at operands 0)) (cell_at (whole_by setting (operand_at operands 1))) place)))
lies (op.Flow flows.Accuflux) setting kind operands place h holds maps below =
    let scalar : Scalar ≡ kind_at setting.kinds 1 = same_kind Scalar (kind_at setting.kinds 1) (h.each 1 (omega (arith, from_least (length setting.kinds) 2 2 h.count))) in
    as_kind (kind_at setting.kinds 1) kind _ (sym scalar ∙ h.gives) (of_flow (kind_at setting.kinds 1) (transported (transport_of flows.Accuflux) (drain_by setting (operand_at operands 0)) (cell_at (whole_by setting (operand_at operands 1))) (cell_at (whole_by setting (operand_at operands 2))) place))
lies (op.Flow flows.ThresholdFlux) setting kind operands place h holds maps below =
    let scalar : Scalar ≡ kind_at setting.kinds 1 = same_kind Scalar (kind_at setting.kinds 1) (h.each 1 (omega (arith, from_least (length setting.kinds) 3 3 h.count))) in
    as_kind (kind_at setting.kinds 1) kind _ (sym scalar ∙ h.gives) (of_flow (kind_at setting.kinds 1) (transported (transport_of flows.ThresholdFlux) (drain_by setting (operand_at operands 0)) (cell_at (whole_by setting (operand_at operands 1))) (cell_at (whole_by setting (operand_at operands 2))) place))
lies (op.Flow flows.ThresholdState) setting kind operands place h holds maps below =
    let scalar : Scalar ≡ kind_at setting.kinds 1 = same_kind Scalar (kind_at setting.kinds 1) (h.each 1 (omega (arith, from_least (length setting.kinds) 3 3 h.count))) in
    as_kind (kind_at setting.kinds 1) kind _ (sym scalar ∙ h.gives) (of_flow (kind_at setting.kinds 1) (transported (transport_of flows.ThresholdState) (drain_by setting (operand_at operands 0)) (cell_at (whole_by setting (operand_at operands 1))) (cell_at (whole_by setting (operand_at operands 2))) place))
lies (op.Flow flows.Catchment) setting kind operands place h holds maps below =
    as_kind (kind_at setting.kinds 1) kind _ h.gives (of_flow (kind_at setting.kinds 1) (transported (transport_of flows.Catchment) (drain_by setting (operand_at operands 0)) (cell_at (whole_by setting (operand_at operands 1))) (cell_at (whole_by setting (operand_at operands 2))) place))
lies (op.Flow flows.CapacityFlux) setting kind operands place h holds maps below =
    absurd (no_row (length setting.kinds) h.count)
lies (op.Flow flows.CapacityState) setting kind operands place h holds maps below =
    absurd (no_row (length setting.kinds) h.count)
lies (op.Flow flows.TriggerFlux) setting kind operands place h holds maps below =
    absurd (no_row (length setting.kinds) h.count)
lies (op.Flow flows.TriggerState) setting kind operands place h holds maps below =
    absurd (no_row (length setting.kinds) h.count)
lies (op.Flow flows.FractionFlux) setting kind operands place h holds maps below =
    absurd (no_row (length setting.kinds) h.count)
lies (op.Flow flows.FractionState) setting kind operands place h holds maps below =
    absurd (no_row (length setting.kinds) h.count)
lies (op.Flow flows.Subcatchment) setting kind operands place h holds maps below =
    absurd (no_row (length setting.kinds) h.count)
lies (op.Flow flows.PathOf) setting kind operands place h holds maps below =
    absurd (no_row (length setting.kinds) h.count)
lies (op.Flow flows.StreamOrder) setting kind operands place h holds maps below =
    absurd (no_row (length setting.kinds) h.count)

-- the same where they are at all places of a map
pub in_kind : (o : Op) (setting : Setting) (kind : Kind) (operands : List CellAt) (place : ℕ) → HasKinds (map_row (row_of o)) setting.kinds kind → HoldsKind (file_role o (length setting.kinds)) setting kind →
    AreMapsOfKinds setting operands → place < setting_places setting → LiesIn kind (outcome_of o setting operands place)
in_kind o setting kind operands place h holds maps below = lies o setting kind operands place h holds maps below
