-- What the crates above cite.
use Rattle.std.proofs.Common.{◌≡◌, ℕ, ◌<◌, cond, nat_lt, Bool, true, false, ◌⊎◌, inl, inr, List, [], refl, sym, ap, ◌∙◌, subst, arith}
use Rattle.std.specs.Prelude.{Some, None, Ok, pos}
use Rattle.cell_values.specs.declared.kind.Kind.{Kind}
use Rattle.cell_values.specs.declared.kind.Kind.TheVariants.{Boolean, Nominal, Ordinal, Scalar, Directional}
use Rattle.cell_values.specs.declared.cell.Cell.{Cell}
use Rattle.cell_values.specs.Conversion.{conversion_of}
use Rattle.lookup_table.specs.Form.{TableValue}
use Rattle.tile_map.specs.Parts.{Outcome}
use Rattle.map_meaning.specs.declared.op.Op.{Op}
use Rattle.map_meaning.specs.declared.op.Op.TheVariants as op
use Rattle.map_meaning.specs.Local.{key_number, lookup_of, timeinput_of, value_at_keys}
use Rattle.map_meaning.specs.Maps.{CellAt}
use Rattle.map_meaning.specs.Rules.{Rule, Local, Setting, by_rule, kind_at, of_kinds, operand_at, rule_of}
use Rattle.cell_ops.specs.declared.work.CellWork.{CellWork}
use Rattle.cell_ops.specs.declared.work.CellWork.TheVariants.{Plain, Convert, Lookup, SeriesAt}
use Rattle.cell_ops.specs.Work.{GiveTheMeaning, IsWorkOf, converts_to, is_lookup, is_plain, is_timeinput, of_cells, work_outcome}

-- the rule looks at its operands' cells at the place alone
abbrev is_local : Rule → Bool
is_local (Local f) = true
is_local _ = false

-- what such an operation gives of its operands is what its rule gives of their cells
cells_of_rule : (rule : Rule) (setting : Setting) (operands : List CellAt) (place : ℕ) → is_local rule ≡ true →
    by_rule rule setting operands place ≡ of_cells rule setting (operand_at operands 0 place) (operand_at operands 1 place) (operand_at operands 2 place) (operand_at operands 3 place)
cells_of_rule (Local f) setting operands place h = refl
cells_of_rule _ setting operands place h = absurd (cc)

-- no work is that of the operation
abbrev HasNoWork : Op → Type 0
HasNoWork o = (is_plain o ≡ false) × (converts_to o ≡ None) × (is_lookup o ≡ false) × (is_timeinput o ≡ false)

-- an operation that looks at other places has no work
local_or_none : (o : Op) → (is_local (rule_of o) ≡ true) ⊎ HasNoWork o
unfolding rule_of
local_or_none op.WindowTotal = inr (refl, refl, refl, refl)
local_or_none op.WindowAverage = inr (refl, refl, refl, refl)
local_or_none op.WindowMinimum = inr (refl, refl, refl, refl)
local_or_none op.WindowMaximum = inr (refl, refl, refl, refl)
local_or_none op.WindowDiversity = inr (refl, refl, refl, refl)
local_or_none op.WindowMajority = inr (refl, refl, refl, refl)
local_or_none op.AreaTotal = inr (refl, refl, refl, refl)
local_or_none op.AreaAverage = inr (refl, refl, refl, refl)
local_or_none op.AreaMinimum = inr (refl, refl, refl, refl)
local_or_none op.AreaMaximum = inr (refl, refl, refl, refl)
local_or_none op.AreaDiversity = inr (refl, refl, refl, refl)
local_or_none op.AreaMajority = inr (refl, refl, refl, refl)
local_or_none op.AreaArea = inr (refl, refl, refl, refl)
local_or_none op.MapTotal = inr (refl, refl, refl, refl)
local_or_none op.MapMinimum = inr (refl, refl, refl, refl)
local_or_none op.MapMaximum = inr (refl, refl, refl, refl)
local_or_none (op.Near o) = inr (refl, refl, refl, refl)
local_or_none (op.Flow o) = inr (refl, refl, refl, refl)
local_or_none _ = inl refl

-- the rule of an operation that has a work looks at cells alone
local_work : (work : CellWork) (o : Op) (setting : Setting) → IsWorkOf work o setting → (is_local (rule_of o) ≡ true) ⊎ HasNoWork o → is_local (rule_of o) ≡ true
local_work work o setting is (inl h) = h
local_work (Plain p) o setting is (inr none) = absurd (let one = is.1 in let other = none.0 in cc)
local_work (Convert from to) o setting is (inr none) = absurd (let one = is.0 in let other = none.1 in cc)
local_work (Lookup table keys) o setting is (inr none) = absurd (let one = is.0 in let other = none.2 in cc)
local_work (SeriesAt series step) o setting is (inr none) = absurd (let one = is.0 in let other = none.3 in cc)

-- an operation that looks at nothing but cells
plain_means : (o : Op) (setting : Setting) (a b c d : Cell) → is_plain o ≡ true → of_cells (rule_of o) setting a b c d ≡ of_cells (rule_of o) (of_kinds []) a b c d
unfolding rule_of
plain_means op.CopyOf setting a b c d h = refl
plain_means op.Add setting a b c d h = refl
plain_means op.Sub setting a b c d h = refl
plain_means op.Mul setting a b c d h = refl
plain_means op.Div setting a b c d h = refl
plain_means op.IntDiv setting a b c d h = refl
plain_means op.IntMod setting a b c d h = refl
plain_means op.Neg setting a b c d h = refl
plain_means op.Abs setting a b c d h = refl
plain_means op.RoundDown setting a b c d h = refl
plain_means op.RoundUp setting a b c d h = refl
plain_means op.RoundOff setting a b c d h = refl
plain_means op.Min setting a b c d h = refl
plain_means op.Max setting a b c d h = refl
plain_means op.Equal setting a b c d h = refl
plain_means op.NotEqual setting a b c d h = refl
plain_means op.Less setting a b c d h = refl
plain_means op.LessEqual setting a b c d h = refl
plain_means op.Greater setting a b c d h = refl
plain_means op.GreaterEqual setting a b c d h = refl
plain_means op.And setting a b c d h = refl
plain_means op.Or setting a b c d h = refl
plain_means op.Xor setting a b c d h = refl
plain_means op.Not setting a b c d h = refl
plain_means op.IfThen setting a b c d h = refl
plain_means op.IfElse setting a b c d h = refl
plain_means op.Cover setting a b c d h = refl
plain_means op.Defined setting a b c d h = refl
plain_means _ setting a b c d h = absurd (cc)

-- a conversion
convert_means : (o : Op) (to : Kind) (setting : Setting) (a b c d : Cell) → converts_to o ≡ Some to → of_cells (rule_of o) setting a b c d ≡ conversion_of (kind_at setting.kinds 0) to a
unfolding rule_of
convert_means op.ToBoolean to setting a b c d h = let same : Boolean ≡ to = cc in ap (λ k. conversion_of (kind_at setting.kinds 0) k a) same
convert_means op.ToNominal to setting a b c d h = let same : Nominal ≡ to = cc in ap (λ k. conversion_of (kind_at setting.kinds 0) k a) same
convert_means op.ToOrdinal to setting a b c d h = let same : Ordinal ≡ to = cc in ap (λ k. conversion_of (kind_at setting.kinds 0) k a) same
convert_means op.ToScalar to setting a b c d h = let same : Scalar ≡ to = cc in ap (λ k. conversion_of (kind_at setting.kinds 0) k a) same
convert_means op.ToDirectional to setting a b c d h = let same : Directional ≡ to = cc in ap (λ k. conversion_of (kind_at setting.kinds 0) k a) same
convert_means _ to setting a b c d h = absurd (cc)

-- a lookup in a table
lookup_means : (o : Op) (setting : Setting) (a b c d : Cell) → is_lookup o ≡ true → of_cells (rule_of o) setting a b c d ≡ lookup_of setting.table setting.kinds a b c d
unfolding rule_of
lookup_means op.LookupBoolean setting a b c d h = refl
lookup_means op.LookupNominal setting a b c d h = refl
lookup_means op.LookupOrdinal setting a b c d h = refl
lookup_means op.LookupScalar setting a b c d h = refl
lookup_means op.LookupDirectional setting a b c d h = refl
lookup_means _ setting a b c d h = absurd (cc)

-- a cell of a series
timeinput_means : (o : Op) (setting : Setting) (a b c d : Cell) → is_timeinput o ≡ true → of_cells (rule_of o) setting a b c d ≡ timeinput_of setting.series setting.step a
unfolding rule_of
timeinput_means op.TimeInputBoolean setting a b c d h = refl
timeinput_means op.TimeInputNominal setting a b c d h = refl
timeinput_means op.TimeInputOrdinal setting a b c d h = refl
timeinput_means op.TimeInputScalar setting a b c d h = refl
timeinput_means op.TimeInputDirectional setting a b c d h = refl
timeinput_means _ setting a b c d h = absurd (cc)

-- the first four kinds decide a lookup
same_lookup : (table : TableValue) (j k : List Kind) (a b c d : Cell) → ((i : ℕ) → i < 4 → kind_at j i ≡ kind_at k i) → lookup_of table k a b c d ≡ lookup_of table j a b c d
same_lookup table j k a b c d same =
    let of : Kind → Kind → Kind → Kind → Outcome = λ w x y z. Ok (value_at_keys table (key_number w a) (cond (nat_lt 1 table.keys) (key_number x b) (Some (pos 0))) (cond (nat_lt 2 table.keys) (key_number y c) (Some (pos 0))) (cond (nat_lt 3 table.keys) (key_number z d) (Some (pos 0)))) in
    ap (λ w. of w (kind_at k 1) (kind_at k 2) (kind_at k 3)) (sym (same 0 (omega arith)))
    ∙ (ap (λ x. of (kind_at j 0) x (kind_at k 2) (kind_at k 3)) (sym (same 1 (omega arith)))
    ∙ (ap (λ y. of (kind_at j 0) (kind_at j 1) y (kind_at k 3)) (sym (same 2 (omega arith)))
    ∙ ap (λ z. of (kind_at j 0) (kind_at j 1) (kind_at j 2) z) (sym (same 3 (omega arith)))))

-- the work of an operation gives what the operation means of four cells
work_means : (work : CellWork) (o : Op) (setting : Setting) (a b c d : Cell) → IsWorkOf work o setting → of_cells (rule_of o) setting a b c d ≡ work_outcome work a b c d
unfolding work_outcome
work_means (Plain p) o setting a b c d is =
    let P : Op → Type 0 = λ q. of_cells (rule_of o) setting a b c d ≡ of_cells (rule_of q) (of_kinds []) a b c d in
    subst P (sym is.0) (plain_means o setting a b c d is.1)
work_means (Convert from to) o setting a b c d is = convert_means o to setting a b c d is.0 ∙ ap (λ k. conversion_of k to a) (sym is.1)
work_means (Lookup table keys) o setting a b c d is =
    lookup_means o setting a b c d is.0 ∙ (ap (λ t. lookup_of t setting.kinds a b c d) (sym is.1) ∙ same_lookup table.now keys setting.kinds a b c d is.2)
work_means (SeriesAt series step) o setting a b c d is =
    timeinput_means o setting a b c d is.0 ∙ (ap (λ s. timeinput_of s setting.step a) (sym is.1) ∙ ap (λ n. timeinput_of series.now n a) (sym is.2))

-- the work of an operation gives what the operation means
pub works_mean : GiveTheMeaning
works_mean work o setting operands place is =
    cells_of_rule (rule_of o) setting operands place (local_work work o setting is (local_or_none o)) ∙ work_means work o setting (operand_at operands 0 place) (operand_at operands 1 place) (operand_at operands 2 place) (operand_at operands 3 place) is
