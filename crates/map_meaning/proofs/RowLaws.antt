-- The rows of the table of operations.
use Rattle.std.proofs.Common.{◌≡◌, true, List, [], ◌∷◌, refl, sym, ap, ◌∙◌}
use Rattle.std.specs.Prelude.{All}
use Rattle.std.proofs.lemmas.List.Elements.{All-cons, All-nil}
use Rattle.map_meaning.specs.declared.op.Op.{Op}
use Rattle.map_meaning.specs.declared.op.Op.TheVariants as op
use Rattle.map_meaning.specs.declared.row.Meant.{Meant}
use Rattle.map_meaning.specs.declared.row.Meant.TheVariants as meant
use Rattle.map_meaning.specs.declared.row.Row.{Row}
use Rattle.map_meaning.specs.declared.table.TheConstants.{OPERATIONS}
use Rattle.map_meaning.specs.Laws.{IsItsRow}
use Rattle.drain_meaning.specs.declared.op.FlowOp.TheVariants as flow
use Rattle.drain_meaning.specs.declared.op.NearOp.TheVariants as near
use Rattle.map_meaning.specs.Table.{has_row, row_of, table_rows}

-- each row means its operation
pub its_meaning : (o : Op) → has_row o ≡ true → (row_of o).meant ≡ meant.Op o
unfolding row_of table_rows
its_meaning op.CopyOf h = refl
its_meaning op.Add h = refl
its_meaning op.Sub h = refl
its_meaning op.Mul h = refl
its_meaning op.Div h = refl
its_meaning op.IntDiv h = refl
its_meaning op.IntMod h = refl
its_meaning op.Neg h = refl
its_meaning op.Abs h = refl
its_meaning op.RoundDown h = refl
its_meaning op.RoundUp h = refl
its_meaning op.RoundOff h = refl
its_meaning op.Min h = refl
its_meaning op.Max h = refl
its_meaning op.Equal h = refl
its_meaning op.NotEqual h = refl
its_meaning op.Less h = refl
its_meaning op.LessEqual h = refl
its_meaning op.Greater h = refl
its_meaning op.GreaterEqual h = refl
its_meaning op.And h = refl
its_meaning op.Or h = refl
its_meaning op.Xor h = refl
its_meaning op.Not h = refl
its_meaning op.IfThen h = refl
its_meaning op.IfElse h = refl
its_meaning op.Cover h = refl
its_meaning op.Defined h = refl
its_meaning op.ToBoolean h = refl
its_meaning op.ToNominal h = refl
its_meaning op.ToOrdinal h = refl
its_meaning op.ToScalar h = refl
its_meaning op.ToDirectional h = refl
its_meaning op.LookupBoolean h = refl
its_meaning op.LookupNominal h = refl
its_meaning op.LookupOrdinal h = refl
its_meaning op.LookupScalar h = refl
its_meaning op.LookupDirectional h = refl
its_meaning op.TimeInputBoolean h = refl
its_meaning op.TimeInputNominal h = refl
its_meaning op.TimeInputOrdinal h = refl
its_meaning op.TimeInputScalar h = refl
its_meaning op.TimeInputDirectional h = refl
its_meaning op.WindowTotal h = refl
its_meaning op.WindowAverage h = refl
its_meaning op.WindowMinimum h = refl
its_meaning op.WindowMaximum h = refl
its_meaning op.WindowDiversity h = refl
its_meaning op.WindowMajority h = refl
its_meaning op.AreaTotal h = refl
its_meaning op.AreaAverage h = refl
its_meaning op.AreaMinimum h = refl
its_meaning op.AreaMaximum h = refl
its_meaning op.AreaDiversity h = refl
its_meaning op.AreaMajority h = refl
its_meaning op.AreaArea h = refl
its_meaning op.MapTotal h = refl
its_meaning op.MapMinimum h = refl
its_meaning op.MapMaximum h = refl
its_meaning (op.Near near.Upstream) h = refl
its_meaning (op.Near near.Downstream) h = refl
its_meaning (op.Flow flow.Accuflux) h = refl
its_meaning (op.Flow flow.ThresholdFlux) h = refl
its_meaning (op.Flow flow.ThresholdState) h = refl
its_meaning (op.Flow flow.Catchment) h = refl
its_meaning (op.Flow flow.CapacityFlux) h = absurd (cc)
its_meaning (op.Flow flow.CapacityState) h = absurd (cc)
its_meaning (op.Flow flow.TriggerFlux) h = absurd (cc)
its_meaning (op.Flow flow.TriggerState) h = absurd (cc)
its_meaning (op.Flow flow.FractionFlux) h = absurd (cc)
its_meaning (op.Flow flow.FractionState) h = absurd (cc)
its_meaning (op.Flow flow.Subcatchment) h = absurd (cc)
its_meaning (op.Flow flow.PathOf) h = absurd (cc)
its_meaning (op.Flow flow.StreamOrder) h = absurd (cc)

-- two operations that a row means are one
one_operation : (x o : Op) → meant.Op x ≡ meant.Op o → row_of o ≡ row_of x
one_operation x o h = let same : x ≡ o = cc in ap row_of (sym same)

-- the row of an operation that is built
built : (x : Op) (row : Row) → row_of x ≡ row → row.meant ≡ meant.Op x → IsItsRow row
built x row is means o h = one_operation x o (sym means ∙ h) ∙ is

-- a row that means no operation
no_operation : (row : Row) (m : Meant) → row.meant ≡ m → ((o : Op) → m ≡ meant.Op o → ⊥) → IsItsRow row
no_operation row m means not o h = absurd (not o (sym means ∙ h))

not_mask : (o : Op) → meant.Mask ≡ meant.Op o → ⊥
not_mask o e = cc

not_step : (o : Op) → meant.Step ≡ meant.Op o → ⊥
not_step o e = cc

not_stack : (o : Op) → meant.Stack ≡ meant.Op o → ⊥
not_stack o e = cc

not_sample : (o : Op) → meant.Sample ≡ meant.Op o → ⊥
not_sample o e = cc

-- a fact of each row of a list, one by one
abbrev Each : (Row → Type 0) → List Row → Type 0
Each P [] = Unit {0}
Each P (row ∷ rows) = P row × (Each P rows)

-- one fact and the others
infixr 4 ◌&◌
◌&◌ : {A B : Type 0} → A → B → A × B
a & b = (a, b)

from_each : (P : Row → Type 0) (rows : List Row) → Each P rows → All P rows
from_each P [] each = All-nil P
from_each P (row ∷ rows) each = All-cons P row rows each.0 (from_each P rows each.1)

-- each row that means an operation is the row of that operation
pub each_its_row : All IsItsRow table_rows
unfolding row_of table_rows
each_its_row = from_each IsItsRow OPERATIONS (
    built op.Add _ refl refl &
    built op.Sub _ refl refl &
    built op.Mul _ refl refl &
    built op.Div _ refl refl &
    built op.IntDiv _ refl refl &
    built op.IntMod _ refl refl &
    built op.Neg _ refl refl &
    built op.Abs _ refl refl &
    built op.RoundDown _ refl refl &
    built op.RoundUp _ refl refl &
    built op.RoundOff _ refl refl &
    built op.Min _ refl refl &
    built op.Max _ refl refl &
    built op.Equal _ refl refl &
    built op.NotEqual _ refl refl &
    built op.Less _ refl refl &
    built op.LessEqual _ refl refl &
    built op.Greater _ refl refl &
    built op.GreaterEqual _ refl refl &
    built op.And _ refl refl &
    built op.Or _ refl refl &
    built op.Xor _ refl refl &
    built op.Not _ refl refl &
    built op.IfThen _ refl refl &
    built op.IfElse _ refl refl &
    built op.Cover _ refl refl &
    built op.Defined _ refl refl &
    built op.ToBoolean _ refl refl &
    built op.ToNominal _ refl refl &
    built op.ToOrdinal _ refl refl &
    built op.ToScalar _ refl refl &
    built op.ToDirectional _ refl refl &
    built op.LookupBoolean _ refl refl &
    built op.LookupNominal _ refl refl &
    built op.LookupOrdinal _ refl refl &
    built op.LookupScalar _ refl refl &
    built op.LookupDirectional _ refl refl &
    built op.TimeInputBoolean _ refl refl &
    built op.TimeInputNominal _ refl refl &
    built op.TimeInputOrdinal _ refl refl &
    built op.TimeInputScalar _ refl refl &
    built op.TimeInputDirectional _ refl refl &
    no_operation _ meant.Stack refl not_stack &
    no_operation _ meant.Step refl not_step &
    no_operation _ meant.Sample refl not_sample &
    built op.WindowTotal _ refl refl &
    built op.WindowAverage _ refl refl &
    built op.WindowMinimum _ refl refl &
    built op.WindowMaximum _ refl refl &
    built op.WindowDiversity _ refl refl &
    built op.WindowMajority _ refl refl &
    built op.AreaTotal _ refl refl &
    built op.AreaAverage _ refl refl &
    built op.AreaMinimum _ refl refl &
    built op.AreaMaximum _ refl refl &
    built op.AreaDiversity _ refl refl &
    built op.AreaMajority _ refl refl &
    built op.AreaArea _ refl refl &
    built op.MapTotal _ refl refl &
    built op.MapMinimum _ refl refl &
    built op.MapMaximum _ refl refl &
    built (op.Near near.Upstream) _ refl refl &
    built (op.Near near.Downstream) _ refl refl &
    built (op.Flow flow.Accuflux) _ refl refl &
    built (op.Flow flow.ThresholdFlux) _ refl refl &
    built (op.Flow flow.ThresholdState) _ refl refl &
    built (op.Flow flow.Catchment) _ refl refl &
    no_operation _ meant.Mask refl not_mask &
    tt
    )
