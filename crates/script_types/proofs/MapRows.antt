-- Rows that ask maps alone: those of operations whose operands are what settled expressions have.
use Rattle.std.proofs.Common.{◌≡◌, ◌∙◌, ℕ, ◌&&◌, Bool, true, false, List, [], ◌∷◌, refl, ap, if◌then◌else◌}
use Rattle.std.specs.Prelude.{None}
use Rattle.cell_values.specs.declared.kind.Kind.{Kind}
use Rattle.drain_meaning.specs.declared.op.FlowOp.TheVariants as flow
use Rattle.drain_meaning.specs.declared.op.NearOp.TheVariants as near
use Rattle.map_meaning.specs.declared.op.Op.{Op}
use Rattle.map_meaning.specs.declared.op.Op.TheVariants as op
use Rattle.map_meaning.specs.Programs.{file_role}
use Rattle.map_meaning.specs.Table.{before_length, behind_file, is_file, is_focal, is_length, map_row, row_of}
use Rattle.script_types.specs.inside.Sound.{has_kinds}

-- no kind is allowed where a table or a series is asked
not-first : (a : Bool) → (a && false) ≡ true → ⊥
not-first true h = cc
not-first false h = cc

-- nor where the length of a window is asked
not-second : (a b c : Bool) → (a && ((b && false) && c)) ≡ true → ⊥
not-second true true c h = cc
not-second true false c h = cc
not-second false b c h = cc

-- a row that allows its operands asks no table and no series
pub asks-no-file-first : (o : Op) (kinds : List Kind) (kind : Kind) → has_kinds (row_of o) kinds kind ≡ true → is_file (row_of o).first ≡ false
unfolding row_of
asks-no-file-first op.LookupBoolean [] kind h = absurd (cc)
asks-no-file-first op.LookupBoolean (k ∷ kinds) kind h = absurd (not-first _ h)
asks-no-file-first op.LookupNominal [] kind h = absurd (cc)
asks-no-file-first op.LookupNominal (k ∷ kinds) kind h = absurd (not-first _ h)
asks-no-file-first op.LookupOrdinal [] kind h = absurd (cc)
asks-no-file-first op.LookupOrdinal (k ∷ kinds) kind h = absurd (not-first _ h)
asks-no-file-first op.LookupScalar [] kind h = absurd (cc)
asks-no-file-first op.LookupScalar (k ∷ kinds) kind h = absurd (not-first _ h)
asks-no-file-first op.LookupDirectional [] kind h = absurd (cc)
asks-no-file-first op.LookupDirectional (k ∷ kinds) kind h = absurd (not-first _ h)
asks-no-file-first op.TimeInputBoolean [] kind h = absurd (cc)
asks-no-file-first op.TimeInputBoolean (k ∷ kinds) kind h = absurd (not-first _ h)
asks-no-file-first op.TimeInputNominal [] kind h = absurd (cc)
asks-no-file-first op.TimeInputNominal (k ∷ kinds) kind h = absurd (not-first _ h)
asks-no-file-first op.TimeInputOrdinal [] kind h = absurd (cc)
asks-no-file-first op.TimeInputOrdinal (k ∷ kinds) kind h = absurd (not-first _ h)
asks-no-file-first op.TimeInputScalar [] kind h = absurd (cc)
asks-no-file-first op.TimeInputScalar (k ∷ kinds) kind h = absurd (not-first _ h)
asks-no-file-first op.TimeInputDirectional [] kind h = absurd (cc)
asks-no-file-first op.TimeInputDirectional (k ∷ kinds) kind h = absurd (not-first _ h)
asks-no-file-first (op.Near near.Upstream) kinds kind h = refl
asks-no-file-first (op.Flow flow.Accuflux) kinds kind h = refl
asks-no-file-first _ kinds kind h = refl

-- nor the length of a window
pub asks-no-length : (o : Op) (kinds : List Kind) (kind : Kind) → has_kinds (row_of o) kinds kind ≡ true → is_length (row_of o).second ≡ false
unfolding row_of
asks-no-length op.WindowTotal [] kind h = absurd (cc)
asks-no-length op.WindowTotal (j ∷ []) kind h = absurd (cc)
asks-no-length op.WindowTotal (j ∷ k ∷ kinds) kind h = absurd (not-second _ _ _ h)
asks-no-length op.WindowAverage [] kind h = absurd (cc)
asks-no-length op.WindowAverage (j ∷ []) kind h = absurd (cc)
asks-no-length op.WindowAverage (j ∷ k ∷ kinds) kind h = absurd (not-second _ _ _ h)
asks-no-length op.WindowMinimum [] kind h = absurd (cc)
asks-no-length op.WindowMinimum (j ∷ []) kind h = absurd (cc)
asks-no-length op.WindowMinimum (j ∷ k ∷ kinds) kind h = absurd (not-second _ _ _ h)
asks-no-length op.WindowMaximum [] kind h = absurd (cc)
asks-no-length op.WindowMaximum (j ∷ []) kind h = absurd (cc)
asks-no-length op.WindowMaximum (j ∷ k ∷ kinds) kind h = absurd (not-second _ _ _ h)
asks-no-length op.WindowDiversity [] kind h = absurd (cc)
asks-no-length op.WindowDiversity (j ∷ []) kind h = absurd (cc)
asks-no-length op.WindowDiversity (j ∷ k ∷ kinds) kind h = absurd (not-second _ _ _ h)
asks-no-length op.WindowMajority [] kind h = absurd (cc)
asks-no-length op.WindowMajority (j ∷ []) kind h = absurd (cc)
asks-no-length op.WindowMajority (j ∷ k ∷ kinds) kind h = absurd (not-second _ _ _ h)
asks-no-length (op.Near near.Upstream) kinds kind h = refl
asks-no-length (op.Flow flow.Accuflux) kinds kind h = refl
asks-no-length _ kinds kind h = refl

-- it asks maps alone
pub map-row-is : (o : Op) (kinds : List Kind) (kind : Kind) → has_kinds (row_of o) kinds kind ≡ true → map_row (row_of o) ≡ row_of o
map-row-is o kinds kind h = ap (λ b. if b then behind_file (row_of o) else if is_length (row_of o).second then before_length (row_of o) else row_of o) (asks-no-file-first o kinds kind h) ∙ ap (λ b. if b then before_length (row_of o) else row_of o) (asks-no-length o kinds kind h)

-- an operation whose row asks no table and no series looks nothing up
no-file-role : (o : Op) (count : ℕ) → is_file (row_of o).first ≡ false → file_role o count ≡ None
unfolding row_of
no-file-role op.LookupBoolean count h = cc
no-file-role op.LookupNominal count h = cc
no-file-role op.LookupOrdinal count h = cc
no-file-role op.LookupScalar count h = cc
no-file-role op.LookupDirectional count h = cc
no-file-role op.TimeInputBoolean count h = cc
no-file-role op.TimeInputNominal count h = cc
no-file-role op.TimeInputOrdinal count h = cc
no-file-role op.TimeInputScalar count h = cc
no-file-role op.TimeInputDirectional count h = cc
no-file-role _ count h = refl

pub no-file : (o : Op) (count : ℕ) (kinds : List Kind) (kind : Kind) → has_kinds (row_of o) kinds kind ≡ true → file_role o count ≡ None
no-file o count kinds kind h = no-file-role o count (asks-no-file-first o kinds kind h)

-- one whose row asks no length looks at no windows
no-length-role : (o : Op) → is_length (row_of o).second ≡ false → is_focal o ≡ false
unfolding row_of
no-length-role op.WindowTotal h = cc
no-length-role op.WindowAverage h = cc
no-length-role op.WindowMinimum h = cc
no-length-role op.WindowMaximum h = cc
no-length-role op.WindowDiversity h = cc
no-length-role op.WindowMajority h = cc
no-length-role _ h = refl

pub no-window : (o : Op) (kinds : List Kind) (kind : Kind) → has_kinds (row_of o) kinds kind ≡ true → is_focal o ≡ false
no-window o kinds kind h = no-length-role o (asks-no-length o kinds kind h)

-- what looks at windows looks nothing up
pub window-no-file : (o : Op) (count : ℕ) → is_focal o ≡ true → file_role o count ≡ None
window-no-file op.WindowTotal count h = refl
window-no-file op.WindowAverage count h = refl
window-no-file op.WindowMinimum count h = refl
window-no-file op.WindowMaximum count h = refl
window-no-file op.WindowDiversity count h = refl
window-no-file op.WindowMajority count h = refl
window-no-file _ count h = cc
