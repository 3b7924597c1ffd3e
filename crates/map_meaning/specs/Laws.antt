-- What holds of all operations, statements and programs.
use Rattle.std.specs.Prelude.{◌≡◌, ◌≢◌, ◌<◌, ℕ, zero, suc, ◌+◌, ◌*◌, ℤ, pos, ◌+ℤ◌, ◌-ℤ◌, ◌*ℤ◌, ◌≤ℤ◌, ◌<ℤ◌, ◌≤◌, true, false, ◌⊎◌, ⊤}
use Rattle.std.specs.Prelude.{List, [], ◌∷◌, ◌++◌, length, slice_get, All, AllPairs, Contains, Option, Some, Result, Ok, Err, IsOk, IfSome}
use Rattle.text_base.specs.Limits.{most_cells}
use Rattle.text_base.specs.Results.{◌>>=◌}
use Rattle.cell_values.specs.declared.kind.Kind.{Kind}
use Rattle.cell_values.specs.declared.cell.Cell.TheVariants.{Mv}
use Rattle.cell_values.specs.Kinds.{IsCell}
use Rattle.tile_map.specs.Parts.{Outcome}
use Rattle.map_meaning.specs.declared.known.Known.{Known}
use Rattle.map_meaning.specs.declared.known.OverAt.{OverAt}
use Rattle.map_meaning.specs.declared.known.Span.{Span}
use Rattle.map_meaning.specs.declared.known.StepMap.{StepMap}
use Rattle.map_meaning.specs.declared.op.Op.{Op}
use Rattle.map_meaning.specs.declared.program.Operation.{Operation}
use Rattle.map_meaning.specs.declared.program.Program.{Program}
use Rattle.map_meaning.specs.declared.program.Role.{Role}
use Rattle.map_meaning.specs.declared.program.Role.TheVariants.{Series, Table}
use Rattle.map_meaning.specs.declared.row.Meant.TheVariants as meant
use Rattle.map_meaning.specs.declared.row.Row.{Row}
use Rattle.map_meaning.specs.declared.tree.Statement.{Statement}
use Rattle.map_meaning.specs.Evaluation.{Done, operation_values}
use Rattle.map_meaning.specs.Maps.{CellAt, IsMapOf, WholeMap}
use Rattle.map_meaning.specs.Missing.{spreads_missing}
use Rattle.map_meaning.specs.Onward.{ComesBefore, Onward, onward}
use Rattle.map_meaning.specs.Overs.{may_be_over}
use Rattle.map_meaning.specs.Scenes.{Scene}
use Rattle.map_meaning.specs.Programs.{IsWellFormed, StandsBefore, file_role}
use Rattle.map_meaning.specs.Rules.{Setting, kind_at, operand_at, outcome_of, setting_places}
use Rattle.map_meaning.specs.Sections.{After, after_statements}
use Rattle.map_meaning.specs.Spans.{HasSeriesKind, HasTableKind, IsSpan, Knows, stage_of}
use Rattle.map_meaning.specs.Table.{HasKinds, has_row, map_row, row_of, table_rows}
use Rattle.map_meaning.specs.Whole.{whole_above, whole_below}

-- ---- the table

-- a row that means an operation is the row of that operation
abbrev pub IsItsRow : Row → Type 0
IsItsRow row = (o : Op) → row.meant ≡ meant.Op o → row_of o ≡ row

-- each operation but a transport without a word has a row that means it, and the table has no other
pub record HaveOneRow : Type 0 where
  pub row : (o : Op) → has_row o ≡ true → (row_of o).meant ≡ meant.Op o
  pub only : All IsItsRow table_rows

-- ---- cells

-- what an operation looks its results up in, if it does, has values of the kind
abbrev pub HoldsKind : Option Role → Setting → Kind → Type 0
HoldsKind (Some (Table keys)) setting kind = HasTableKind kind setting.table
HoldsKind (Some Series) setting kind = HasSeriesKind kind setting.series
HoldsKind _ setting kind = ⊤

-- the cell of an outcome is one of the kind
abbrev pub LiesIn : Kind → Outcome → Type 0
LiesIn kind (Ok cell) = IsCell kind cell
LiesIn kind (Err over) = ⊤

-- the operands have cells of these kinds at the place
abbrev pub HaveKindsAt : List Kind → List CellAt → ℕ → Type 0
HaveKindsAt kinds operands place = (i : ℕ) → i < length kinds → IsCell (kind_at kinds i) (operand_at operands i place)

-- the operands are maps within the limits: they have cells of their kinds at all places
pub record AreMapsOfKinds (setting : Setting) (operands : List CellAt) : Type 0 where
  pub few : setting_places setting ≤ most_cells
  pub kinds : (place : ℕ) → place < setting_places setting → HaveKindsAt setting.kinds operands place

-- where an operation's operands have cells of their kinds at all places of a map, and what it looks up is of its kind, its
-- results are cells of its kind
abbrev pub LieInTheirKind : Type 0
LieInTheirKind =
    (o : Op) (setting : Setting) (kind : Kind) (operands : List CellAt) (place : ℕ) →
    HasKinds (map_row (row_of o)) setting.kinds kind → HoldsKind (file_role o (length setting.kinds)) setting kind →
    AreMapsOfKinds setting operands → place < setting_places setting →
    LiesIn kind (outcome_of o setting operands place)

-- where an operation's operands have cells of their kinds at all places of a map, no result but those of a few is out of range
abbrev pub StayInRange : Type 0
StayInRange =
    (o : Op) (setting : Setting) (kind : Kind) (operands : List CellAt) (place : ℕ) →
    may_be_over o ≡ false → HasKinds (map_row (row_of o)) setting.kinds kind →
    AreMapsOfKinds setting operands → place < setting_places setting →
    IsOk (outcome_of o setting operands place)

-- The operand at this place counts: the operation takes so many at least, or it is a key of the table that it looks up in, of
-- which there are four at most.
abbrev pub CountsAsOperand : Op → Setting → ℕ → Type 0
CountsAsOperand o setting i =
    (i < (map_row (row_of o)).least)
    ⊎ ((file_role o setting.table.keys ≡ Some (Table setting.table.keys)) × (i < setting.table.keys) × (i < 4))

-- where an operand is missing of which the policy on missing values says so, the result is missing
abbrev pub SpreadMissing : Type 0
SpreadMissing =
    (o : Op) (setting : Setting) (operands : List CellAt) (place i : ℕ) →
    spreads_missing o i ≡ true → CountsAsOperand o setting i → operand_at operands i place ≡ Mv →
    outcome_of o setting operands place ≡ Ok Mv

-- ---- whole numbers

-- the greatest whole number that is not above a scalar
pub record IsWholeBelow (z w : ℤ) : Type 0 where
  pub whole : (k : ℤ) × (w ≡ k *ℤ pos 1000000)
  pub not_above : w ≤ℤ z
  pub greatest : z <ℤ (w +ℤ pos 1000000)

-- the least whole number that is not below a scalar
pub record IsWholeAbove (z w : ℤ) : Type 0 where
  pub whole : (k : ℤ) × (w ≡ k *ℤ pos 1000000)
  pub not_below : z ≤ℤ w
  pub least : (w -ℤ pos 1000000) <ℤ z

-- what `rounddown` and `roundup` find are the nearest whole numbers on their side
pub record AreNearWhole : Type 0 where
  pub below : (z : ℤ) → IsWholeBelow z (whole_below z)
  pub above : (z : ℤ) → IsWholeAbove z (whole_above z)

-- ---- statements

-- one statement gave its target its map, and left all other names as they were
pub record ChangesItsTarget (before after : After) (s : Statement) : Type 0 where
  pub map : WholeMap
  pub target : after.names s.target ≡ map
  pub others : (name : List ℕ) → name ≢ s.target → after.names name ≡ before.names name

-- what stands after a statement differs only at its target
abbrev pub ChangeTheirTargets : Type 0
ChangeTheirTargets =
    (scene : Scene) (number : ℕ) (before after : After) (s : Statement) →
    after_statements scene number before (s ∷ []) ≡ Ok after → ChangesItsTarget before after s

-- what statements give is what the later ones give where the earlier ones have been
abbrev pub SectionsGoOn : Type 0
SectionsGoOn =
    (scene : Scene) (number : ℕ) (before : After) (earlier later : List Statement) →
    after_statements scene number before (earlier ++ later)
    ≡ after_statements scene number before earlier >>= λ after. after_statements scene (number + length earlier) after later

-- what operations give is what the later ones give where the earlier ones are done
abbrev pub OperationsGoOn : Type 0
OperationsGoOn =
    (program : Program) (scene : Scene) (s : Span) (done : Done) (earlier later : List Operation) →
    operation_values program scene s done (earlier ++ later)
    ≡ operation_values program scene s done earlier >>= λ after. operation_values program scene s after later

-- ---- the first Over

-- it is one of the notes, and all others are those of later operations
pub record IsLeastOf (notes : List OverAt) (at : OverAt) : Type 0 where
  pub noted : Contains notes at
  pub least : All (λ note. (note ≡ at) ⊎ ComesBefore at note) notes

-- the maps are those of the evaluation that went on, which noted nothing; or the Over is the least of its notes
abbrev pub TellsLeast : Result Done OverAt → Onward → Type 0
TellsLeast (Ok done) o = (o.notes ≡ []) × (o.done ≡ done)
TellsLeast (Err at) o = IsLeastOf o.notes at

-- The first Over of operations in their order is the least of those that the evaluation which goes on notes.
abbrev pub TellTheLeastOver : Type 0
TellTheLeastOver =
    (program : Program) (scene : Scene) (s : Span) (done : Done) (operations : List Operation) → AllPairs StandsBefore operations →
    TellsLeast (operation_values program scene s done operations) (onward program scene s done operations)

-- ---- kept maps

-- the operations that are evaluated at a step: those of `initial` at step 0
abbrev pub operations_at : Program → ℕ → List Operation
operations_at program zero = program.initial
operations_at program (suc step) = program.dynamic

-- a kept map has a cell for each place, of the kind of its operation
abbrev pub IsWholeMap : Program → ℕ → StepMap → Type 0
IsWholeMap program places kept = IfSome (slice_get (operations_at program kept.step) kept.operation) (λ o. IsMapOf places o.kind kept.cells)

-- each map that a span gives has all its cells, and they are of its operation's kind
abbrev pub GiveWholeMaps : Type 0
GiveWholeMaps =
    (program : Program) (s : Span) (known : Known) (block : ℕ) →
    IsWellFormed program → IsSpan program s block → Knows program s known →
    All (IsWholeMap program (known.rows * known.cols)) (stage_of program s known).maps
