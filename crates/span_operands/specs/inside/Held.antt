-- What is known of the operands of a program, and what an operation of a program has.
use Rattle.std.specs.Prelude.{◌≡◌, ◌<◌, ◌≤◌, ℕ, ◌*◌, ◌==◌, List, []}
use Rattle.std.specs.Prelude.{length, Option, Some, slice_get, slice_index_or, ⊤, true, false}
use Rattle.cell_ops.specs.declared.work.CellWork.{CellWork}
use Rattle.cell_ops.specs.declared.work.CellWork.TheVariants.{Lookup}
use Rattle.map_meaning.specs.declared.known.Known.{Known}
use Rattle.map_meaning.specs.declared.program.Operand.{Operand}
use Rattle.map_meaning.specs.declared.program.Operand.TheVariants.{Drain}
use Rattle.map_meaning.specs.declared.program.Operation.{Operation}
use Rattle.map_meaning.specs.declared.program.Program.{Program}
use Rattle.map_meaning.specs.Evaluation.{Done, operand_cell}
use Rattle.map_meaning.specs.Maps.{nth}
use Rattle.cell_values.specs.declared.kind.Kind.{Kind}
use Rattle.cell_values.specs.Kinds.{IsCell}
use Rattle.map_meaning.specs.declared.known.StepMap.{StepMap}
use Rattle.map_meaning.specs.declared.program.Role.{Role}
use Rattle.map_meaning.specs.declared.program.Role.TheVariants.{Table, Series}
use Rattle.map_meaning.specs.Programs.{IsOperationOf, are_used_first, file_role, is_grid_role, is_series_role, is_table_role}
use Rattle.map_meaning.specs.Programs.{is_unused, kinds_of, operand_kind, operands_of}
use Rattle.map_meaning.specs.Limits.{most_inputs}
use Rattle.map_meaning.specs.Rules.{kind_at, no_series, no_table}
use Rattle.map_meaning.specs.Table.{HasKinds, goes_along_drains, map_row, row_of}
use Rattle.map_meaning.specs.Scenes.{Scene, place_count}
use Rattle.map_meaning.specs.Spans.{AreAscending, IsDrainOf, at_inputs, kept_map}
use Rattle.span_operands.specs.inside.Inputs.{many_before}

-- the map of the operation k of so many is known, with so many cells
pub record HasKept (places : ℕ) (maps : List StepMap) (count k : ℕ) : Type 0 where
  pub within : k < count
  pub order : AreAscending maps
  pub some : 0 < length (kept_map maps k)
  pub size : length (kept_map maps k) ≡ places

-- the grid of the input with this number is known, with so many cells
pub record HasGrid (program : Program) (known : Known) (n : ℕ) : Type 0 where
  pub within : n < length program.inputs
  pub few : n ≤ most_inputs
  pub there : many_before is_grid_role program.inputs n < length known.maps
  pub is : nth known.maps (many_before is_grid_role program.inputs n) ≡ nth (at_inputs is_grid_role [] program.inputs known.maps) n
  pub size : length (nth known.maps (many_before is_grid_role program.inputs n)) ≡ known.rows * known.cols

-- the map of a name at the step before is known, with so many cells
pub record HasLast (program : Program) (step : ℕ) (known : Known) (dynamic initial : ℕ) : Type 0 where
  pub begun : (step == 1) ≡ true → HasKept (known.rows * known.cols) known.initial (length program.initial) initial
  pub carried : (step == 1) ≡ false → HasKept (known.rows * known.cols) known.last (length program.dynamic) dynamic

-- the drain map with the number n is known, with so many rows and columns
abbrev pub HasDrainMap : Known → ℕ → Type 0
HasDrainMap known n = IsDrainOf known.rows known.cols (slice_get known.drains n)

-- an operand that is there has a kind
abbrev pub HasItsKind : Program → Operand → Type 0
HasItsKind program operand = is_unused operand ≡ false → (kind : Kind) × (operand_kind program operand ≡ Some kind)

-- the operand has a kind where it is one, and a cell of this kind at each place
pub record HasItsCells (program : Program) (scene : Scene) (done : Done) (operand : Operand) : Type 0 where
  pub kind : HasItsKind program operand
  pub cells : (place : ℕ) (kind : Kind) → operand_kind program operand ≡ Some kind → place < place_count scene →
      IsCell kind (operand_cell scene done operand place)

-- the operands of an operation have cells of kinds that the table of operations allows, and it has what else it needs
abbrev pub HasSoundOperands : Program → Scene → Done → Operation → Type 0
HasSoundOperands program scene done o = IsOperationOf program (HasItsCells program scene done) o.kept o

-- the table of an operation is known, at its place among the tables
pub record HasTable (program : Program) (known : Known) (n : ℕ) : Type 0 where
  pub within : n < length program.inputs
  pub few : n ≤ most_inputs
  pub there : many_before is_table_role program.inputs n < length known.tables
  pub is : slice_index_or known.tables (many_before is_table_role program.inputs n) no_table ≡
      slice_index_or (at_inputs is_table_role no_table program.inputs known.tables) n no_table

-- the series of an operation is known, at its place among the series
pub record HasSeries (program : Program) (known : Known) (n : ℕ) : Type 0 where
  pub within : n < length program.inputs
  pub few : n ≤ most_inputs
  pub there : many_before is_series_role program.inputs n < length known.series
  pub is : slice_index_or known.series (many_before is_series_role program.inputs n) no_series ≡
      slice_index_or (at_inputs is_series_role no_series program.inputs known.series) n no_series

-- what an operation looks its results up in is known
abbrev pub HasFile : Program → Known → Option Role → ℕ → Type 0
HasFile program known (Some (Table keys)) n = HasTable program known n
HasFile program known (Some Series) n = HasSeries program known n
HasFile program known _ n = ⊤

-- the operation is one of the program's: it has operands of kinds that the table of operations allows, and its file is known
pub record IsOneOf (program : Program) (known : Known) (o : Operation) : Type 0 where
  pub used : are_used_first (operands_of o) ≡ true
  pub a : HasItsKind program o.a
  pub b : HasItsKind program o.b
  pub c : HasItsKind program o.c
  pub d : HasItsKind program o.d
  pub drain : goes_along_drains o.op ≡ true → HasItsKind program (Drain o.drain)
  pub kinds : HasKinds (map_row (row_of o.op)) (kinds_of program o) o.kind
  pub file : HasFile program known (file_role o.op (length (kinds_of program o))) o.file

-- the work is that of a lookup: its table, and the kinds of its operands
abbrev pub IsLookup : Program → Known → Operation → CellWork → Type 0
IsLookup program known o (Lookup table keys) =
    (table.now ≡ slice_index_or (at_inputs is_table_role no_table program.inputs known.tables) o.file no_table) ×
    ((i : ℕ) → i < 4 → kind_at keys i ≡ kind_at (kinds_of program o) i)
IsLookup program known o _ = ⊥
