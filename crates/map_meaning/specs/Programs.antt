-- Well-formed programs.
use Rattle.std.specs.Prelude.{◌≡◌, ◌≢◌, ◌<◌, ◌≤◌, ℕ, ◌+◌, ◌==◌, max, nat_le, nat_lt}
use Rattle.std.specs.Prelude.{Bool, true, false, ◌||◌, ◌&&◌, if◌then◌else◌, IsTrue, ⊤, ◌⊎◌}
use Rattle.std.specs.Prelude.{List, [], ◌∷◌, length, slice_get, All, AllPairs, Option, Some, None, IfSome, option_map}
use Rattle.std.specs.List.{filter, filter_map, list_all, list_any}
use Rattle.text_base.specs.Words.{is_file_word}
use Rattle.cell_values.specs.declared.kind.Kind.{Kind}
use Rattle.cell_values.specs.declared.kind.Kind.TheVariants as kinds
use Rattle.cell_values.specs.Kinds.{IsCell}
use Rattle.map_meaning.specs.declared.op.Op.{Op}
use Rattle.map_meaning.specs.declared.op.Op.TheVariants as op
use Rattle.map_meaning.specs.declared.program.Operand.{Operand}
use Rattle.map_meaning.specs.declared.program.DrainFrom.{DrainFrom}
use Rattle.map_meaning.specs.declared.program.DrainFrom.TheVariants as drain
use Rattle.map_meaning.specs.declared.program.DrainUse.{DrainUse}
use Rattle.map_meaning.specs.declared.program.Operand.TheVariants.{Unused, Literal, Time, Input, Initial, Now, Last, Drain}
use Rattle.map_meaning.specs.declared.program.Operand.TheVariants as from
use Rattle.map_meaning.specs.declared.program.Operation.{Operation}
use Rattle.map_meaning.specs.declared.program.OutputKind.{OutputKind}
use Rattle.map_meaning.specs.declared.program.OutputKind.TheVariants.{InitialGrid, StackGrid, Sample}
use Rattle.map_meaning.specs.declared.program.Role.{Role}
use Rattle.map_meaning.specs.declared.program.Role.TheVariants.{Grid, Stack, Table, Series}
use Rattle.map_meaning.specs.declared.program.OutputUse.{OutputUse}
use Rattle.map_meaning.specs.declared.program.Program.{Program}
use Rattle.map_meaning.specs.Limits.{most_drains, most_operations, most_statements, most_inputs, most_steps, most_stacks}
use Rattle.map_meaning.specs.Table.{HasKinds, goes_along_drains, is_focal, is_window_length, map_row, row_of}

-- ---- roles

-- an input is read once, as a map
abbrev pub is_grid_role : Role → Bool
is_grid_role Grid = true
is_grid_role _ = false

-- an input is a map for each step
abbrev pub is_stack_role : Role → Bool
is_stack_role Stack = true
is_stack_role _ = false

-- an input is a table
abbrev pub is_table_role : Role → Bool
is_table_role (Table keys) = true
is_table_role _ = false

-- an input is a series
abbrev pub is_series_role : Role → Bool
is_series_role Series = true
is_series_role _ = false

-- Tables have 1 to 4 keys, and no table, series or stack has drain directions.
abbrev pub SuitsRole : Kind → Role → Type 0
SuitsRole kind Grid = ⊤
SuitsRole kind Stack = kind ≢ kinds.Ldd
SuitsRole kind (Table keys) = (1 ≤ keys) × (keys ≤ 4) × (kind ≢ kinds.Ldd)
SuitsRole kind Series = kind ≢ kinds.Ldd

-- the input with this number has this role
pub record IsInput (program : Program) (asked : Role) (n : ℕ) : Type 0 where
  pub within : n < length program.inputs
  pub role : IfSome (slice_get program.inputs n) (λ input. input.role ≡ asked)

-- ---- kinds

-- the kind of an input, if it is there
abbrev pub input_kind : Program → ℕ → Option Kind
input_kind program n = option_map (λ input. input.kind) (slice_get program.inputs n)

-- the kind of an operation of a section, if it is there
abbrev pub operation_kind : List Operation → ℕ → Option Kind
operation_kind operations n = option_map (λ o. o.kind) (slice_get operations n)

-- the kind of the drain map with this number, if it is there
abbrev pub drain_kind : Program → ℕ → Option Kind
drain_kind program n = option_map (λ d. kinds.Ldd) (slice_get program.drains n)

-- the kind of an operand, where it is one
abbrev pub operand_kind : Program → Operand → Option Kind
operand_kind program Unused = None
operand_kind program (Literal kind cell) = Some kind
operand_kind program Time = Some kinds.Scalar
operand_kind program (Input n) = input_kind program n
operand_kind program (from.Stack n) = input_kind program n
operand_kind program (Initial n) = operation_kind program.initial n
operand_kind program (Now n) = operation_kind program.dynamic n
operand_kind program (Last dynamic initial) = operation_kind program.dynamic dynamic
operand_kind program (Drain n) = drain_kind program n

-- the operands of an operation, but for the drain map that it goes along
abbrev pub operands_of : Operation → List Operand
operands_of o = o.a ∷ o.b ∷ o.c ∷ o.d ∷ []

-- all operands of an operation: the drain map that it goes along stands first
abbrev pub all_operands : Operation → List Operand
all_operands o = if goes_along_drains o.op then Drain o.drain ∷ operands_of o else operands_of o

-- the kinds of an operation's operands
abbrev pub kinds_of : Program → Operation → List Kind
kinds_of program o = filter_map (operand_kind program) (all_operands o)

-- ---- what an operation reads

-- there is no such operand
abbrev pub is_unused : Operand → Bool
is_unused Unused = true
is_unused _ = false

-- behind an operand that is unused all are
abbrev pub are_used_first : List Operand → Bool
are_used_first [] = true
are_used_first (Unused ∷ more) = list_all is_unused more
are_used_first (operand ∷ more) = are_used_first more

-- the drain map with this number is computed once so many operations of `initial` are
pub record IsDueBy (program : Program) (count n : ℕ) : Type 0 where
  pub within : n < length program.drains
  pub after : IfSome (slice_get program.drains n) (λ d. d.after ≤ count)

-- the operand may be one of the operation of `initial` with this number
abbrev pub IsBelow : Program → ℕ → Operand → Type 0
IsBelow program n Unused = ⊤
IsBelow program n (Literal kind cell) = IsCell kind cell
IsBelow program n (Input k) = IsInput program Grid k
IsBelow program n (Initial k) = k < n
IsBelow program n (Drain k) = IsDueBy program n k
IsBelow program n _ = ⊥

-- what a name had before: an operation of `dynamic` and one of `initial`, of one kind
pub record AreOneName (program : Program) (dynamic initial : ℕ) : Type 0 where
  pub of_dynamic : dynamic < length program.dynamic
  pub of_initial : initial < length program.initial
  pub kind : operation_kind program.dynamic dynamic ≡ operation_kind program.initial initial

-- the operand may be one of the operation of `dynamic` with this number
abbrev pub IsBelowNow : Program → ℕ → Operand → Type 0
IsBelowNow program n Unused = ⊤
IsBelowNow program n (Literal kind cell) = IsCell kind cell
IsBelowNow program n Time = ⊤
IsBelowNow program n (Input k) = IsInput program Grid k
IsBelowNow program n (from.Stack k) = IsInput program Stack k
IsBelowNow program n (Initial k) = k < length program.initial
IsBelowNow program n (Now k) = k < n
IsBelowNow program n (Last dynamic initial) = AreOneName program dynamic initial
IsBelowNow program n (Drain k) = k < length program.drains

-- the role of the input that an operation on so many operands looks its results up in, if it does
abbrev pub file_role : Op → ℕ → Option Role
file_role op.LookupBoolean keys = Some (Table keys)
file_role op.LookupNominal keys = Some (Table keys)
file_role op.LookupOrdinal keys = Some (Table keys)
file_role op.LookupScalar keys = Some (Table keys)
file_role op.LookupDirectional keys = Some (Table keys)
file_role op.TimeInputBoolean keys = Some Series
file_role op.TimeInputNominal keys = Some Series
file_role op.TimeInputOrdinal keys = Some Series
file_role op.TimeInputScalar keys = Some Series
file_role op.TimeInputDirectional keys = Some Series
file_role _ keys = None

-- the input with this number has this role and this kind
pub record IsFile (program : Program) (asked : Role) (kind : Kind) (n : ℕ) : Type 0 where
  pub input : IsInput program asked n
  pub kind_is : input_kind program n ≡ Some kind

-- the input with this number has the role and the kind, where there is a role
abbrev pub IsFileOf : Program → Option Role → Kind → ℕ → Type 0
IsFileOf program None kind n = ⊤
IsFileOf program (Some asked) kind n = IsFile program asked kind n

-- An operation whose operands are such: those that it has come first, its operands and its map have kinds of its row of the
-- table, its drain map, its file and its window are such for it, and it is kept where it is to be.
pub record IsOperationOf (program : Program) (IsRead : Operand → Type 0) (keep : Bool) (o : Operation) : Type 0 where
  pub a : IsRead o.a
  pub b : IsRead o.b
  pub c : IsRead o.c
  pub d : IsRead o.d
  pub used : are_used_first (operands_of o) ≡ true
  pub kinds : HasKinds (map_row (row_of o.op)) (kinds_of program o) o.kind
  pub drain : goes_along_drains o.op ≡ true → IsRead (Drain o.drain)
  pub window : is_focal o.op ≡ true → is_window_length o.window ≡ true
  pub file : IsFileOf program (file_role o.op (length (kinds_of program o))) o.kind o.file
  pub kept : o.kept ≡ keep

-- ---- what is kept

-- the operand may be the map of the operation of `initial` with this number
abbrev pub is_initial : ℕ → Operand → Bool
is_initial n (Initial k) = k == n
is_initial n (Last dynamic k) = k == n
is_initial n _ = false

-- the operand is the map of the operation of `dynamic` with this number at the same step
abbrev pub is_now : ℕ → Operand → Bool
is_now n (Now k) = k == n
is_now n _ = false

-- the operand may be the map of the operation of `dynamic` with this number at the step before
abbrev pub is_last : ℕ → Operand → Bool
is_last n (Last k initial) = k == n
is_last n _ = false

-- an operation of `dynamic` has an operand that passes a test
abbrev pub is_read_in_steps : Program → (Operand → Bool) → Bool
is_read_in_steps program test = list_any (λ o. list_any test (operands_of o)) program.dynamic

-- an output writes an operand that passes a test
abbrev pub is_output : Program → (Operand → Bool) → Bool
is_output program test = list_any (λ output. test output.value) program.outputs

-- an output writes the map of the operation of `initial` with this number
abbrev pub is_written : Program → ℕ → Bool
is_written program n = is_output program (is_initial n)

-- a drain map is masked by an operand that passes a test
abbrev pub is_mask_by : (Operand → Bool) → DrainFrom → Bool
is_mask_by test (drain.Mask of by) = test by
is_mask_by test _ = false

-- the map of the operation of `initial` with this number masks a drain map
abbrev pub is_mask : Program → ℕ → Bool
is_mask program n = list_any (λ d. is_mask_by (is_initial n) d.from) program.drains

-- Where the stage begins that the operation of `initial` with this number stands in: behind the last drain map that is computed
-- before it.
abbrev pub stage_begin : List DrainUse → ℕ → ℕ
stage_begin [] n = 0
stage_begin (d ∷ ds) n = if nat_le d.after n then max d.after (stage_begin ds n) else stage_begin ds n

-- one of these operations of `initial`, whose numbers count from k, reads the map of the operation n of an earlier stage
abbrev pub is_read_behind : List DrainUse → ℕ → ℕ → List Operation → Bool
is_read_behind drains n k [] = false
is_read_behind drains n k (o ∷ more) =
    (list_any (is_initial n) (operands_of o) && nat_lt n (stage_begin drains k)) || is_read_behind drains n (k + 1) more

-- an operation of a later stage reads the map of the operation of `initial` with this number
abbrev pub is_read_later : Program → ℕ → Bool
is_read_later program n = is_read_behind program.drains n 0 program.initial

-- An operation of `initial` is kept where a step, a later stage or a mask reads its map, or an output writes it.
abbrev pub is_kept_map : Program → ℕ → Bool
is_kept_map program n =
    is_read_in_steps program (is_initial n) || is_written program n || is_mask program n || is_read_later program n

-- a step reads the map that the operation of `dynamic` with this number had at the step before
abbrev pub is_carried : Program → ℕ → Bool
is_carried program n = is_read_in_steps program (is_last n)

-- An operation of `dynamic` is kept where the next step reads its map, or an output writes it, at its own step or the next.
abbrev pub is_kept_in_steps : Program → ℕ → Bool
is_kept_in_steps program n = is_carried program n || is_output program (λ operand. is_now n operand || is_last n operand)

-- ---- the operations of a section

-- An operation of `initial` with this number: it reads inputs, numbers and operations before it.
abbrev pub IsOperation : Program → ℕ → Operation → Type 0
IsOperation program n o = IsOperationOf program (IsBelow program n) (is_kept_map program n) o

-- An operation of `dynamic` with this number: it reads also the step, stacks, operations of `initial`, and those of the step
-- before.
abbrev pub IsStepOperation : Program → ℕ → Operation → Type 0
IsStepOperation program n o = IsOperationOf program (IsBelowNow program n) (is_kept_in_steps program n) o

-- operations of `initial` whose numbers count from n
abbrev pub AreOperations : Program → ℕ → List Operation → Type 0
AreOperations program n [] = ⊤
AreOperations program n (o ∷ more) = IsOperation program n o × AreOperations program (n + 1) more

-- operations of `dynamic` whose numbers count from n
abbrev pub AreStepOperations : Program → ℕ → List Operation → Type 0
AreStepOperations program n [] = ⊤
AreStepOperations program n (o ∷ more) = IsStepOperation program n o × AreStepOperations program (n + 1) more

-- the first stands in an earlier statement, or in the same one with a lower number
abbrev pub StandsBefore : Operation → Operation → Type 0
StandsBefore o p = (o.statement < p.statement) ⊎ ((o.statement ≡ p.statement) × (o.number < p.number))

-- ---- drain maps

-- The drain map with the number n, which is computed behind so many operations of `initial`, comes from an input of its kind,
-- which was read before any operation, or from a drain map before it, as it is or masked by a boolean that is known by then.
abbrev pub IsFrom : Program → ℕ → ℕ → DrainFrom → Type 0
IsFrom program n after (drain.Input k) = IsInput program Grid k × (input_kind program k ≡ Some kinds.Ldd) × (after ≡ 0)
IsFrom program n after (drain.Same k) = k < n
IsFrom program n after (drain.Mask of by) = (of < n) × IsBelow program after by × (operand_kind program by ≡ Some kinds.Boolean)

-- a drain map of a program, with the number n
pub record IsDrainUse (program : Program) (n : ℕ) (d : DrainUse) : Type 0 where
  pub from : IsFrom program n d.after d.from
  pub within : d.after ≤ length program.initial

-- drain maps whose numbers count from n
abbrev pub AreDrainUses : Program → ℕ → List DrainUse → Type 0
AreDrainUses program n [] = ⊤
AreDrainUses program n (d ∷ ds) = IsDrainUse program n d × AreDrainUses program (n + 1) ds

-- ---- outputs

-- ids are booleans or classes
abbrev pub is_id_kind : Kind → Bool
is_id_kind kinds.Boolean = true
is_id_kind kinds.Nominal = true
is_id_kind kinds.Ordinal = true
is_id_kind _ = false

-- the input with this number is a map of ids
pub record IsIds (program : Program) (n : ℕ) : Type 0 where
  pub input : IsInput program Grid n
  pub kind : IfSome (input_kind program n) (λ kind. is_id_kind kind ≡ true)

-- the operand is the map of an operation of `initial`, or a drain map
abbrev pub IsInitialValue : Program → Operand → Type 0
IsInitialValue program (Initial n) = n < length program.initial
IsInitialValue program (Drain n) = n < length program.drains
IsInitialValue program _ = ⊥

-- The operand is what such an output writes: the map of an operation of `initial` or a drain map, or the map of an operation of
-- `dynamic`; a time series has also what a step reads.
abbrev pub IsOutputValue : Program → OutputKind → Operand → Type 0
IsOutputValue program InitialGrid value = IsInitialValue program value
IsOutputValue program StackGrid value = (n : ℕ) × (value ≡ Now n) × (n < length program.dynamic)
IsOutputValue program (Sample ids) value = IsIds program ids × IsBelowNow program (length program.dynamic) value

-- an output of a program: what it writes has its kind
pub record IsOutput (program : Program) (output : OutputUse) : Type 0 where
  pub value : IsOutputValue program output.kind output.value
  pub kind : operand_kind program output.value ≡ Some output.cell_kind
  pub file : IsTrue (is_file_word output.file)
  pub statement : output.statement ≤ most_statements

-- an output is written once, after `initial`
abbrev pub is_initial_grid : OutputKind → Bool
is_initial_grid InitialGrid = true
is_initial_grid _ = false

-- an output is written as a stack
abbrev pub is_stack_grid : OutputKind → Bool
is_stack_grid StackGrid = true
is_stack_grid _ = false

-- ---- the whole

-- What holds of each program that is handed in.
pub record IsWellFormed (program : Program) : Type 0 where
  pub files : All (λ input. IsTrue (is_file_word input.file)) program.inputs
  pub roles : All (λ input. SuitsRole input.kind input.role) program.inputs
  pub area : IsInput program Grid program.area
  pub operations : AreOperations program 0 program.initial
  pub step_operations : AreStepOperations program 0 program.dynamic
  pub drains : AreDrainUses program 0 program.drains
  pub drain_order : AllPairs (λ x y. x.after ≤ y.after) program.drains
  pub order : AllPairs StandsBefore program.initial
  pub step_order : AllPairs StandsBefore program.dynamic
  pub outputs : All (IsOutput program) program.outputs
  pub reports : AllPairs (λ x y. x.statement < y.statement) program.outputs
  pub few_inputs : length program.inputs ≤ most_inputs
  pub few_operations : length program.initial ≤ most_operations
  pub few_step_operations : length program.dynamic ≤ most_operations
  pub few_statements : All (λ o. o.statement ≤ most_statements) program.initial
  pub few_step_statements : All (λ o. o.statement ≤ most_statements) program.dynamic
  pub few_drains : length program.drains ≤ most_drains
  pub few_outputs : length program.outputs ≤ most_statements
  pub few_stacks : length (filter (λ input. is_stack_role input.role) program.inputs) ≤ most_stacks
  pub few_stack_outputs : length (filter (λ output. is_stack_grid output.kind) program.outputs) ≤ most_stacks
  pub few_steps : program.steps ≤ most_steps
