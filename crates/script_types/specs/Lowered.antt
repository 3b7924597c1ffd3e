-- The program of a script: its inputs, its operations in post-order, its outputs.
use Rattle.std.specs.Prelude.{ℕ, ◌+◌, ◌&&◌, Bool, List, [], ◌∷◌, ◌++◌, filter, length, map, Option, Some, None, if◌then◌else◌}
use Rattle.std.specs.Option.{unwrap_or}
use Rattle.cell_values.specs.declared.kind.Kind.{Kind}
use Rattle.cell_values.specs.declared.kind.Kind.TheVariants.{Scalar, Ldd}
use Rattle.script_syntax.specs.declared.tree.Binding.{Binding}
use Rattle.script_syntax.specs.declared.tree.Script.{Script}
use Rattle.map_meaning.specs.declared.op.Op.{Op}
use Rattle.map_meaning.specs.declared.program.DrainFrom.{DrainFrom}
use Rattle.map_meaning.specs.declared.program.DrainFrom.TheVariants as drain
use Rattle.map_meaning.specs.declared.program.DrainUse.{DrainUse}
use Rattle.map_meaning.specs.declared.program.InputUse.{InputUse}
use Rattle.map_meaning.specs.declared.program.Operation.{Operation}
use Rattle.map_meaning.specs.declared.program.OutputKind.{OutputKind}
use Rattle.map_meaning.specs.declared.program.OutputKind.TheVariants.{InitialGrid, StackGrid, Sample}
use Rattle.map_meaning.specs.declared.program.OutputUse.{OutputUse}
use Rattle.map_meaning.specs.declared.program.Role.{Role}
use Rattle.map_meaning.specs.declared.program.Role.TheVariants.{Grid, Stack, Table, Series}
use Rattle.map_meaning.specs.declared.tree.Statement.{Statement}
use Rattle.map_meaning.specs.declared.tree.Tree.{Tree}
use Rattle.map_meaning.specs.declared.tree.Tree.TheFolds.{fold-Tree}
use Rattle.map_meaning.specs.declared.tree.Tree.TheOpen.{Tree-F}
use Rattle.map_meaning.specs.Programs.{is_grid_role}
use Rattle.map_meaning.specs.Table.{is_kind}
use Rattle.script_types.specs.declared.typed.Line.{Line}
use Rattle.script_types.specs.declared.typed.Section.{Section}
use Rattle.script_types.specs.declared.typed.Section.TheVariants.{Initial, Dynamic}
use Rattle.script_types.specs.declared.typed.UsedAs.{UsedAs}
use Rattle.script_types.specs.declared.typed.UsedAs.TheVariants as used
use Rattle.script_types.specs.Names.{binding_of, input_number, joined_lists, target_file, used_inputs}
use Rattle.script_types.specs.Statements.{is_in, operations_of}
use Rattle.script_types.specs.Reports.{Bound, area_files, file_written, role_by}

-- ---- inputs

-- the input of a file
abbrev pub grid_input : List ℕ → Kind → InputUse
grid_input file kind = record { file = file; role = Grid; kind = kind }

-- the role of an input that is used so
abbrev pub input_role : UsedAs → Role
input_role used.Grid = Grid
input_role used.Stack = Stack
input_role (used.Table keys kind) = Table keys
input_role (used.Series kind) = Series

-- The kind of an input that is used so, and whose binding gives this kind: for tables and series the one that their use asks,
-- and scalar where there is none.
abbrev pub used_kind : UsedAs → Option Kind → Kind
used_kind (used.Table keys kind) given = kind
used_kind (used.Series kind) given = kind
used_kind _ given = unwrap_or given Scalar

-- the input of a binding that is used so
abbrev pub input_as_used : UsedAs → Binding → InputUse
input_as_used role b = record { file = target_file b.target b.name; role = input_role role; kind = used_kind role b.kind }

-- the input of a binding
abbrev pub input_of : Script → Binding → InputUse
input_of script b = input_as_used (role_by script b) b

-- The inputs of a script: the area map, a scalar map, where it is a file and no binding, and then the inputs that are used,
-- in the order of the section `binding`.
abbrev pub inputs_of : Script → List InputUse
inputs_of script =
    map (λ file. grid_input file Scalar) (area_files (binding_of script script.area) script.area) ++
    map (input_of script) (used_inputs script)

-- the number of the area map among the inputs: the first, where it is a file and no binding
abbrev pub area_number : Script → ℕ
area_number script = unwrap_or (input_number script script.area) 0

-- ---- operations

-- an operation and the kind of its map
pub record Listed : Type 0 where
  pub op : Op
  pub kind : Kind
  -- its statement, and its number among the statement's operations, both from 1
  pub statement : ℕ
  pub number : ℕ

-- an operation and its kind, from which its number is still to be had
pub record Unnumbered : Type 0 where
  pub op : Op
  pub kind : Kind

-- the operations of an expression in post-order, from those of its operands
abbrev pub post_order_level : Tree-F (List Unnumbered) → List Unnumbered
post_order_level (Tree-F.Number kind cell) = []
post_order_level Tree-F.Time = []
post_order_level (Tree-F.Stack kind number) = []
post_order_level (Tree-F.Input kind number) = []
post_order_level (Tree-F.Name kind name) = []
post_order_level (Tree-F.Call kind op operands) = joined_lists operands ++ record { op = op; kind = kind } ∷ []
post_order_level (Tree-F.CallWith kind op file window operands) = joined_lists operands ++ record { op = op; kind = kind } ∷ []
post_order_level (Tree-F.Mask operands) = joined_lists operands

-- the operations of an expression in post-order: those of the operands from the left, then its own
unfoldable pub post_order : Tree → List Unnumbered
post_order = fold-Tree (List Unnumbered) post_order_level

-- some operations of a statement, numbered from n on
abbrev pub numbered_operations : ℕ → ℕ → List Unnumbered → List Listed
numbered_operations statement n [] = []
numbered_operations statement n (u ∷ us) = record { op = u.op; kind = u.kind; statement = statement; number = n }
    ∷ numbered_operations statement (n + 1) us

-- the operations of some statements, of which the first has this number
abbrev pub operations_from : ℕ → List Line → List Listed
operations_from statement [] = []
operations_from statement (l ∷ ls) = numbered_operations statement 1 (post_order l.statement.value) ++ operations_from (statement + 1) ls

-- what a program's operation shows of itself
abbrev pub as_listed : Operation → Listed
as_listed o = record { op = o.op; kind = o.kind; statement = o.statement; number = o.number }

-- how many operations some statements have
abbrev pub total_operations : List Line → ℕ
total_operations [] = 0
total_operations (l ∷ ls) = operations_of l.statement.value + total_operations ls

-- ---- drain maps

-- the input is a drain map
abbrev pub is_drain_input : InputUse → Bool
is_drain_input input = is_grid_role input.role && is_kind Ldd input.kind

-- What a drain map of a program shows of itself beside its value: the number of the input that it is, if it is one, and how many
-- operations of `initial` stand before it.
pub record ShownDrain : Type 0 where
  pub input : Option ℕ
  pub after : ℕ

-- the number of the input that a drain map is, if it is one
abbrev pub drain_input : DrainFrom → Option ℕ
drain_input (drain.Input n) = Some n
drain_input _ = None

-- what a program's drain map shows of itself
abbrev pub as_shown_drain : DrainUse → ShownDrain
as_shown_drain d = record { input = drain_input d.from; after = d.after }

-- the drain maps among some inputs, of which the first has this number
abbrev pub input_drains : ℕ → List InputUse → List ShownDrain
input_drains n [] = []
input_drains n (input ∷ more) =
    if is_drain_input input then record { input = Some n; after = 0 } ∷ input_drains (n + 1) more else input_drains (n + 1) more

-- The drain maps that statements of kind ldd give, where so many operations stand before the first statement: each stands behind
-- the operations of its own statement.
abbrev pub statement_drains : ℕ → List Line → List ShownDrain
statement_drains before [] = []
statement_drains before (l ∷ ls) =
    let after = before + operations_of l.statement.value in
    if is_kind Ldd l.kind then record { input = None; after = after } ∷ statement_drains after ls else statement_drains after ls

-- ---- outputs

-- what a statement of this section is written as: a time series where it is sampled, else a grid or a stack
abbrev pub form_by : Section → Option ℕ → OutputKind
form_by section (Some ids) = Sample ids
form_by Initial None = InitialGrid
form_by Dynamic None = StackGrid

-- what an output shows of itself beside its value
pub record Shown : Type 0 where
  pub file : List ℕ
  pub form : OutputKind
  pub kind : Kind
  pub statement : ℕ

-- the output of a statement with this number, where it reports
abbrev pub output_of : Bound → ℕ → Line → List Shown
output_of bound statement l =
    if l.report then record { file = file_written bound l; form = form_by l.section l.sample; kind = l.kind; statement = statement } ∷ []
    else []

-- the outputs of some statements, of which the first has this number: one for each that reports
abbrev pub outputs_from : Bound → ℕ → List Line → List Shown
outputs_from bound statement [] = []
outputs_from bound statement (l ∷ ls) = output_of bound statement l ++ outputs_from bound (statement + 1) ls

-- what a program's output shows of itself
abbrev pub as_shown : OutputUse → Shown
as_shown output = record { file = output.file; form = output.kind; kind = output.cell_kind; statement = output.statement }

-- ---- sections

-- the statements of a section
abbrev pub lines_in : Section → List Line → List Line
lines_in section lines = filter (λ l. is_in section l.section) lines

-- the number of the first statement of a section
abbrev pub first_statement : Section → List Line → ℕ
first_statement Initial lines = 1
first_statement Dynamic lines = length (lines_in Initial lines) + 1

-- the operations of a section
abbrev pub section_operations : Section → List Line → List Listed
section_operations section lines = operations_from (first_statement section lines) (lines_in section lines)

-- the drain maps of a script: those of its inputs, and then those of its statements
abbrev pub drains_of : Script → List Line → List ShownDrain
drains_of script lines = input_drains 0 (inputs_of script) ++ statement_drains 0 (lines_in Initial lines)

-- the settled statements of some lines
abbrev pub statements_of : List Line → List Statement
statements_of lines = map (λ l. l.statement) lines
