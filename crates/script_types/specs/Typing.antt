-- The kinds of names, numbers and operations, or the first fault at their nodes.
use Rattle.std.specs.Prelude.{ℕ, ◌+◌, Bool, true, false, not, ◌||◌, ◌&&◌, List, []}
use Rattle.std.specs.Prelude.{◌∷◌, length, map, Option, Some, None, Result, Ok, Err, pos, nat_lt, if◌then◌else◌}
use Rattle.std.specs.Option.{unwrap_or, is_none}
use Rattle.text_base.specs.Results.{◌>>=◌}
use Rattle.cell_values.specs.declared.kind.Kind.{Kind}
use Rattle.cell_values.specs.declared.kind.Kind.TheVariants.{Nominal, Scalar, Ldd}
use Rattle.cell_values.specs.declared.cell.Cell.{Cell}
use Rattle.cell_values.specs.declared.cell.Cell.TheVariants.{Val}
use Rattle.cell_values.specs.declared.cell.NumberFault.{NumberFault}
use Rattle.cell_values.specs.inside.Reading.{cell_read}
use Rattle.script_syntax.specs.declared.tree.Binding.{Binding}
use Rattle.script_syntax.specs.declared.tree.Target.{Target}
use Rattle.script_syntax.specs.declared.tree.Target.TheVariants as target
use Rattle.script_syntax.specs.declared.tree.Expr.{Expr}
use Rattle.script_syntax.specs.declared.tree.Expr.TheFolds.{fold-Expr}
use Rattle.script_syntax.specs.declared.tree.Expr.TheOpen.{Expr-F}
use Rattle.map_meaning.specs.declared.op.Op.{Op}
use Rattle.map_meaning.specs.declared.row.Row.{Row}
use Rattle.map_meaning.specs.declared.row.Kinds.{Kinds}
use Rattle.map_meaning.specs.declared.row.Ask.{Ask}
use Rattle.map_meaning.specs.declared.row.Ask.TheVariants as ask
use Rattle.map_meaning.specs.declared.row.Meant.{Meant}
use Rattle.map_meaning.specs.declared.row.Meant.TheVariants as meant
use Rattle.map_meaning.specs.declared.row.Stands.{Stands}
use Rattle.map_meaning.specs.declared.row.Stands.TheVariants as stands
use Rattle.map_meaning.specs.declared.table.TheConstants.{MANY_OPERANDS}
use Rattle.map_meaning.specs.declared.tree.Tree.{Tree}
use Rattle.map_meaning.specs.declared.tree.Tree.TheVariants as tree
use Rattle.map_meaning.specs.Table.{is_kind, ask_at, allows, given_kind, is_file, is_length, is_window_length}
use Rattle.script_types.specs.declared.fault.MeaningKind.{MeaningKind}
use Rattle.script_types.specs.declared.fault.MeaningKind.TheVariants.{UnknownName, KindMismatch, NotAssigned, BadStackName}
use Rattle.script_types.specs.declared.fault.MeaningKind.TheVariants.{NameClash, BadWindow, WrongSection, DrainPlace}
use Rattle.script_types.specs.declared.typed.UsedAs.{UsedAs}
use Rattle.script_types.specs.declared.typed.UsedAs.TheVariants as used
use Rattle.script_types.specs.declared.typed.Section.{Section}
use Rattle.script_types.specs.declared.typed.Section.TheVariants.{Initial, Dynamic}
use Rattle.script_types.specs.declared.typed.Value.{Value}
use Rattle.script_types.specs.declared.typed.Typed.{Typed}
use Rattle.script_types.specs.declared.typed.Typed.TheVariants as typed
use Rattle.script_types.specs.declared.typed.Argument.{Argument}
use Rattle.script_types.specs.declared.typed.Argument.TheVariants as argument
use Rattle.script_types.specs.Checks.{passed, all_of}
use Rattle.script_types.specs.Table.{row_for, word_row, first_ask, stands_of, is_window, asks_drain, op_of}
use Rattle.script_types.specs.Names.{is_same_use, is_stack, first_role, in_roles, is_bad_prefix}

-- What names are where a statement stands.
pub record Scope : Type 0 where
  pub section : Section
  -- the last step
  pub steps : ℕ
  -- whether time series are sampled by the mean
  pub mean : Bool
  -- the binding of a name
  pub binding : List ℕ → Option Binding
  -- whether a statement of the script assigns a name
  pub is_assigned : List ℕ → Bool
  -- whether a name is the target of a time series
  pub is_sampled : List ℕ → Bool
  -- the role of a name in the whole script
  pub role : List ℕ → Option UsedAs
  -- the number of the input of a name
  pub input : List ℕ → Option ℕ
  -- the kind of the value that a name has here: that of the last statement above that assigns it
  pub above : List ℕ → Option Kind
  -- how many stacks the statements above write
  pub stacks_written : ℕ
  -- how many stacks are read down to this statement
  pub stacks_read : ℕ

-- the first that there is
abbrev pub or_kind : {A : Type 0} → Option A → Option A → Option A
or_kind None o = o
or_kind (Some x) o = Some x

-- ---- a name

-- the value that an assigned name has where it is read; the target of a time series is not read
abbrev pub assigned_read : Bool → List ℕ → Option Kind → Result Typed MeaningKind
assigned_read sampled name None = Err NotAssigned
assigned_read sampled name (Some kind) =
    passed ((KindMismatch, sampled) ∷ []) (typed.Map (record { kind = kind; tree = tree.Name kind name }))

-- the name is used as it is at its first use
abbrev pub is_its_role : Option UsedAs → UsedAs → Bool
is_its_role None role = false
is_its_role (Some first) role = is_same_use first role

-- the tests at the name of an input, in their order
abbrev pub input_checks : Scope → UsedAs → List ℕ → List ℕ → Kind → List (MeaningKind × Bool)
input_checks scope role name file kind =
    (NameClash, not (is_its_role (scope.role name) role)) ∷
    (DrainPlace, is_stack role && is_kind Ldd kind) ∷
    (BadStackName, is_stack role && is_bad_prefix file scope.steps) ∷
    []

-- an input as what it is used as
abbrev pub input_as : UsedAs → Kind → ℕ → Typed
input_as used.Grid kind number = typed.Map (record { kind = kind; tree = tree.Input kind number })
input_as used.Stack kind number = typed.Stack kind number
input_as (used.Table keys of) kind number = typed.Table of number
input_as (used.Series of) kind number = typed.Series of number

-- a number of a kind, where it is one
abbrev pub cell_value : Kind → Result Cell NumberFault → Result Value MeaningKind
cell_value kind (Ok cell) = Ok (record { kind = kind; tree = tree.Number kind cell })
cell_value kind (Err fault) = Err KindMismatch

-- a number as one of the kind
abbrev pub number_as : Kind → List ℕ → Result Value MeaningKind
number_as kind text = cell_value kind (cell_read kind text)

-- A name that is bound to a number stands for the number.
abbrev pub constant_read : Option Kind → List ℕ → Result Typed MeaningKind
constant_read None text = Ok (typed.Constant text)
constant_read (Some kind) text = number_as kind text >>= λ v. Ok (typed.Map v)

-- the input of a name in its one role
abbrev pub input_read : Scope → UsedAs → List ℕ → List ℕ → Kind → Result Typed MeaningKind
input_read scope role name file kind =
    passed (input_checks scope role name file kind) (input_as role kind (unwrap_or (scope.input name) 0))

-- What a bound name stands for. An input without a kind is scalar.
abbrev pub target_read : Scope → UsedAs → List ℕ → Option Kind → Target → Result Typed MeaningKind
target_read scope role name kind (target.File file) = input_read scope role name file (unwrap_or kind Scalar)
target_read scope role name kind (target.Number text) = constant_read kind text

-- a name that no statement assigns
abbrev pub bound_read : Scope → UsedAs → List ℕ → Option Binding → Result Typed MeaningKind
bound_read scope role name None = Err UnknownName
bound_read scope role name (Some b) = target_read scope role name b.kind b.target

-- a name that is read in this role
unfoldable pub name_read : Scope → UsedAs → List ℕ → Result Typed MeaningKind
name_read scope role name =
    if scope.is_assigned name then assigned_read (scope.is_sampled name) name (scope.above name)
    else bound_read scope role name (scope.binding name)

-- ---- the operands of a call

-- the kind of an operand that decides in which kind operands agree: it is no free number, and its place asks to agree
abbrev pub deciding : Ask → Typed → Option Kind
deciding (ask.Alike kinds) (typed.Map v) = Some v.kind
deciding _ _ = None

-- the kind of the first operand from the i-th on that decides
abbrev pub first_deciding : Row → ℕ → List Typed → Option Kind
first_deciding row i [] = None
first_deciding row i (t ∷ ts) = or_kind (deciding (ask_at row i) t) (first_deciding row (i + 1) ts)

-- the kind in which operands agree: that of the first that is not free, and scalar where all are free
abbrev pub agreed_kind : Row → List Typed → Kind
agreed_kind r ts = unwrap_or (first_deciding r 0 ts) Scalar

-- the kind of a free number where several kinds may stand: scalar where that is one of them, else nominal
abbrev pub kind_of_free : Kinds → Kind
kind_of_free kinds = if kinds.scalar then Scalar else Nominal

-- the whole number that was read; a missing, a negative or a faulty one counts as 0
abbrev pub whole_number : Result Cell NumberFault → ℕ
whole_number (Ok (Val (pos n))) = n
whole_number _ = 0

-- a number as a map
abbrev pub number_map : Kind → List ℕ → Result Argument MeaningKind
number_map kind text = number_as kind text >>= λ v. Ok (argument.Map v)

-- A free number takes the kind that its place asks.
abbrev pub free_at : Kind → Ask → List ℕ → Result Argument MeaningKind
free_at agreed (ask.Only kind) text = number_map kind text
free_at agreed (ask.One kinds) text = number_map (kind_of_free kinds) text
free_at agreed (ask.Alike kinds) text = number_map agreed text
free_at agreed ask.Length text = Ok (argument.Length (whole_number (cell_read Nominal text)))
free_at agreed _ text = Err KindMismatch

-- a table, a series or a stack at its place
abbrev pub bound_file_at : Ask → Typed → Result Argument MeaningKind
bound_file_at (ask.Table asked) (typed.Table kind number) = Ok (argument.File kind number)
bound_file_at (ask.Series asked) (typed.Series kind number) = Ok (argument.File kind number)
bound_file_at ask.Stack (typed.Stack kind number) = Ok (argument.File kind number)
bound_file_at _ _ = Err KindMismatch

-- an operand at its place
abbrev pub argument_at : Kind → Ask → Typed → Result Argument MeaningKind
argument_at agreed asked (typed.Literal text) = free_at agreed asked text
argument_at agreed asked (typed.Constant text) = free_at agreed asked text
argument_at agreed asked (typed.Map v) = passed ((KindMismatch, not (allows agreed asked v.kind)) ∷ []) (argument.Map v)
argument_at agreed asked other = bound_file_at asked other

-- the operands from the i-th on
abbrev pub arguments_at : Row → Kind → ℕ → List Typed → Result (List Argument) MeaningKind
arguments_at row agreed i [] = Ok []
arguments_at row agreed i (t ∷ ts) =
    argument_at agreed (ask_at row i) t >>= λ x. arguments_at row agreed (i + 1) ts >>= λ xs. Ok (x ∷ xs)

-- the kind of an operand at its place
abbrev pub argument_kind : Argument → Kind
argument_kind (argument.Map v) = v.kind
argument_kind (argument.File kind number) = kind
argument_kind (argument.Length length) = Nominal

-- the operands that are maps
abbrev pub maps_of : List Argument → List Tree
maps_of [] = []
maps_of (argument.Map v ∷ more) = v.tree ∷ maps_of more
maps_of (argument.File kind number ∷ more) = maps_of more
maps_of (argument.Length length ∷ more) = maps_of more

-- the number of the input that the first operand is, which is a table, a series or a stack
abbrev pub file_of : List Argument → ℕ
file_of (argument.File kind number ∷ more) = number
file_of _ = 0

-- the length of a window that is among the operands
abbrev pub length_among : List Argument → ℕ
length_among [] = 0
length_among (argument.Length length ∷ more) = length
length_among (_ ∷ more) = length_among more

-- ---- a call

-- operations of two operands, nested from the left
abbrev pub nested_on : Op → Kind → Tree → List Tree → Tree
nested_on op kind left [] = left
nested_on op kind left (t ∷ ts) = nested_on op kind (tree.Call kind op (left ∷ t ∷ [])) ts

-- the first operand with the others nested on it
abbrev pub nested : Op → Kind → List Tree → Tree
nested op kind [] = tree.Call kind op []
nested op kind (t ∷ ts) = nested_on op kind t ts

-- An operation on its operands. One that takes any number of operands stands as nested ones.
abbrev pub call_tree : Row → Kind → List Tree → Tree
call_tree row kind ts = if nat_lt row.most MANY_OPERANDS then tree.Call kind (op_of row.meant) ts else nested (op_of row.meant) kind ts

-- an operation on operands that stand at their places: it may look its results up in a table or a series, or look at windows
abbrev pub operation_tree : Row → Kind → List Argument → Tree
operation_tree row kind xs =
    if is_file row.first then tree.CallWith kind (op_of row.meant) (file_of xs) 0 (maps_of xs)
    else if is_length row.second then tree.CallWith kind (op_of row.meant) 0 (length_among xs) (maps_of xs)
    else call_tree row kind (maps_of xs)

-- a map of the kind
abbrev pub typed_map : Kind → Tree → Typed
typed_map kind t = typed.Map (record { kind = kind; tree = t })

-- the number of the input that the map is, if it is one
abbrev pub input_in : Tree → ℕ
input_in (tree.Input kind number) = number
input_in _ = 0

-- a map that is sampled at the ids of another
abbrev pub sample_of : List Argument → Result Typed MeaningKind
sample_of (argument.Map ids ∷ argument.Map v ∷ []) = Ok (typed.Sample ids v)
sample_of _ = Err KindMismatch

-- what a row stands for, on operands that stand at their places
abbrev pub meant_value : Meant → Row → Kind → List Argument → Result Typed MeaningKind
meant_value meant.Step row kind xs = Ok (typed_map kind tree.Time)
meant_value meant.Stack row kind xs = Ok (typed_map kind (tree.Stack kind (file_of xs)))
meant_value meant.Sample row kind xs = sample_of xs
meant_value meant.Mask row kind xs = Ok (typed_map kind (tree.Mask (maps_of xs)))
meant_value _ row kind xs = Ok (typed_map kind (operation_tree row kind xs))

-- what a row stands for, on these operands
abbrev pub row_value : Row → Kind → List Typed → Result Typed MeaningKind
row_value row agreed ts =
    arguments_at row agreed 0 ts >>= λ xs. meant_value row.meant row (given_kind row.gives agreed (map argument_kind xs)) xs

-- The number of the operands and their kinds are those of a row of the table.
abbrev pub call_by_row : Option Row → List Typed → Result Typed MeaningKind
call_by_row None ts = Err KindMismatch
call_by_row (Some row) ts = row_value row (agreed_kind row ts) ts

-- ---- the tests of a call

-- the section is `initial`
abbrev pub is_in_initial : Section → Bool
is_in_initial Initial = true
is_in_initial Dynamic = false

-- the map is an input's
abbrev pub is_input_tree : Tree → Bool
is_input_tree (tree.Input kind number) = true
is_input_tree _ = false

-- the operand is the name of an input grid
abbrev pub is_input_grid : Typed → Bool
is_input_grid (typed.Map v) = is_input_tree v.tree
is_input_grid _ = false

-- there is a first operand, and it is no name of an input grid
abbrev pub begins_without_grid : List Typed → Bool
begins_without_grid [] = false
begins_without_grid (t ∷ ts) = not (is_input_grid t)

-- a call of the time, of a series or of a sample that stands outside its place
abbrev pub is_in_wrong_section : Stands → Section → Bool → List Typed → Bool
is_in_wrong_section stands.Dynamic section is_whole ts = is_in_initial section
is_in_wrong_section stands.Sample section is_whole ts = is_in_initial section || not is_whole || begins_without_grid ts
is_in_wrong_section _ section is_whole ts = false

-- the operand is a number without a kind
abbrev pub is_free : Typed → Bool
is_free (typed.Literal text) = true
is_free (typed.Constant text) = true
is_free _ = false

-- there is a first operand, and it is a number without a kind
abbrev pub begins_free : List Typed → Bool
begins_free [] = false
begins_free (t ∷ ts) = is_free t

-- a mask of a drain map that is no whole right side of `initial`
abbrev pub is_misplaced_mask : Stands → Section → Bool → Bool
is_misplaced_mask stands.Mask section is_whole = not (is_in_initial section) || not is_whole
is_misplaced_mask _ section is_whole = false

-- the operand is a literal that is the length of a window
abbrev pub is_good_length : Typed → Bool
is_good_length (typed.Literal text) = is_window_length (whole_number (cell_read Nominal text))
is_good_length _ = false

-- there is a second operand, and it is no length of a window
abbrev pub has_bad_length : List Typed → Bool
has_bad_length [] = false
has_bad_length (t ∷ []) = false
has_bad_length (t ∷ u ∷ ts) = not (is_good_length u)

-- the tests of a call before its kinds, in their order
abbrev pub call_checks : Section → Bool → List ℕ → List Typed → List (MeaningKind × Bool)
call_checks section is_whole word ts =
    (UnknownName, is_none (word_row word)) ∷
    (WrongSection, is_in_wrong_section (stands_of (word_row word)) section is_whole ts) ∷
    (DrainPlace, asks_drain (first_ask (word_row word)) && begins_free ts) ∷
    (DrainPlace, is_misplaced_mask (stands_of (word_row word)) section is_whole) ∷
    (BadWindow, is_window (word_row word) && has_bad_length ts) ∷
    []

-- an operation on these operands, or the first fault at its node
unfoldable pub call_read : Section → Bool → List ℕ → List Typed → Result Typed MeaningKind
call_read section is_whole word ts =
    passed (call_checks section is_whole word ts) ts >>= λ operands. call_by_row (row_for word (length operands)) operands

-- ---- an expression

-- an expression at a place: whether it is a whole right side, and what a name is used as there
abbrev pub Placed : Type 0
Placed = Bool → UsedAs → Result Typed MeaningKind

-- one node: first the faults of its operands from the left, then its own
abbrev pub typed_level : Scope → Expr-F Placed → Placed
typed_level scope (Expr-F.Name name) is_whole role = name_read scope role name
typed_level scope (Expr-F.Number text) is_whole role = Ok (typed.Literal text)
typed_level scope (Expr-F.Call word operands) is_whole role =
    all_of (in_roles (first_role word (length operands)) (map (λ operand. operand false) operands)) >>= λ ts.
    call_read scope.section is_whole word ts

-- what an expression is at its place, or its first fault in post-order
unfoldable pub typed_as : Scope → Expr → Placed
typed_as scope = fold-Expr Placed (typed_level scope)
