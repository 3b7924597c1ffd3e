-- The settled statements of a script, or the first fault of a statement.
use Rattle.std.specs.Prelude.{ℕ, ◌+◌, Bool, true, false, not, ◌||◌, ◌&&◌, List, []}
use Rattle.std.specs.Prelude.{◌∷◌, ◌++◌, length, Option, Some, None, Result, Ok, Err, nat_le, nat_lt, if◌then◌else◌}
use Rattle.std.specs.Option.{is_some, unwrap_or}
use Rattle.std.specs.List.{sum_by}
use Rattle.std.specs.Str.{bytes_eq}
use Rattle.text_base.specs.Results.{◌>>=◌}
use Rattle.cell_values.specs.declared.kind.Kind.{Kind}
use Rattle.cell_values.specs.declared.kind.Kind.TheVariants.{Scalar, Ldd}
use Rattle.script_syntax.specs.declared.tree.Binding.{Binding}
use Rattle.script_syntax.specs.declared.tree.Statement.{Statement}
use Rattle.script_syntax.specs.declared.tree.Script.{Script}
use Rattle.map_meaning.specs.declared.op.Op.TheVariants.{AreaAverage, CopyOf}
use Rattle.map_meaning.specs.declared.tree.Tree.{Tree}
use Rattle.map_meaning.specs.declared.tree.Tree.TheVariants as tree
use Rattle.map_meaning.specs.Limits.{most_operations, most_stacks}
use Rattle.map_meaning.specs.Table.{is_kind}
use Rattle.map_meaning.specs.Trees.{meaning_of}
use Rattle.script_types.specs.declared.fault.MeaningKind.{MeaningKind}
use Rattle.script_types.specs.declared.fault.MeaningKind.TheVariants.{KindMismatch, NameClash, BadStackName, DrainPlace, TooMany}
use Rattle.script_types.specs.declared.fault.MeaningFault.{MeaningFault}
use Rattle.script_types.specs.declared.fault.Place.{Place}
use Rattle.script_types.specs.declared.fault.Place.TheVariants as place
use Rattle.script_types.specs.declared.typed.Section.{Section}
use Rattle.script_types.specs.declared.typed.Section.TheVariants.{Initial, Dynamic}
use Rattle.script_types.specs.declared.typed.Line.{Line}
use Rattle.script_types.specs.declared.typed.Side.{Side}
use Rattle.script_types.specs.declared.typed.Value.{Value}
use Rattle.script_types.specs.declared.typed.Typed.{Typed}
use Rattle.script_types.specs.declared.typed.Typed.TheVariants as typed
use Rattle.script_types.specs.declared.typed.UsedAs.TheVariants as used
use Rattle.script_types.specs.Checks.{passed}
use Rattle.script_types.specs.Names.{binding_of, file_by, input_number, is_assigned}
use Rattle.script_types.specs.Names.{is_bad_prefix, is_bound_to_number, is_sampled, role_of, script_uses, stacks_down_to}
use Rattle.script_types.specs.Typing.{Scope, input_in, typed_as, number_as, or_kind}

-- the section is `dynamic`
abbrev pub is_dynamic : Section → Bool
is_dynamic Initial = false
is_dynamic Dynamic = true

-- a statement of this section that reports writes a stack, unless it writes a time series
abbrev pub is_stack_report : Section → Bool → Bool → Bool
is_stack_report section report sampled = is_dynamic section && report && not sampled

-- the settled statement writes a stack
abbrev pub writes_stack : Line → Bool
writes_stack l = is_stack_report l.section l.report (is_some l.sample)

-- ---- what there is above a statement

-- The kind of the value that a name has below these statements: that of the last one that assigns it. The order is that
-- of the script, so in `dynamic` a name that is assigned further down has its value from `initial` or the step before.
abbrev pub kind_above : List Line → List ℕ → Option Kind
kind_above [] name = None
kind_above (l ∷ ls) name = or_kind (kind_above ls name) (if bytes_eq name l.statement.target then Some l.kind else None)

-- how many stacks some statements write
abbrev pub stacks_written : List Line → ℕ
stacks_written lines = sum_by (λ l. if writes_stack l then 1 else 0) lines

-- what names are in a section, below these statements
abbrev pub scope_at : Script → Section → List Line → Scope
scope_at script section lines = record {
  section = section;
  steps = script.steps;
  mean = script.mean;
  binding = binding_of script;
  is_assigned = is_assigned script;
  role = role_of (script_uses script);
  input = input_number script;
  above = kind_above lines;
  is_sampled = is_sampled script;
  stacks_written = stacks_written lines;
  stacks_read = stacks_down_to script (length lines + 1);
}

-- the sections are one
abbrev pub is_in : Section → Section → Bool
is_in Initial Initial = true
is_in Dynamic Dynamic = true
is_in _ _ = false

-- how many operations an expression has
abbrev pub operations_of : Tree → ℕ
operations_of t = (meaning_of t).operations

-- how many operations of the section a statement has
abbrev pub line_operations : Section → Line → ℕ
line_operations section l = if is_in section l.section then operations_of l.statement.value else 0

-- how many operations of the section these statements have
abbrev pub counts : Section → List Line → ℕ
counts section lines = sum_by (line_operations section) lines

-- ---- a right side

-- the kind that a binding gives
abbrev pub bound_kind : Option Binding → Option Kind
bound_kind None = None
bound_kind (Some b) = b.kind

-- the kind that a free right side takes: that of an earlier statement, else that of the target's binding, else scalar
abbrev pub asked_kind : Option Kind → Option Kind → Kind
asked_kind earlier bound = unwrap_or (or_kind earlier bound) Scalar

-- A free right side takes the kind that its target has; never that of a drain map.
abbrev pub free_side : Kind → List ℕ → Result Value MeaningKind
free_side kind text = passed ((DrainPlace, is_kind Ldd kind) ∷ []) text >>= λ t. number_as kind t

-- a right side that is not sampled
abbrev pub whole_side : Value → Side
whole_side v = record { value = v; sample = None }

-- the averages of a map over the areas of ids
abbrev pub averages_of : Value → Value → Value
averages_of ids v = record { kind = Scalar; tree = tree.Call Scalar AreaAverage (v.tree ∷ ids.tree ∷ []) }

-- What a time series samples at the places of ids: the map, or, where it is sampled by the mean, its averages over the areas of the
-- ids. A mean is one of scalars.
abbrev pub sampled_value : Bool → Value → Value → Result Value MeaningKind
sampled_value false ids v = Ok v
sampled_value true ids v = passed ((KindMismatch, not (is_kind Scalar v.kind)) ∷ []) (averages_of ids v)

-- a right side whose target has this kind, where time series are sampled by the mean or are not
abbrev pub right_side : Bool → Kind → Typed → Result Side MeaningKind
right_side mean asked (typed.Literal text) = free_side asked text >>= λ v. Ok (whole_side v)
right_side mean asked (typed.Constant text) = free_side asked text >>= λ v. Ok (whole_side v)
right_side mean asked (typed.Map v) = Ok (whole_side v)
right_side mean asked (typed.Sample ids v) =
    sampled_value mean ids v >>= λ w. Ok (record { value = w; sample = Some (input_in ids.tree) })
right_side mean asked _ = Err KindMismatch

-- A statement of kind ldd stands in `initial`.
abbrev pub side_checks : Section → Kind → List (MeaningKind × Bool)
side_checks section kind = (DrainPlace, is_dynamic section && is_kind Ldd kind) ∷ []

-- the expression is an operation
abbrev pub is_call : Tree → Bool
is_call (tree.Call' kind op shape operands) = true
is_call (tree.CallWith' kind op file window shape operands) = true
is_call _ = false

-- A right side without an operation has one, a copy; a drain map has none, and neither has what a time series samples.
abbrev pub with_operation : Bool → Kind → Tree → Tree
with_operation sampled kind t = if is_call t || is_kind Ldd kind || sampled then t else tree.Call kind CopyOf (t ∷ [])

-- ---- a target

-- there is a kind, and it is another
abbrev pub differs : Option Kind → Kind → Bool
differs None kind = false
differs (Some other) kind = not (is_kind other kind)

-- The tests of a target, in their order, where so many operations stand above: the kind that an earlier statement or the
-- binding gives has to be this one; a stack that is written has a prefix for its names; and no limit is passed, by
-- operations, by stacks that are written or by stacks that are read.
abbrev pub target_checks : Scope → ℕ → Statement → Bool → Kind → Tree → List (MeaningKind × Bool)
target_checks scope before s sampled kind t =
    (NameClash, is_bound_to_number (scope.binding s.name)) ∷
    (KindMismatch, differs (scope.above s.name) kind || differs (bound_kind (scope.binding s.name)) kind) ∷
    (BadStackName, is_stack_report scope.section s.report sampled && is_bad_prefix (file_by (scope.binding s.name) s.name) scope.steps) ∷
    (TooMany, nat_lt most_operations (before + operations_of t)) ∷
    (TooMany, is_stack_report scope.section s.report sampled && nat_le most_stacks scope.stacks_written) ∷
    (TooMany, nat_lt most_stacks scope.stacks_read) ∷
    []

-- ---- a statement

-- a settled statement
abbrev pub line_with : Section → Statement → Option ℕ → Kind → Tree → Line
line_with section s sample kind t = record {
  section = section;
  report = s.report;
  kind = kind;
  sample = sample;
  statement = record { target = s.name; value = t };
}

-- the statement with this right side, unless its target is at fault
abbrev pub line_of_side : Scope → ℕ → Statement → Side → Result Line MeaningKind
line_of_side scope before s side =
    passed (side_checks scope.section side.value.kind) (with_operation (is_some side.sample) side.value.kind side.value.tree) >>= λ t.
    passed (target_checks scope before s (is_some side.sample) side.value.kind t)
    (line_with scope.section s side.sample side.value.kind t)

-- a statement below so many operations of its section, or its first fault: of its right side, then of its target
unfoldable pub line_read : Scope → ℕ → Statement → Result Line MeaningKind
line_read scope before s =
    typed_as scope s.expr true used.Grid >>= λ t.
    right_side scope.mean (asked_kind (scope.above s.name) (bound_kind (scope.binding s.name))) t >>= λ side.
    line_of_side scope before s side

-- ---- all statements

-- a fault with its place
abbrev pub told_at : {A : Type 0} → Place → Result A MeaningKind → Result A MeaningFault
told_at at (Ok x) = Ok x
told_at at (Err kind) = Err (record { at = at; kind = kind })

-- the next statement of a section below these, or its first fault
abbrev pub next_line : Script → Section → List Line → Statement → Result Line MeaningFault
next_line script section lines s =
    told_at (place.Statement (length lines + 1)) (line_read (scope_at script section lines) (counts section lines) s)

-- these statements of a section below others, or the first fault of one
abbrev pub lines_below : Script → Section → List Line → List Statement → Result (List Line) MeaningFault
lines_below script section lines [] = Ok lines
lines_below script section lines (s ∷ ss) = next_line script section lines s >>= λ l. lines_below script section (lines ++ l ∷ []) ss

-- the statements of both sections, or the first fault of one
abbrev pub all_lines : Script → Result (List Line) MeaningFault
all_lines script = lines_below script Initial [] script.initial >>= λ lines. lines_below script Dynamic lines script.dynamic
