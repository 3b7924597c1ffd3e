-- What answers of the code say of bindings, statements and reports.
use Rattle.std.specs.Prelude.{◌≡◌, ◌+◌, ◌≤◌, ◌&&◌, if◌then◌else◌, ◌<◌, ℕ, Bool, false, drop}
use Rattle.std.specs.Prelude.{List, [], ◌∷◌, ◌++◌, length, Option, Some, None, Result, Ok, Err, ⊤}
use Rattle.std.specs.Option.{is_some}
use Rattle.std.specs.Str.{bytes_eq}
use Rattle.script_syntax.specs.declared.tree.Binding.{Binding}
use Rattle.script_syntax.specs.declared.tree.Statement.{Statement}
use Rattle.script_syntax.specs.declared.tree.Script.{Script}
use Rattle.map_meaning.specs.Limits.{most_operations, most_stacks}
use Rattle.script_types.specs.declared.end.KindEnd.{KindEnd}
use Rattle.script_types.specs.declared.end.KindEnd.TheVariants.{Meaning, Memory}
use Rattle.script_types.specs.declared.end.LowerEnd.{LowerEnd}
use Rattle.script_types.specs.declared.end.LowerEnd.TheVariants as lower
use Rattle.script_types.specs.declared.fault.MeaningKind.{MeaningKind}
use Rattle.script_types.specs.declared.fault.MeaningFault.{MeaningFault}
use Rattle.script_types.specs.declared.fault.Place.TheVariants as place
use Rattle.script_types.specs.declared.line.Counted.{Counted}
use Rattle.script_types.specs.declared.names.Names.{Names}
use Rattle.script_types.specs.declared.scope.Scope.{Scope}
use Rattle.script_types.specs.declared.settle.Settled.{Settled}
use Rattle.script_types.specs.declared.typed.Line.{Line}
use Rattle.script_types.specs.declared.typed.Section.{Section}
use Rattle.script_types.specs.declared.typed.Section.TheVariants.{Initial, Dynamic}
use Rattle.script_types.specs.declared.typed.UsedAs.{UsedAs}
use Rattle.script_types.specs.Checks.{passed}
use Rattle.script_types.specs.Names.{binding_of, input_number, is_assigned, is_input_by, is_sampled}
use Rattle.script_types.specs.Names.{place_from, role_of, script_uses, uses_down_to}
use Rattle.script_types.specs.Typing.{or_kind}
use Rattle.script_types.specs.Statements.{all_lines, counts, is_in, kind_above, lines_below, next_line, operations_of}
use Rattle.script_types.specs.Statements.{stacks_written, writes_stack}
use Rattle.script_types.specs.Reports.{Bound, Kept, report_checks}
use Rattle.script_types.specs.Meaning.{area_checks, binding_checks, meaning}
use Rattle.script_types.specs.Lowered.{lines_in, total_operations}
use Rattle.script_types.specs.inside.Look.{look}
use Rattle.script_types.specs.inside.Stacks.{with_uses}

-- an answer gives the value, or its first fault, or there was no memory
abbrev pub TellsMeaning : {A : Type 0} → Result A LowerEnd → Result A MeaningFault → Type 0
TellsMeaning (Ok x) value = value ≡ Ok x
TellsMeaning (Err (lower.Meaning fault)) value = value ≡ Err fault
TellsMeaning (Err lower.Memory) value = ⊤

-- ---- bindings

-- what the tests of the bindings tell
abbrev pub bindings_pass : List Binding → List Binding → Result ℕ MeaningFault
bindings_pass before bindings = passed (binding_checks before bindings) 0

-- an answer gives the places of the bindings, or their first fault, or there was no memory
abbrev pub GivesPlaces : Result (Names ℕ) LowerEnd → List Binding → Type 0
GivesPlaces (Ok places) bindings =
    (bindings_pass [] bindings ≡ Ok 0) × ((name : List ℕ) → look places.values name ≡ place_from 0 bindings name)
GivesPlaces (Err (lower.Meaning fault)) bindings = bindings_pass [] bindings ≡ Err fault
GivesPlaces (Err lower.Memory) bindings = ⊤

-- the binding is an input that is used, by the tables of targets and roles
abbrev pub is_input_in : Names Bool → Names UsedAs → Binding → Bool
is_input_in targets roles = is_input_by (λ name. is_some (look targets.values name)) (λ name. is_some (look roles.values name))

-- a name has the next number where it is an input that has none
abbrev pub TakesNumber : ℕ → Names ℕ → Names ℕ → Bool → List ℕ → ℕ → Type 0
TakesNumber next old new is_input name number =
    (next ≡ (if is_input then number + 1 else number)) ×
    ((other : List ℕ) →
    look new.values other ≡ or_kind (look old.values other) (if is_input && bytes_eq other name then Some number else None))

-- ---- statements

-- the line is the value, and the counts are those of operations and of stacks with it
pub record IsCounted (found : Counted) (scope : Scope) (above : ℕ) (value : Result Line MeaningKind) : Type 0 where
  pub line : value ≡ Ok found.line
  pub section : found.line.section ≡ scope.section
  pub count : found.count ≡ above + operations_of found.line.statement.value
  pub few : found.count ≤ most_operations
  pub stacks : found.stacks ≡ scope.stacks_written + (if writes_stack found.line then 1 else 0)
  pub few_stacks : found.stacks ≤ most_stacks

-- an answer gives a line with its counts, or the first fault of the statement, or there was no memory
abbrev pub GivesLine : Result Counted KindEnd → Scope → ℕ → Result Line MeaningKind → Type 0
GivesLine (Ok found) scope above value = IsCounted found scope above value
GivesLine (Err (Meaning fault)) scope above value = value ≡ Err fault
GivesLine (Err Memory) scope above value = ⊤

-- the number, unless it is above the most
abbrev pub CountsUpTo : ℕ → Option ℕ → ℕ → Type 0
CountsUpTo most None number = most < number
CountsUpTo most (Some n) number = (n ≡ number) × (n ≤ most)

-- the tables say what names are below these statements
pub record StandsBelow (script : Script) (scope : Scope) (lines : List Line) : Type 0 where
  pub steps : scope.steps ≡ script.steps
  pub mean : scope.mean ≡ script.mean
  pub bindings : scope.bindings.now ≡ script.bindings
  pub places : (name : List ℕ) → look scope.places.values name ≡ place_from 0 script.bindings name
  pub targets : (name : List ℕ) → is_some (look scope.targets.values name) ≡ is_assigned script name
  pub samples : (name : List ℕ) → is_some (look scope.samples.values name) ≡ is_sampled script name
  pub roles : (name : List ℕ) → look scope.roles.values name ≡ role_of (script_uses script) name
  pub inputs : (name : List ℕ) → look scope.inputs.values name ≡ input_number script name
  pub above : (name : List ℕ) → look scope.above.values name ≡ kind_above lines name
  pub seen : (name : List ℕ) → look scope.seen.values name ≡ role_of (uses_down_to script (length lines)) name
  pub stacks_read : scope.stacks_read ≡ with_uses (λ name. false) (uses_down_to script (length lines)) 0
  pub few_read : scope.stacks_read ≤ 65
  pub stacks_written : scope.stacks_written ≡ stacks_written lines
  pub few_written : scope.stacks_written ≤ most_stacks

-- no section of these statements has too many operations
pub record IsFew (lines : List Line) : Type 0 where
  pub in_initial : counts Initial lines ≤ most_operations
  pub in_dynamic : counts Dynamic lines ≤ most_operations

-- so many operations of the section stand in these statements
pub record IsCount (section : Section) (count : ℕ) (lines : List Line) : Type 0 where
  pub counted : count ≡ counts section lines
  pub few : IsFew lines

-- the statements of the script behind these
abbrev pub statements_behind : Script → List Line → List Statement
statements_behind script lines = drop (length lines) (script.initial ++ script.dynamic)

-- the statement is the next below these
abbrev pub IsNextBelow : Script → List Line → Statement → Type 0
IsNextBelow script lines s = (more : List Statement) × (statements_behind script lines ≡ s ∷ more)

-- the statements are the next below these
abbrev pub AreNextBelow : Script → List Line → List Statement → Type 0
AreNextBelow script lines ss = (more : List Statement) × (statements_behind script lines ≡ ss ++ more)

-- a line was added, and the tables say what names are below it; or it is the first fault; or there was no memory
abbrev pub Adds : Result ℕ LowerEnd → Script → Section → List Line → Statement → Scope → List Line → Type 0
Adds (Ok count) script section above s scope lines =
    (l : Line) × (next_line script section above s ≡ Ok l) × (lines ≡ above ++ l ∷ []) × (l.section ≡ section) ×
    (scope.section ≡ section) × StandsBelow script scope lines × IsCount section count lines
Adds (Err (lower.Meaning fault)) script section above s scope lines = next_line script section above s ≡ Err fault
Adds (Err lower.Memory) script section above s scope lines = ⊤

-- the lines of a section were added, and the tables say what names are below them
pub record IsAdded (script : Script) (section : Section) (above : List Line) (ss : List Statement)
    (scope : Scope) (lines : List Line) : Type 0 where
  pub settled : lines_below script section above ss ≡ Ok lines
  pub count : length lines ≡ length above + length ss
  pub untouched : (other : Section) → is_in other section ≡ false → counts other lines ≡ counts other above
  pub below : StandsBelow script scope lines
  pub few : IsFew lines

-- an answer added the lines of a section, or gives the first fault of one, or there was no memory
abbrev pub AddsAll : Result (Unit {0}) LowerEnd → Script → Section → List Line → List Statement → Scope → List Line → Type 0
AddsAll (Ok x) script section above ss scope lines = IsAdded script section above ss scope lines
AddsAll (Err (lower.Meaning fault)) script section above ss scope lines = lines_below script section above ss ≡ Err fault
AddsAll (Err lower.Memory) script section above ss scope lines = ⊤

-- the end of a statement, with its place
abbrev pub told_end : ℕ → KindEnd → LowerEnd
told_end n (Meaning kind) = lower.Meaning (record { at = place.Statement (n + 1); kind = kind })
told_end n Memory = lower.Memory

-- ---- reports

-- what the tests of the reports tell
abbrev pub reports_pass : ℕ → Bound → List Kept → ℕ → List Line → Result ℕ MeaningFault
reports_pass steps bound taken k lines = passed (report_checks steps bound taken k lines) 0

-- no report is at fault, or it is the first, or there was no memory
abbrev pub GivesReports : Result (Unit {0}) LowerEnd → Result ℕ MeaningFault → Type 0
GivesReports (Ok x) value = value ≡ Ok 0
GivesReports (Err (lower.Meaning fault)) value = value ≡ Err fault
GivesReports (Err lower.Memory) value = ⊤

-- ---- the whole

-- nothing of the script is settled
pub record IsUnsettled (script : Script) (scope : Scope) (lines : List Line) : Type 0 where
  pub steps : scope.steps ≡ script.steps
  pub mean : scope.mean ≡ script.mean
  pub bindings : scope.bindings.now ≡ script.bindings
  pub above : (name : List ℕ) → look scope.above.values name ≡ None
  pub written : scope.stacks_written ≡ 0
  pub read : scope.stacks_read ≡ 0
  pub none : lines ≡ []

-- an answer gives what names are above the first statement, or the first fault of the bindings, or there was no memory
abbrev pub BeginsPass : Result Scope LowerEnd → Script → Type 0
BeginsPass (Ok scope) script = (bindings_pass [] script.bindings ≡ Ok 0) × StandsBelow script scope []
BeginsPass (Err (lower.Meaning fault)) script = bindings_pass [] script.bindings ≡ Err fault
BeginsPass (Err lower.Memory) script = ⊤

-- what the tests of the area map tell
abbrev pub area_passes : Script → Result ℕ MeaningFault
area_passes script = passed (area_checks (binding_of script script.area) (is_assigned script script.area)) 0

-- the tables are those below all statements, of which no section has more operations than it may have
pub record IsSettled (script : Script) (s : Settled) : Type 0 where
  pub below : StandsBelow script s.scope s.lines
  pub count : length s.lines ≡ length script.initial + length script.dynamic
  pub few_initial : total_operations (lines_in Initial s.lines) ≤ most_operations
  pub few_dynamic : total_operations (lines_in Dynamic s.lines) ≤ most_operations

-- an answer with the value that was made in place
abbrev pub answer_with : {A : Type 0} → Result (Unit {0}) LowerEnd → A → Result A LowerEnd
answer_with (Ok x) value = Ok value
answer_with (Err end) value = Err end

-- an answer gives the statements of both sections, or the first fault of one, or there was no memory
abbrev pub GivesLines : Result Settled LowerEnd → Script → Type 0
GivesLines (Ok s) script = (all_lines script ≡ Ok s.lines) × IsSettled script s
GivesLines (Err (lower.Meaning fault)) script = all_lines script ≡ Err fault
GivesLines (Err lower.Memory) script = ⊤

-- an answer gives the settled statements, or the first fault, or there was no memory
abbrev pub SettlesScript : Result Settled LowerEnd → Script → Type 0
SettlesScript (Ok s) script = (meaning script ≡ Ok s.lines) × IsSettled script s
SettlesScript (Err (lower.Meaning fault)) script = meaning script ≡ Err fault
SettlesScript (Err lower.Memory) script = ⊤

-- what was found, or that there was no memory for it
abbrev pub or_memory : {A E : Type 0} → Result A E → Result A LowerEnd
or_memory (Ok x) = Ok x
or_memory (Err e) = Err lower.Memory
