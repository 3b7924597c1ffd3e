-- The course of a script: its reads and puts in order and its end, by its text, its files and a count of tasks.
use Rattle.std.specs.Prelude.{ℕ, ◌+◌, ◌/◌, ◌%◌, List, [], ◌∷◌, ◌++◌, ◌==◌, slice_index_or, Some, None, Ok, Err, Result, if◌then◌else◌}
use Rattle.std.specs.declared.option.Option.{Option}
use Rattle.text_base.specs.Limits.{most_script_bytes, most_text_bytes}
use Rattle.cell_values.specs.declared.kind.Kind.TheVariants.{Scalar, Ldd}
use Rattle.drain_meaning.specs.inside.FirstUnsound.{first_unsound}
use Rattle.map_meaning.specs.Table.{is_kind}
use Rattle.outside_io.specs.Events.{Run}
use Rattle.outside_io.specs.Runs.{◌>>=◌, settled, reading, in_turn, end_as}
use Rattle.script_syntax.specs.declared.fault.SyntaxFault.{SyntaxFault}
use Rattle.script_syntax.specs.declared.tree.Script.{Script}
use Rattle.script_syntax.specs.inside.Reading.{tree_of}
use Rattle.grid_text.specs.declared.grid.Grid.{Grid}
use Rattle.lookup_table.specs.declared.fault.TableFault.{TableFault}
use Rattle.lookup_table.specs.Form.{TableValue}
use Rattle.lookup_table.specs.inside.Reading.{table_of}
use Rattle.time_series.specs.declared.fault.SeriesFault.{SeriesFault}
use Rattle.time_series.specs.Form.{SeriesValue}
use Rattle.time_series.specs.inside.Reading.{series_of}
use Rattle.map_meaning.specs.declared.program.InputUse.{InputUse}
use Rattle.map_meaning.specs.declared.program.Role.{Role}
use Rattle.map_meaning.specs.declared.program.Role.TheVariants as role
use Rattle.map_meaning.specs.Maps.{WholeMap}
use Rattle.script_types.specs.declared.fault.MeaningFault.{MeaningFault}
use Rattle.script_types.specs.declared.typed.Line.{Line}
use Rattle.script_types.specs.Lowered.{area_number, inputs_of, outputs_from}
use Rattle.script_types.specs.Meaning.{meaning}
use Rattle.script_types.specs.Names.{binding_of}
use Rattle.run_session.specs.declared.ends.InputKind.TheVariants as inputs
use Rattle.run_session.specs.declared.ends.ScriptFault.TheVariants as faults
use Rattle.run_session.specs.declared.ends.Tally.{Tally}
use Rattle.run_session.specs.declared.frame.Frame.{Frame}
use Rattle.run_session.specs.declared.inputs.Inputs.{Inputs}
use Rattle.run_session.specs.Ends.{ScriptEnd, Missing, TooLong, Script as ScriptIs, Input, TooManyTasks, script_end}
use Rattle.run_session.specs.Evaluation.{input_maps, reports_of}
use Rattle.run_session.specs.Samples.{all_begun}
use Rattle.run_session.specs.Steps.{Plan, grid_run, map_run, plan_run, stacks_among, tallied}

-- ---- the script

-- the tree of a text, or the end of the run at the text's first fault
abbrev pub or_syntax : Result Script SyntaxFault → Result Script ScriptEnd
or_syntax (Ok script) = Ok script
or_syntax (Err fault) = Err (ScriptIs (faults.Syntax fault))

-- the script is read, then its text
abbrev pub text_run : List ℕ → Run (Result Script ScriptEnd)
text_run name = do
  text ← reading Missing TooLong name most_script_bytes
  settled (or_syntax (tree_of text))

-- a script without faults, and its settled statements
pub record CheckedScript : Type 0 where
  pub script : Script
  pub lines : List Line

-- the script with its settled statements, or the end of the run at the first fault of meaning
abbrev pub or_meaning : Script → Result (List Line) MeaningFault → Result CheckedScript ScriptEnd
or_meaning script (Ok lines) = Ok (record { script = script; lines = lines })
or_meaning script (Err fault) = Err (ScriptIs (faults.Meaning fault))

-- the script with its settled statements, or its first fault of meaning
unfoldable pub checked_script : Script → Result CheckedScript ScriptEnd
checked_script script = or_meaning script (meaning script)

-- the script of this name is read, and its statements are settled
abbrev pub checked_run : List ℕ → Run (Result CheckedScript ScriptEnd)
checked_run name = do
  script ← text_run name
  settled (checked_script script)

-- ---- the inputs

-- the table of a text, or the end of the run at the text's first fault
abbrev pub or_table : List ℕ → Result TableValue TableFault → Result TableValue ScriptEnd
or_table name (Ok table) = Ok table
or_table name (Err fault) = Err (Input name (inputs.Table fault))

-- a table of so many keys is read, then its text
abbrev pub table_run : ℕ → InputUse → Run (Result TableValue ScriptEnd)
table_run keys input = do
  text ← reading Missing TooLong input.file most_text_bytes
  settled (or_table input.file (table_of keys input.kind text))

-- the series of a text, or the end of the run at the text's first fault
abbrev pub or_series : List ℕ → Result SeriesValue SeriesFault → Result SeriesValue ScriptEnd
or_series name (Ok series) = Ok series
or_series name (Err fault) = Err (Input name (inputs.Series fault))

-- a series is read, then its text
abbrev pub timed_run : InputUse → Run (Result SeriesValue ScriptEnd)
timed_run input = do
  text ← reading Missing TooLong input.file most_text_bytes
  settled (or_series input.file (series_of input.kind text))

-- what some inputs give: how many they are, and the map, the table or the series of each that is one
pub record Given : Type 0 where
  pub count : ℕ
  pub maps : List WholeMap
  pub tables : List TableValue
  pub series : List SeriesValue

-- before any input is read
abbrev pub nothing_given : Given
nothing_given = record { count = 0; maps = []; tables = []; series = [] }

-- the same with one more map
abbrev pub with_map_given : Given → WholeMap → Given
with_map_given given m =
    record { count = given.count + 1; maps = given.maps ++ m ∷ []; tables = given.tables; series = given.series }

-- the same with one more table
abbrev pub with_table_given : Given → TableValue → Given
with_table_given given table =
    record { count = given.count + 1; maps = given.maps; tables = given.tables ++ table ∷ []; series = given.series }

-- the same with one more series
abbrev pub with_series_given : Given → SeriesValue → Given
with_series_given given series =
    record { count = given.count + 1; maps = given.maps; tables = given.tables; series = given.series ++ series ∷ [] }

-- the same with one more stack, which is not read here
abbrev pub with_stack_given : Given → Given
with_stack_given given = record { count = given.count + 1; maps = given.maps; tables = given.tables; series = given.series }

-- the size of a grid, and where it lies
abbrev pub frame_of : Grid → Frame
frame_of grid = record { rows = grid.rows; cols = grid.cols; head = grid.head }

-- the end of the run at the first unsound place of a map, or the map
abbrev pub sound_or_end : ℕ → List ℕ → WholeMap → Option ℕ → Result WholeMap ScriptEnd
sound_or_end cols name m None = Ok m
sound_or_end cols name m (Some place) = Err (Input name (inputs.Unsound (place / cols + 1) (place % cols + 1)))

-- the map of an input, or the end of the run where it is a drain map that is not sound
unfoldable pub or_unsound : Frame → InputUse → WholeMap → Result WholeMap ScriptEnd
or_unsound frame input m =
    if is_kind Ldd input.kind
    then sound_or_end frame.cols input.file m (first_unsound (record { rows = frame.rows; cols = frame.cols; codes = m }))
    else Ok m

-- a grid is read, then its text, its size and whether it is sound
abbrev pub sound_run : Frame → InputUse → Run (Result WholeMap ScriptEnd)
sound_run frame input = do
  m ← map_run frame input.kind input.file
  settled (or_unsound frame input m)

-- the map of the input with the number n; the area map, which has the other number, was read before
abbrev pub grid_input_run : ℕ → Grid → ℕ → InputUse → Run (Result WholeMap ScriptEnd)
grid_input_run number area n input = if n == number then settled (Ok area.cells) else sound_run (frame_of area) input

-- one more input is read, by its role
abbrev pub input_by_role : ℕ → Grid → Given → InputUse → Role → Run (Result Given ScriptEnd)
input_by_role number area given input role.Grid = do
  m ← grid_input_run number area given.count input
  settled (Ok (with_map_given given m))
input_by_role number area given input (role.Table keys) = do
  table ← table_run keys input
  settled (Ok (with_table_given given table))
input_by_role number area given input role.Series = do
  series ← timed_run input
  settled (Ok (with_series_given given series))
input_by_role number area given input role.Stack = settled (Ok (with_stack_given given))

-- one more input is read
abbrev pub one_more_input : ℕ → Grid → Given → InputUse → Run (Result Given ScriptEnd)
one_more_input number area given input = input_by_role number area given input input.role

-- the input with this number; none counts as one without a name
abbrev pub numbered_input : List InputUse → ℕ → InputUse
numbered_input list number = slice_index_or list number (record { file = []; role = role.Grid; kind = Scalar })

-- what the inputs give, over the area map
abbrev pub inputs_given : Grid → Given → Inputs
inputs_given area given = record { frame = frame_of area; maps = given.maps; tables = given.tables; series = given.series }

-- the area map is read, then its text and whether it is sound
abbrev pub area_run : InputUse → Run (Result Grid ScriptEnd)
area_run input = do
  area ← grid_run input.kind input.file
  m ← settled (or_unsound (frame_of area) input area.cells)
  settled (Ok area)

-- the area map, which has this number, is read, and then each other input that is no stack, in their order
abbrev pub inputs_run : List InputUse → ℕ → Run (Result Inputs ScriptEnd)
inputs_run list number = do
  area ← area_run (numbered_input list number)
  given ← in_turn (one_more_input number area) nothing_given list
  settled (Ok (inputs_given area given))

-- ---- what is read before the first step

-- what is known once all that a run reads first was read: a script without faults, and its inputs
pub record Loaded : Type 0 where
  pub script : Script
  pub lines : List Line
  pub inputs : Inputs

-- the inputs of a script without faults are read
abbrev pub inputs_read : CheckedScript → Run (Result Loaded ScriptEnd)
inputs_read s = do
  inputs ← inputs_run (inputs_of s.script) (area_number s.script)
  settled (Ok (record { script = s.script; lines = s.lines; inputs = inputs }))

-- the script of this name is read, and then its inputs
abbrev pub load_run : List ℕ → Run (Result Loaded ScriptEnd)
load_run name = do
  s ← checked_run name
  inputs_read s

-- ---- the whole

-- a count of tasks that is too large, by a size, or none
abbrev pub Many : Type 0
Many = ℕ → ℕ → Option ℕ

-- too many tasks end the run
abbrev pub or_too_many : Option ℕ → Result (Unit {0}) ScriptEnd
or_too_many None = Ok tt
or_too_many (Some count) = Err (TooManyTasks count)

-- what is run of a script without faults, over the inputs that were read: its settled statements, step by step
abbrev pub plan_of : Loaded → Plan
plan_of l = record {
  frame = l.inputs.frame;
  steps = l.script.steps;
  stacks = stacks_among 0 (inputs_of l.script);
  samples = all_begun (input_maps (inputs_of l.script) l.inputs) (outputs_from (binding_of l.script) 1 l.lines);
  reports = reports_of l.script l.lines l.inputs;
}

-- these tasks are not too many, and then the plan is run
abbrev pub start_run : Option ℕ → Plan → Run (Result Tally ScriptEnd)
start_run many plan = do
  few ← settled (or_too_many many)
  tallied plan.steps (plan_run plan)

-- what was read is run
abbrev pub loaded_run : (Script → Many) → Loaded → Run (Result Tally ScriptEnd)
loaded_run many l = start_run (many l.script l.inputs.frame.rows l.inputs.frame.cols) (plan_of l)

-- the script of this name and its inputs are read, and then it is run
abbrev pub whole_run : (Script → Many) → List ℕ → Run (Result Tally ScriptEnd)
whole_run many name = do
  l ← load_run name
  loaded_run many l

-- the run of the script of this name, where a count of tasks that is too large is told by the script and the size
abbrev pub script_run : (Script → Many) → List ℕ → Run ScriptEnd
script_run many name = end_as script_end (whole_run many name)
