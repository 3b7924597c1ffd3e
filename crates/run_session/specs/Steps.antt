-- The course of the steps of a script, once all is read that is read before the first of them.
use Rattle.std.specs.Prelude.{ℕ, ◌+◌, ◌==◌, ◌&&◌, Bool, not, List, [], ◌∷◌, ◌++◌, filter, length, Ok, Err, Result, if◌then◌else◌}
use Rattle.std.specs.List.{range_with_len}
use Rattle.text_base.specs.Limits.{most_text_bytes}
use Rattle.cell_values.specs.declared.kind.Kind.{Kind}
use Rattle.outside_io.specs.Events.{Run, puts_of}
use Rattle.outside_io.specs.Runs.{◌>>=◌, afterwards, end_as, in_turn, putting, reading, settled}
use Rattle.grid_text.specs.declared.fault.GridFault.{GridFault}
use Rattle.grid_text.specs.declared.grid.Grid.{Grid}
use Rattle.grid_text.specs.inside.Reading.{grid_of}
use Rattle.grid_text.specs.Written.{written_grid}
use Rattle.map_meaning.specs.declared.known.OverAt.{OverAt}
use Rattle.map_meaning.specs.declared.known.StepMap.{StepMap}
use Rattle.map_meaning.specs.declared.program.InputUse.{InputUse}
use Rattle.map_meaning.specs.declared.program.OutputKind.{OutputKind}
use Rattle.map_meaning.specs.declared.program.OutputKind.TheVariants.{StackGrid}
use Rattle.map_meaning.specs.Maps.{WholeMap}
use Rattle.map_meaning.specs.Programs.{is_stack_role}
use Rattle.map_meaning.specs.StackNames.{stack_file}
use Rattle.script_types.specs.Values.{Written}
use Rattle.run_session.specs.declared.ends.InputKind.TheVariants as inputs
use Rattle.run_session.specs.declared.ends.Tally.{Tally}
use Rattle.run_session.specs.declared.frame.Frame.{Frame}
use Rattle.run_session.specs.declared.stacks.StackUse.{StackUse}
use Rattle.run_session.specs.Ends.{ScriptEnd, Missing, TooLong, Input, Overflow}
use Rattle.run_session.specs.Samples.{Sampled, is_sample_form, series_text, with_rows}

-- ---- grids

-- the grid of a text, or the end of the run at the text's first fault
abbrev pub or_input : List ℕ → Result Grid GridFault → Result Grid ScriptEnd
or_input name (Ok grid) = Ok grid
or_input name (Err fault) = Err (Input name (inputs.Grid fault))

-- a grid is read, then its text
abbrev pub grid_run : Kind → List ℕ → Run (Result Grid ScriptEnd)
grid_run kind name = do
  text ← reading Missing TooLong name most_text_bytes
  settled (or_input name (grid_of kind text))

-- whether a grid has as many rows and as many columns as the area map
abbrev pub has_size : Frame → Grid → Bool
has_size frame grid = (grid.rows == frame.rows) && (grid.cols == frame.cols)

-- the map of the grid of this name, or the end of the run where it has not the size of the area map
abbrev pub or_size : Frame → List ℕ → Grid → Result WholeMap ScriptEnd
or_size frame name grid = if has_size frame grid then Ok grid.cells else Err (Input name (inputs.Size grid.rows grid.cols))

-- a map is read, then its text and its size
abbrev pub map_run : Frame → Kind → List ℕ → Run (Result WholeMap ScriptEnd)
map_run frame kind name = do
  grid ← grid_run kind name
  settled (or_size frame name grid)

-- ---- what is run

-- the stacks among some inputs, of which the first has this number, in their order
abbrev pub stacks_among : ℕ → List InputUse → List StackUse
stacks_among n [] = []
stacks_among n (input ∷ more) =
    if is_stack_role input.role then record { input = n; prefix = input.file; kind = input.kind } ∷ stacks_among (n + 1) more
    else stacks_among (n + 1) more

-- What is run: over maps of this size, up to this last step, with these stacks and these time series; and what is reported at
-- each step, or the first Over, by the grids of stacks that were read from step 1 on.
pub record Plan : Type 0 where
  pub frame : Frame
  pub steps : ℕ
  pub stacks : List StackUse
  pub samples : List Sampled
  pub reports : List (List StepMap) → ℕ → Result (List Written) OverAt

-- ---- the reports of a step

-- a value, or the end of the run at the first Over
abbrev pub or_overflow : {X : Type 0} → Result X OverAt → Result X ScriptEnd
or_overflow (Ok x) = Ok x
or_overflow (Err at) = Err (Overflow at)

-- the file that a report is put as at a step: one of its stack, or its one file
abbrev pub report_file : ℕ → OutputKind → List ℕ → List ℕ
report_file step StackGrid prefix = stack_file prefix step
report_file step _ file = file

-- a report is put at a step, with the size and the place of the area map
abbrev pub report_run : Frame → ℕ → Unit {0} → Written → Run (Result (Unit {0}) ScriptEnd)
report_run frame step done report =
    putting (report_file step report.form report.file) (written_grid report.kind frame.rows frame.cols frame.head report.cells)

-- the reports that are put as grids
abbrev pub grids_among : List Written → List Written
grids_among reports = filter (λ r. not (is_sample_form r.form)) reports

-- the reports that are rows of time series
abbrev pub rows_among : List Written → List Written
rows_among reports = filter (λ r. is_sample_form r.form) reports

-- the statements of a step are evaluated, and then what they report is put, in their order, where these grids were read
abbrev pub evaluated_run : Plan → List (List StepMap) → ℕ → Run (Result (List Written) ScriptEnd)
evaluated_run plan grids step = do
  reports ← settled (or_overflow (plan.reports grids step))
  done ← in_turn (report_run plan.frame step) tt (grids_among reports)
  settled (Ok reports)

-- ---- one step after others

-- what stands after some settled steps: the grids of stacks that were read at each of them, and the time series with a row
-- for each of them
pub record Standing : Type 0 where
  pub grids : List (List StepMap)
  pub samples : List Sampled

-- the grid of one more stack is read
abbrev pub one_more_grid : Frame → ℕ → List StepMap → StackUse → Run (Result (List StepMap) ScriptEnd)
one_more_grid frame step grids stack = do
  m ← map_run frame stack.kind (stack_file stack.prefix step)
  settled (Ok (grids ++ record { step = step; operation = stack.input; cells = m } ∷ []))

-- one step after others: the grids of its stacks are read, in their order, its statements are evaluated, and what they report
-- is put
abbrev pub step_run : Plan → Standing → ℕ → Run (Result Standing ScriptEnd)
step_run plan standing step = do
  grids ← in_turn (one_more_grid plan.frame step) [] plan.stacks
  reports ← evaluated_run plan (standing.grids ++ grids ∷ []) step
  settled (Ok (record { grids = standing.grids ++ grids ∷ []; samples = with_rows step standing.samples (rows_among reports) }))

-- the end of the steps before the last of them, and the time series of those that were settled
pub record StepsEnd : Type 0 where
  pub samples : List Sampled
  pub end : ScriptEnd

-- what stands, or the end of the steps with these time series
abbrev pub or_steps_end : {X : Type 0} → List Sampled → Result X ScriptEnd → Result X StepsEnd
or_steps_end samples (Ok x) = Ok x
or_steps_end samples (Err end) = Err (record { samples = samples; end = end })

-- one step after others; where it does not come to be settled, the time series of those others stay
abbrev pub next_step : Plan → Standing → ℕ → Run (Result Standing StepsEnd)
next_step plan standing step = end_as (or_steps_end standing.samples) (step_run plan standing step)

-- so many steps after others, one by one
abbrev pub steps_run : Plan → Standing → ℕ → ℕ → Run (Result Standing StepsEnd)
steps_run plan standing first count = in_turn (next_step plan) standing (range_with_len first count)

-- ---- the time series

-- a time series is put
abbrev pub series_run : Unit {0} → Sampled → Run (Result (Unit {0}) ScriptEnd)
series_run done s = putting s.file (series_text s)

-- the time series of the settled steps, whichever way the steps ended
abbrev pub samples_by : Result Standing StepsEnd → List Sampled
samples_by (Ok standing) = standing.samples
samples_by (Err stop) = stop.samples

-- the end of the whole, by that of the steps
abbrev pub or_end : {X : Type 0} → Result X StepsEnd → Result X ScriptEnd
or_end (Ok x) = Ok x
or_end (Err stop) = Err stop.end

-- so many steps after others, and then the time series of the settled ones, whichever way the steps ended
abbrev pub steps_and_series : Plan → Standing → ℕ → ℕ → Run (Result Standing ScriptEnd)
steps_and_series plan standing first count =
    end_as or_end (afterwards (steps_run plan standing first count)
    (λ end. end_as (or_steps_end []) (in_turn series_run tt (samples_by end))))

-- ---- all steps

-- what stands before step 1
abbrev pub standing_at_start : Plan → Standing
standing_at_start plan = record { grids = []; samples = plan.samples }

-- step 0, which is the section `initial`, and then the steps and the time series
abbrev pub plan_run : Plan → Run (Result Standing ScriptEnd)
plan_run plan = do
  reports ← evaluated_run plan [] 0
  steps_and_series plan (standing_at_start plan) 1 plan.steps

-- ---- how many files

-- the number of files that were put and that of the last step, where the run came to its end
abbrev pub tally_by : {X : Type 0} → ℕ → ℕ → Result X ScriptEnd → Result Tally ScriptEnd
tally_by files steps (Ok x) = Ok (record { files = files; steps = steps })
tally_by files steps (Err end) = Err end

-- a run up to this last step, told with the number of its puts
abbrev pub tallied : {X : Type 0} → ℕ → Run (Result X ScriptEnd) → Run (Result Tally ScriptEnd)
tallied steps run files =
    let course = run files in
    record { events = course.events; end = tally_by (length (puts_of course.events)) steps course.end }
