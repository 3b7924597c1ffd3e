-- What the parts of a session answer.
use Rattle.std.specs.Prelude.{◌≡◌, ◌⊎◌, ◌*◌, ℕ, true, List, [], length, slice_get}
use Rattle.std.specs.Prelude.{slice_index_or, Some, None, IfSome, Result, Ok, Err, ⊤, if◌then◌else◌}
use Rattle.std.specs.declared.option.Option.{Option}
use Rattle.cell_values.specs.declared.kind.Kind.TheVariants.{Ldd}
use Rattle.drain_meaning.specs.Drains.{DrainMap}
use Rattle.drain_meaning.specs.Sound.{IsDrain}
use Rattle.outside_io.specs.State.{FolderState}
use Rattle.outside_io.specs.Events.{Run}
use Rattle.outside_io.specs.Causes.{ReadFault, WriteFault, NoMemory, RunOutcome, CameTo, CutOff, outcome_by, stopped_by, why_by}
use Rattle.outside_io.specs.Met.{Meets}
use Rattle.outside_io.specs.inside.Parts.{Settles}
use Rattle.grid_text.specs.declared.grid.Grid.{Grid}
use Rattle.grid_text.specs.Form.{IsSize}
use Rattle.map_meaning.specs.declared.program.InputUse.{InputUse}
use Rattle.map_meaning.specs.declared.program.Program.{Program}
use Rattle.map_meaning.specs.Maps.{WholeMap, IsMapOf, nth}
use Rattle.map_meaning.specs.Programs.{is_grid_role, is_series_role, is_table_role}
use Rattle.map_meaning.specs.Spans.{AreInputMaps, AreOfInputs, HasSeriesKind, IsTableOf, at_inputs}
use Rattle.map_meaning.specs.Table.{is_kind}
use Rattle.script_types.specs.Answers.{IsLowered}
use Rattle.run_session.specs.declared.ends.InputKind.{InputKind}
use Rattle.run_session.specs.declared.ends.Halt.{Halt}
use Rattle.run_session.specs.declared.ends.Halt.TheVariants as halt
use Rattle.run_session.specs.declared.ends.Stop.{Stop}
use Rattle.run_session.specs.declared.ends.Stop.TheVariants as stop
use Rattle.run_session.specs.declared.frame.Frame.{Frame}
use Rattle.run_session.specs.declared.inputs.Area.{Area}
use Rattle.run_session.specs.declared.inputs.Inputs.{Inputs}
use Rattle.run_session.specs.declared.inputs.Sources.{Sources}
use Rattle.run_session.specs.declared.drains.Source.{Source}
use Rattle.run_session.specs.declared.loading.Ready.{Ready}
use Rattle.run_session.specs.Course.{CheckedScript, Given, Loaded}
use Rattle.run_session.specs.Ends.{ScriptEnd, why}
use Rattle.run_session.specs.Ends.{Missing, TooLong, Script, Input as InputIs, TooManyTasks, Overflow}

-- ---- parts of a run

-- how the run of a script came out that stopped so
abbrev pub stop_outcome : Stop → RunOutcome ScriptEnd
stop_outcome (stop.Missing name) = CameTo (Missing name)
stop_outcome (stop.TooLong name) = CameTo (TooLong name)
stop_outcome (stop.Script fault) = CameTo (Script fault)
stop_outcome (stop.Input name kind) = CameTo (InputIs name kind)
stop_outcome (stop.Overflow at) = CameTo (Overflow at)
stop_outcome (stop.FolderReadFault name) = CutOff (ReadFault name)
stop_outcome (stop.FolderWriteFault name) = CutOff (WriteFault name)
stop_outcome stop.Memory = CutOff NoMemory

-- how the run of a script came out that was not run to its end
abbrev pub halt_outcome : Halt → RunOutcome ScriptEnd
halt_outcome (halt.TooManyTasks count) = CameTo (TooManyTasks count)
halt_outcome (halt.Stopped at) = stop_outcome at

-- it is so of the number, where there are too many tasks
abbrev pub IfHasMany : Halt → (ℕ → Type 0) → Type 0
IfHasMany (halt.TooManyTasks count) P = P count
IfHasMany (halt.Stopped at) P = ⊤

-- a call made the run of a script, once its program is known, and answers so
abbrev pub MakesWhole : {X : Type 0} → Run (Result X ScriptEnd) → FolderState → FolderState → Result X Halt → Type 0
MakesWhole run old new result = Meets (why_by why) run old new (outcome_by halt_outcome result)

-- a call made this part of a script's run, and answers so
abbrev pub Makes : {X : Type 0} → Run (Result X ScriptEnd) → FolderState → FolderState → Result X Stop → Type 0
Makes run old new result = Meets (why_by why) run old new (outcome_by stop_outcome result)

-- a call made this part of a script's run, and what it answers stands for the value of the part
abbrev pub MakesFor : {X Y : Type 0} → (X → Y → Type 0) → Run (Result X ScriptEnd) → FolderState → FolderState → Result Y Stop →
    Type 0
MakesFor Is run old new (Ok y) = (x : _) × Is x y × Meets (why_by why) run old new (CameTo (Ok x))
MakesFor Is run old new (Err at) = Meets (why_by why) run old new (stopped_by (stop_outcome at))

-- a call that touches no folder answers this, or that there is no memory
abbrev pub GivesEnd : {X : Type 0} → Result X ScriptEnd → Result X Stop → Type 0
GivesEnd end result = Settles (why_by why) end (outcome_by stop_outcome result)

-- a call that touches no folder stops the run so, or there is no memory
abbrev pub StopsAt : {X : Type 0} → Result X ScriptEnd → Stop → Type 0
StopsAt end at = Settles (why_by why) end (stopped_by (stop_outcome at))

-- a fault of the folder, or want of memory
abbrev pub CutsOff : Stop → Type 0
CutsOff (stop.FolderReadFault name) = ⊤
CutsOff (stop.FolderWriteFault name) = ⊤
CutsOff stop.Memory = ⊤
CutsOff _ = ⊥

-- the end at this input, which is not as it is to be, or want of memory
abbrev pub IsInputEnd : List ℕ → InputKind → Stop → Type 0
IsInputEnd name kind end = (end ≡ stop.Input name kind) ⊎ (end ≡ stop.Memory)

-- ---- inputs

-- the area map as a grid, by its frame and its cells
abbrev pub area_grid : Frame → WholeMap → Grid
area_grid frame cells = record { rows = frame.rows; cols = frame.cols; head = frame.head; cells = cells }

-- the area map as a grid
abbrev pub as_grid : Area → Grid
as_grid area = area_grid area.frame area.source.cells

-- what the first so many inputs give
abbrev pub given_of : ℕ → Inputs → Given
given_of n inputs = record { count = n; maps = inputs.maps; tables = inputs.tables; series = inputs.series }

-- the map of these codes, of the size of the area map, as a drain map
abbrev pub drain_over : Frame → WholeMap → DrainMap
drain_over frame m = record { rows = frame.rows; cols = frame.cols; codes = m }

-- the drain map that an input with this map is, if it is one
abbrev pub input_drain : Frame → InputUse → WholeMap → Option DrainMap
input_drain frame input m = if is_kind Ldd input.kind then Some (drain_over frame m) else None

-- the drain map that an input with this map is, if it is one, is this one, and it is sound
pub record IsDrainFor (frame : Frame) (input : InputUse) (m : WholeMap) (drain : Option DrainMap) : Type 0 where
  pub is : drain ≡ input_drain frame input m
  pub sound : IfSome drain IsDrain

-- this is what an input is: a map of its kind, and a sound drain map where it is one
pub record IsSource (frame : Frame) (input : InputUse) (source : Source) : Type 0 where
  pub cells : IsMapOf (frame.rows * frame.cols) input.kind source.cells
  pub drain : IsDrainFor frame input source.cells source.drain

-- this is what the input with this number is
abbrev pub HasAreaMap : Frame → ℕ → List InputUse → Source → Type 0
HasAreaMap frame number list area = IfSome (slice_get list number) (λ input. IsSource frame input area)

-- the inputs that are read once are those of this list, of a size that is within the limits
pub record AreInputsOf (list : List InputUse) (inputs : Inputs) : Type 0 where
  pub size : IsSize inputs.frame.rows inputs.frame.cols
  pub maps : AreInputMaps (inputs.frame.rows * inputs.frame.cols) list inputs.maps
  pub tables : AreOfInputs is_table_role IsTableOf list inputs.tables
  pub series : AreOfInputs is_series_role (λ input series. HasSeriesKind input.kind series) list inputs.series

-- for each of these inputs there is the drain map that it is, if it is one
pub record AreDrainsOf (frame : Frame) (list : List InputUse) (maps : List WholeMap) (drains : List (Option DrainMap)) : Type 0 where
  pub count : length drains ≡ length list
  pub each : (n : ℕ) (input : InputUse) → slice_get list n ≡ Some input → is_grid_role input.role ≡ true →
      IsDrainFor frame input (nth (at_inputs is_grid_role [] list maps) n) (slice_index_or drains n None)

-- the inputs that are read once, with the drain maps among them, are those of this list
pub record AreSourcesOf (list : List InputUse) (sources : Sources) : Type 0 where
  pub inputs : AreInputsOf list sources.inputs
  pub drains : AreDrainsOf sources.inputs.frame list sources.inputs.maps sources.drains

-- ---- what is read

-- the program is that of a script without faults
pub record IsProgramFor (s : CheckedScript) (program : Program) : Type 0 where
  pub lowered : IsLowered s.script program
  pub lines : lowered.lines ≡ s.lines

-- the program and the inputs are those that were read
pub record IsReady (l : Loaded) (ready : Ready) : Type 0 where
  pub program : IsProgramFor (record { script = l.script; lines = l.lines }) ready.program.value
  pub inputs : ready.inputs ≡ l.inputs
  pub maps : AreInputsOf ready.program.value.inputs ready.inputs
  pub drains : AreDrainsOf ready.inputs.frame ready.program.value.inputs ready.inputs.maps ready.drains
