-- What the steps of a session answer.
use Rattle.std.specs.Prelude.{◌≡◌, ◌*◌, ◌++◌, ◌∷◌, ◌<◌, ℕ, List, [], All, length, map, slice_get, Some, Result, Ok, Err}
use Rattle.std.specs.List.{filter, range_with_len}
use Rattle.outside_io.specs.State.{FolderState}
use Rattle.outside_io.specs.Events.{Run}
use Rattle.outside_io.specs.Causes.{CameTo, CutOff, RunOutcome, Why, stopped_by, why_by}
use Rattle.outside_io.specs.Met.{Meets}
use Rattle.drain_meaning.specs.Drains.{DrainMap}
use Rattle.drain_meaning.specs.Sound.{IsDrain}
use Rattle.map_meaning.specs.declared.known.Span.{Span}
use Rattle.map_meaning.specs.declared.known.StepMap.{StepMap}
use Rattle.map_meaning.specs.declared.program.Operation.{Operation}
use Rattle.map_meaning.specs.declared.program.Program.{Program}
use Rattle.map_meaning.specs.Evaluation.{Done}
use Rattle.map_meaning.specs.Maps.{IsMapOf, WholeMap, nth}
use Rattle.map_meaning.specs.Programs.{IsWellFormed, is_initial_grid, is_stack_grid}
use Rattle.map_meaning.specs.Spans.{RunOf, initial_stages, kept_maps, step_span}
use Rattle.run_session.specs.declared.ends.Stop.{Stop}
use Rattle.run_session.specs.declared.frame.Frame.{Frame}
use Rattle.run_session.specs.declared.inputs.Inputs.{Inputs}
use Rattle.run_session.specs.declared.samples.Sample.{Sample}
use Rattle.run_session.specs.declared.stages.StageMaps.{StageMaps}
use Rattle.run_session.specs.declared.work.Work.{Work}
use Rattle.run_session.specs.Asked.{AreRunsOf, HasDone, IsRunOf, all_spans}
use Rattle.run_session.specs.Ends.{ScriptEnd, why}
use Rattle.run_session.specs.Evaluation.{input_maps}
use Rattle.run_session.specs.Samples.{Sampled}
use Rattle.run_session.specs.Steps.{Standing, StepsEnd, stacks_among}
use Rattle.run_session.specs.inside.Outputs.{AreSamplesOf, HaveIds}
use Rattle.run_session.specs.inside.Parts.{AreDrainsOf, AreInputsOf, stop_outcome}
use Rattle.run_session.specs.inside.Standings.{IsSample, codes_of, sampled_of}

-- what is run is ready: a program, its inputs, its stacks and its outputs
pub record IsPrepared (work : Work) : Type 0 where
  pub formed : IsWellFormed work.program.value
  pub inputs : AreInputsOf work.program.value.inputs work.inputs
  pub drains : AreDrainsOf work.inputs.frame work.program.value.inputs work.inputs.maps work.drains
  pub stacks : work.stacks ≡ stacks_among 0 work.program.value.inputs
  pub firsts : work.firsts ≡ filter (λ output. is_initial_grid output.kind) work.program.value.outputs
  pub grids : work.grids ≡ filter (λ output. is_stack_grid output.kind) work.program.value.outputs

-- each of these operations has a whole map
abbrev pub AreWhole : ℕ → List Operation → List WholeMap → Type 0
AreWhole places operations maps = (n : ℕ) (o : Operation) → slice_get operations n ≡ Some o → IsMapOf places o.kind (nth maps n)

-- it is a sound drain map of the size of the area map
pub record IsDrainOver (frame : Frame) (m : DrainMap) : Type 0 where
  pub sound : IsDrain m
  pub rows : m.rows ≡ frame.rows
  pub cols : m.cols ≡ frame.cols

-- What all stages of `initial` left stands for what is done at step 0: the kept maps, and the drain maps, which are sound.
pub record IsAllLeft (program : Program) (inputs : Inputs) (start : Done) (left : StageMaps) : Type 0 where
  pub whole : AreWhole (inputs.frame.rows * inputs.frame.cols) program.initial start.initial
  pub kept : left.kept ≡ kept_maps 0 start.initial 0 program.initial
  pub codes : codes_of left.drains ≡ start.drains
  pub count : length left.drains ≡ length program.drains
  pub sound : All (IsDrainOver inputs.frame) left.drains

-- What is kept after so many steps stands for what the course keeps: what the stages of `initial` left, the maps of the last step
-- that are kept, and the time series.
pub record IsStanding (program : Program) (inputs : Inputs) (n : ℕ) (s : Standing) (left : StageMaps) (last : List StepMap)
    (samples : List Sample) : Type 0 where
  pub count : length s.grids ≡ n
  pub start : Done
  pub is_start : HasDone program inputs s.grids 0 start
  pub first : IsAllLeft program inputs start left
  pub done : Done
  pub is_done : HasDone program inputs s.grids n done
  pub same_start : done.initial ≡ start.initial
  pub same_drains : done.drains ≡ start.drains
  pub whole : 0 < n → AreWhole (inputs.frame.rows * inputs.frame.cols) program.dynamic done.dynamic
  pub last_is : 0 < n → last ≡ kept_maps n done.dynamic 0 program.dynamic
  pub none : n ≡ 0 → last ≡ []
  pub samples_are : s.samples ≡ map sampled_of samples
  pub each : All (IsSample (inputs.frame.rows * inputs.frame.cols)) samples
  pub kept_for : AreSamplesOf program.inputs program.outputs samples
  pub ids_are : HaveIds (input_maps program.inputs inputs) program.outputs samples

-- something stands after so many steps
abbrev pub HasStanding : Program → Inputs → ℕ → StageMaps → List StepMap → List Sample → Type 0
HasStanding program inputs n left last samples = (s : Standing) × IsStanding program inputs n s left last samples

-- a test on runs that held of some runs holds of them and of the run of this step
abbrev pub AsksStep : (List RunOf → Type 0) → (List RunOf → Type 0) → Program → Inputs → List (List StepMap) → ℕ → Type 0
AsksStep old new program inputs grids step =
    (runs : List RunOf) → old runs → (run : RunOf) × IsRunOf program inputs grids (step_span step) run × new (runs ++ run ∷ [])

-- One step more stands behind others: the grids of one more step were read, it is kept what is to be kept, and the runner was
-- asked for its run.
pub record StepStands (old new : List RunOf → Type 0) (program : Program) (inputs : Inputs) (step : ℕ) (s t : Standing)
    (left : StageMaps) (last : List StepMap) (samples : List Sample) : Type 0 where
  pub grids : List StepMap
  pub more : t.grids ≡ s.grids ++ grids ∷ []
  pub stands : IsStanding program inputs step t left last samples
  pub asks : AsksStep old new program inputs t.grids step

-- What the stages of `initial` left is that of what is done at step 0, and the runner was asked for the run of each of them.
pub record IsStart (old new : List RunOf → Type 0) (program : Program) (inputs : Inputs) (left : StageMaps) : Type 0 where
  pub start : Done
  pub is_start : HasDone program inputs [] 0 start
  pub first : IsAllLeft program inputs start left
  pub asks : old [] → (runs : List RunOf) × AreRunsOf program inputs [] (initial_stages program) runs × new runs

-- a test on runs that held of no run holds of the runs of all stages and all steps
abbrev pub AsksAll : (List RunOf → Type 0) → (List RunOf → Type 0) → Program → Inputs → List (List StepMap) → Type 0
AsksAll old new program inputs grids = old [] → (runs : List RunOf) × AreRunsOf program inputs grids (all_spans program) runs × new runs

-- the stages of `initial`, and then so many steps
abbrev pub spans_to : Program → ℕ → List Span
spans_to program n = initial_stages program ++ map step_span (range_with_len 1 n)

-- A test on runs that held of runs of the stages of `initial` holds of them and of the runs of so many steps.
abbrev pub AsksSoFar : (List RunOf → Type 0) → (List RunOf → Type 0) → Program → Inputs → List (List StepMap) → ℕ → Type 0
AsksSoFar old new program inputs grids n =
    (firsts : List RunOf) → AreRunsOf program inputs [] (initial_stages program) firsts → old firsts →
    (runs : List RunOf) × AreRunsOf program inputs grids (spans_to program n) runs × new runs

-- The same of all steps.
abbrev pub AsksFrom : (List RunOf → Type 0) → (List RunOf → Type 0) → Program → Inputs → List (List StepMap) → Type 0
AsksFrom old new program inputs grids = AsksSoFar old new program inputs grids program.steps

-- why the steps end so
abbrev pub why_steps : StepsEnd → Why
why_steps end = why end.end

-- how the steps came out that stopped so, with these time series
abbrev pub steps_outcome : List Sampled → RunOutcome ScriptEnd → RunOutcome StepsEnd
steps_outcome samples (CameTo end) = CameTo (record { samples = samples; end = end })
steps_outcome samples (CutOff fault) = CutOff fault

-- a call made the steps of a run, and these time series are left
abbrev pub MakesSteps : (Standing → Type 0) → List Sample → Run (Result Standing StepsEnd) → FolderState → FolderState →
    Result (Unit {0}) Stop → Type 0
MakesSteps Is samples run old new (Ok done) =
    (t : Standing) × Is t × (t.samples ≡ map sampled_of samples) × Meets (why_by why_steps) run old new (CameTo (Ok t))
MakesSteps Is samples run old new (Err at) =
    Meets (why_by why_steps) run old new (stopped_by (steps_outcome (map sampled_of samples) (stop_outcome at)))
