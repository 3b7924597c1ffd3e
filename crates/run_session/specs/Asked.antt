-- What a session asks of its runner.
use Rattle.std.specs.Prelude.{◌≡◌, ◌<◌, ◌-◌, ℕ, nat_le, List, [], ◌∷◌, ◌++◌, filter, length, map, take, Ok, Some, IfSome, Result, ⊤}
use Rattle.std.specs.declared.option.Option.{Option}
use Rattle.std.specs.List.{range_with_len}
use Rattle.outside_io.specs.Events.{Run}
use Rattle.outside_io.specs.Runs.{◌>>=◌}
use Rattle.outside_io.specs.State.{Files}
use Rattle.script_syntax.specs.declared.tree.Script.{Script}
use Rattle.map_meaning.specs.declared.known.Known.{Known}
use Rattle.map_meaning.specs.declared.known.Span.{Span}
use Rattle.map_meaning.specs.declared.known.StepMap.{StepMap}
use Rattle.map_meaning.specs.declared.program.Program.{Program}
use Rattle.map_meaning.specs.Evaluation.{Done}
use Rattle.map_meaning.specs.declared.known.Span.TheVariants as span
use Rattle.map_meaning.specs.Spans.{Knows, RunOf, initial_stages, kept_maps, known_codes, step_span}
use Rattle.script_types.specs.Answers.{IsLowered}
use Rattle.script_types.specs.Values.{done_steps}
use Rattle.run_session.specs.declared.ends.SessionEnd.{SessionEnd}
use Rattle.run_session.specs.declared.ends.SessionEnd.TheVariants.{Done as IsDone, TooManyTasks}
use Rattle.run_session.specs.declared.inputs.Inputs.{Inputs}
use Rattle.run_session.specs.Course.{Loaded, Many, load_run, plan_of}
use Rattle.run_session.specs.Ends.{ScriptEnd}
use Rattle.run_session.specs.Evaluation.{grids_at, scenes_over}
use Rattle.run_session.specs.Steps.{Standing, plan_run}

-- the counts of a script's tasks are those that the runner finds in its program
abbrev pub CountsTasks : (Program → ℕ → ℕ → Option ℕ) → (Script → Many) → Type 0
CountsTasks admits many = (script : Script) (program : Program) → IsLowered script program →
    (rows cols : ℕ) → many script rows cols ≡ admits program rows cols

-- the number is that of some script, over maps of some size
abbrev pub IsCountOf : (Script → Many) → ℕ → Type 0
IsCountOf many count = (script : Script) × (rows : ℕ) × (cols : ℕ) × (many script rows cols ≡ Some count)

-- it is so of the number, where the answer is too many tasks
abbrev pub IfTooMany : SessionEnd → (ℕ → Type 0) → Type 0
IfTooMany (TooManyTasks count) P = P count
IfTooMany other P = ⊤

-- the spans of a program: each stage of `initial`, and then each step
abbrev pub all_spans : Program → List Span
all_spans program = initial_stages program ++ map step_span (range_with_len 1 program.steps)

-- the step of a span; 0 for the section `initial`
abbrev pub span_step : Span → ℕ
span_step (span.Initial first end) = 0
span_step (span.Steps first last) = first

-- what a step leaves, where the operations of a program are evaluated over these inputs and these grids of stacks
abbrev pub HasDone : Program → Inputs → List (List StepMap) → ℕ → Done → Type 0
HasDone program inputs grids step done = done_steps program (scenes_over program.inputs inputs grids) step ≡ Ok done

-- how many drain maps are computed once so many operations of `initial` are
abbrev pub drains_due : Program → ℕ → ℕ
drains_due program count = length (filter (λ d. nat_le d.after count) program.drains)

-- A stage of `initial` knows of the stages before it the maps that are kept of them, and the drain maps that are computed by then.
pub record KnowsStages (program : Program) (inputs : Inputs) (grids : List (List StepMap)) (first : ℕ) (known : Known) : Type 0 where
  pub start : Done
  pub is_start : HasDone program inputs grids 0 start
  pub initial : known.initial ≡ kept_maps 0 start.initial 0 (take first program.initial)
  pub drains : known_codes known ≡ take (drains_due program first) start.drains

-- A step knows of the steps before it the maps that are kept of `initial`, the drain maps, and behind step 1 the maps of the step
-- before.
pub record KnowsSteps (program : Program) (inputs : Inputs) (grids : List (List StepMap)) (step : ℕ) (known : Known) : Type 0 where
  pub start : Done
  pub is_start : HasDone program inputs grids 0 start
  pub initial : known.initial ≡ kept_maps 0 start.initial 0 program.initial
  pub drains : known_codes known ≡ start.drains
  pub before : Done
  pub is_before : HasDone program inputs grids (step - 1) before
  pub last : 1 < step → known.last ≡ kept_maps (step - 1) before.dynamic 0 program.dynamic

-- what a span knows of the spans before it
abbrev pub KnowsSpans : Program → Inputs → List (List StepMap) → Span → Known → Type 0
KnowsSpans program inputs grids (span.Initial first end) known = KnowsStages program inputs grids first known
KnowsSpans program inputs grids (span.Steps first last) known = KnowsSteps program inputs grids first known

-- A run of a span of a program, over known values that hold what it reads: what these inputs give, the grids of its stacks,
-- and what the spans before it leave.
pub record IsRunOf (program : Program) (inputs : Inputs) (grids : List (List StepMap)) (s : Span) (run : RunOf) : Type 0 where
  pub program_same : run.program ≡ program
  pub span_same : run.span ≡ s
  pub knows : Knows program s run.known
  pub rows : run.known.rows ≡ inputs.frame.rows
  pub cols : run.known.cols ≡ inputs.frame.cols
  pub maps : run.known.maps ≡ inputs.maps
  pub tables : run.known.tables ≡ inputs.tables
  pub series : run.known.series ≡ inputs.series
  pub stacks : run.known.stacks ≡ grids_at grids (span_step s)
  pub before : KnowsSpans program inputs grids s run.known

-- the runs of these spans of a program, each once and in order
abbrev pub AreRunsOf : Program → Inputs → List (List StepMap) → List Span → List RunOf → Type 0
AreRunsOf program inputs grids [] [] = ⊤
AreRunsOf program inputs grids [] (run ∷ runs) = ⊥
AreRunsOf program inputs grids (s ∷ spans) [] = ⊥
AreRunsOf program inputs grids (s ∷ spans) (run ∷ runs) =
    IsRunOf program inputs grids s run × AreRunsOf program inputs grids spans runs

-- what was read is run, up to what stands after the last step
abbrev pub stands_run : List ℕ → Run (Result Standing ScriptEnd)
stands_run name = do
  l ← load_run name
  plan_run (plan_of l)

-- A runner of block 1 was asked for the runs of the script of this name, stage by stage and step by step, and for nothing else.
-- The script, its inputs and its stacks are those of the files, where these are told.
pub record WasAsked (asked : List RunOf → Type 0) (name : List ℕ) (holds : Option Files) : Type 0 where
  pub loaded : Loaded
  pub read : IfSome holds (λ files. Ok loaded ≡ (load_run name files).end)
  pub standing : Standing
  pub stands : IfSome holds (λ files. Ok standing ≡ (stands_run name files).end)
  pub program : Program
  pub lowered : IsLowered loaded.script program
  pub runs : List RunOf
  pub each : AreRunsOf program loaded.inputs standing.grids (all_spans program) runs
  pub was : asked runs

-- the script was run to its end
abbrev pub IfDone : SessionEnd → Type 0 → Type 0
IfDone (IsDone files steps) P = P
IfDone other P = ⊤
