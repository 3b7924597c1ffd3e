-- How many files a run puts.
use Rattle.std.specs.Prelude.{◌≡◌, ◌+◌, ◌*◌, ℕ, List, length, Result, Ok}
use Rattle.std.specs.List.{filter}
use Rattle.outside_io.specs.State.{Files, FolderState}
use Rattle.outside_io.specs.Events.{Run, puts_of}
use Rattle.outside_io.specs.Causes.{CameTo, why_by}
use Rattle.outside_io.specs.Met.{Meets}
use Rattle.map_meaning.specs.declared.program.Program.{Program}
use Rattle.map_meaning.specs.Programs.{is_initial_grid, is_stack_grid}
use Rattle.map_meaning.specs.Spans.{RunOf}
use Rattle.run_session.specs.declared.ends.Tally.{Tally}
use Rattle.run_session.specs.declared.inputs.Inputs.{Inputs}
use Rattle.run_session.specs.Ends.{why}
use Rattle.run_session.specs.Samples.{is_sample_form}
use Rattle.run_session.specs.Steps.{Standing, plan_run}
use Rattle.run_session.specs.inside.Running.{AsksAll}
use Rattle.run_session.specs.inside.Standings.{program_plan}

-- the run puts so many files, wherever it gives a value
abbrev pub PutsSoMany : {X E : Type 0} → ℕ → Run (Result X E) → Type 0
PutsSoMany {X} n run = (files : Files) (x : X) → (run files).end ≡ Ok x → length (puts_of (run files).events) ≡ n

-- how many files a program puts: its grids of `initial`, each stack at each step, and its time series
abbrev pub files_put : Program → ℕ
files_put program =
    length (filter (λ output. is_initial_grid output.kind) program.outputs)
    + program.steps * length (filter (λ output. is_stack_grid output.kind) program.outputs)
    + length (filter (λ output. is_sample_form output.kind) program.outputs)

-- what was done: so many files put, up to this step
abbrev pub tally_of : ℕ → ℕ → Tally
tally_of files steps = record { files = files; steps = steps }

-- a program was run to its end over its inputs, and the runner was asked for each of its steps
pub record HasRun (old new : List RunOf → Type 0) (program : Program) (inputs : Inputs) (before after : FolderState) : Type 0 where
  pub standing : Standing
  pub meets : Meets (why_by why) (plan_run (program_plan program inputs)) before after (CameTo (Ok standing))
  pub asks : AsksAll old new program inputs standing.grids
