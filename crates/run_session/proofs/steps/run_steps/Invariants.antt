use Rattle.std.proofs.Common.{◌≡◌, ◌+◌, ◌-◌, ◌<◌, ◌≤◌}
use Rattle.std.specs.Prelude.{None}
use Rattle.std.specs.List.{range_with_len}
use Rattle.outside_io.specs.Runs.{in_turn}
use Rattle.outside_io.specs.Causes.{why_by}
use Rattle.outside_io.specs.inside.Parts.{Leads}
use Rattle.run_session.specs.Steps.{Standing, next_step, standing_at_start, steps_run}
use Rattle.run_session.specs.inside.Running.{AsksSoFar, IsStanding, why_steps}
use Rattle.run_session.specs.inside.Standings.{program_plan}
use Rattle.run_session.proofs.steps.run_steps.Given as goal

-- the steps that are left are what is left of the run, what is kept stands for what the course keeps, and nothing that a step
-- reads was let go
abbrev pub invariant-loop-step : goal.invariant-loop-step
invariant-loop-step g l =
    let state = g.F.Folder.state in
    let asked = g.R.BlockRunner.asked in
    let program = l.fn.work.program.value in
    let inputs = l.fn.work.inputs in
    let plan = program_plan program inputs in
    record {
      ready : g.R.BlockRunner.ready l.runner;
      block : 1 ≤ g.R.BlockRunner.block_of l.runner;
      admitted : g.R.BlockRunner.admits l.runner program inputs.frame.rows inputs.frame.cols ≡ None;
      below : l.step ≤ program.steps;
      held : l.step < program.steps → (l.work ≡ l.fn.work) × (l.left ≡ l.fn.left);
      s : Standing;
      stands : IsStanding program inputs l.step s l.fn.left l.last l.samples;
      leads : Leads (why_by why_steps) (steps_run plan (standing_at_start plan) 1 program.steps) (state l.fn.folder) (in_turn (next_step plan) s (range_with_len (l.step + 1) (program.steps - l.step))) (state l.folder);
      asks : AsksSoFar (asked l.fn.runner) (asked l.runner) program inputs s.grids l.step;
    }
