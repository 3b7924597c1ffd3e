-- The loop over steps, by the lemmas for a part for each number.
use Rattle.std.proofs.Common.{◌≡◌, ◌+◌, ◌-◌, ◌<◌, ◌≤◌, map, sym, ap, subst, ◌∙◌, arith, inl, inr}
use Rattle.std.specs.Prelude.{◌⊎◌, None}
use Rattle.std.specs.List.{range_with_len}
use Rattle.outside_io.specs.Causes.{stopped_by, why_by}
use Rattle.outside_io.specs.Met.{Meets}
use Rattle.outside_io.proofs.Callers.{next_number, no_number, turn_done, turn_on, turn_stop}
use Rattle.map_meaning.specs.declared.program.Program.{Program}
use Rattle.run_session.specs.declared.stages.StageMaps.{StageMaps}
use Rattle.run_session.specs.declared.work.Work.{Work}
use Rattle.run_session.specs.Steps.{next_step, standing_at_start, steps_run}
use Rattle.run_session.specs.inside.Parts.{CutsOff, stop_outcome}
use Rattle.run_session.specs.inside.Running.{AsksSoFar, AsksStep, HasStanding, IsPrepared, IsStanding, steps_outcome, why_steps}
use Rattle.run_session.specs.inside.Standings.{program_plan, sampled_of}
use Rattle.run_session.proofs.StepLoops.{asks_more, fault_same, next_settles, next_stops, steps_out}
use Rattle.run_session.proofs.steps.run_steps.Goals as goal

pub step_on-requires-clause-work : goal.step_on-requires-clause-work
step_on-requires-clause-work g c =
    let less = subst (λ n. c.loop-step.step < n) (ap (λ (p : Program). p.steps) c.deref.ensures) c.loop-step-test.true in
    subst IsPrepared (sym (c.loop-step.invariant.held less).0) c.requires.work

pub step_on-requires-clause-admitted : goal.step_on-requires-clause-admitted
step_on-requires-clause-admitted g c =
    let less = subst (λ n. c.loop-step.step < n) (ap (λ (p : Program). p.steps) c.deref.ensures) c.loop-step-test.true in
    subst (λ (w : Work). g.R.BlockRunner.admits c.loop-step.runner w.program.value w.inputs.frame.rows w.inputs.frame.cols ≡ None) (sym (c.loop-step.invariant.held less).0) c.loop-step.invariant.admitted

pub step_on-requires-clause-there : goal.step_on-requires-clause-there
step_on-requires-clause-there g c =
    let less = subst (λ n. c.loop-step.step < n) (ap (λ (p : Program). p.steps) c.deref.ensures) c.loop-step-test.true in
    subst (λ (w : Work). c.loop-step.step + 1 ≤ w.program.value.steps) (sym (c.loop-step.invariant.held less).0) (omega (arith, less))

pub step_on-requires-clause-standing : goal.step_on-requires-clause-standing
step_on-requires-clause-standing g c =
    let less = subst (λ n. c.loop-step.step < n) (ap (λ (p : Program). p.steps) c.deref.ensures) c.loop-step-test.true in
    let held = c.loop-step.invariant.held less in
    let k = c.loop-step.step in
    let e : k ≡ k + 1 - 1 = omega arith in
    subst (λ (w : Work). HasStanding w.program.value w.inputs (k + 1 - 1) c.loop-step.left c.loop-step.last c.loop-step.samples) (sym held.0)
    (subst (λ (left : StageMaps). HasStanding c.args.work.now.program.value c.args.work.now.inputs (k + 1 - 1) left c.loop-step.last c.loop-step.samples) (sym held.1)
    (c.loop-step.invariant.s, subst (λ n. IsStanding c.args.work.now.program.value c.args.work.now.inputs n c.loop-step.invariant.s c.args.left.now c.loop-step.last c.loop-step.samples) e c.loop-step.invariant.stands))

pub returns-in_err-last-clause-meets : goal.returns-in_err-last-clause-meets
returns-in_err-last-clause-meets g c =
    let program = c.args.work.now.program.value in
    let inputs = c.args.work.now.inputs in
    let plan = program_plan program inputs in
    let steps = program.steps in
    let state = g.F.Folder.state in
    let whole = steps_run plan (standing_at_start plan) 1 steps in
    let k = c.loop-step.step in
    let inv = c.loop-step.invariant in
    let count : c.deref.result.now.steps ≡ steps = ap (λ (p : Program). p.steps) c.deref.ensures in
    let s = inv.s in
    let e : k ≡ k + 1 - 1 = omega arith in
    let at = c.in_err-last.field-0.0 in
    let held = inv.held (subst (λ n. k < n) count c.loop-step-test.true) in
    let stepped = rw held.1 at (rw held.0 at c.in_err-last.ensures.meets) in
    let stands = subst (λ n. IsStanding program inputs n s c.args.left.now c.loop-step.last c.loop-step.samples) e inv.stands in
    let meets = next_stops plan s (k + 1) (state c.loop-step.folder) (state c.step_on.new.folder) (stop_outcome at) (stepped s stands) in
    let stopped = turn_stop why_steps (next_step plan) whole (state c.args.folder.now) (range_with_len (k + 1) (steps - k)) s (state c.loop-step.folder) (state c.step_on.new.folder) (k + 1) (range_with_len (k + 1 + 1) (steps - (k + 1))) (steps_outcome s.samples (stop_outcome at)) (next_number k steps (subst (λ n. k < n) count c.loop-step-test.true)) inv.leads meets in
    let by : CutsOff at ⊎ (c.step_on.new.samples ≡ c.loop-step.samples) → steps_outcome s.samples (stop_outcome at) ≡ steps_outcome (map sampled_of c.step_on.new.samples) (stop_outcome at) = λ r.
    elim r [
      | inl fault ↦ fault_same at s.samples (map sampled_of c.step_on.new.samples) fault
      | inr same ↦ ap (λ samples. steps_outcome samples (stop_outcome at)) (inv.stands.samples_are ∙ ap (map sampled_of) (sym same))
    ] in
    steps_out _ c.step_on.new.samples whole (state c.args.folder.now) (state c.step_on.new.folder) c.from_residual.result at c.from_residual.ensures.1
    (subst (λ o. Meets (why_by why_steps) whole (state c.args.folder.now) (state c.step_on.new.folder) (stopped_by o)) (by c.in_err-last.ensures.samples) stopped)

pub loop-step-preserved : goal.loop-step-preserved
loop-step-preserved g c =
    let program = c.args.work.now.program.value in
    let inputs = c.args.work.now.inputs in
    let plan = program_plan program inputs in
    let steps = program.steps in
    let state = g.F.Folder.state in
    let whole = steps_run plan (standing_at_start plan) 1 steps in
    let k = c.loop-step.step in
    let inv = c.loop-step.invariant in
    let count : c.deref.result.now.steps ≡ steps = ap (λ (p : Program). p.steps) c.deref.ensures in
    let s = inv.s in
    let e : k ≡ k + 1 - 1 = omega arith in
    let stands = subst (λ n. IsStanding program inputs n s c.args.left.now c.loop-step.last c.loop-step.samples) e inv.stands in
    let held = inv.held (subst (λ n. k < n) count c.loop-step-test.true) in
    let stepped = rw held.1 at (rw held.0 at c.in_ok-last.ensures.meets) in
    let made = stepped s stands in
    let t = made.0 in
    let settled = made.1 in
    let meets = next_settles plan s (k + 1) (state c.loop-step.folder) (state c.step_on.new.folder) t made.2 in
    let asked = g.R.BlockRunner.asked in
    let asks = asks_more (asked c.args.runner.now) (asked c.loop-step.runner) (asked c.step_on.new.runner) program inputs s.grids settled.grids k inv.stands.count inv.asks
    (subst (λ grids. AsksStep (asked c.loop-step.runner) (asked c.step_on.new.runner) program inputs grids (k + 1)) settled.more settled.asks) in
    record {
      ready = c.in_ok-last.ensures.ready;
      block = subst (λ n. 1 ≤ n) (sym c.in_ok-last.ensures.block) inv.block;
      admitted = c.in_ok-last.ensures.admits program inputs.frame.rows inputs.frame.cols ∙ inv.admitted;
      below = omega (arith, subst (λ n. k < n) count c.loop-step-test.true);
      held = λ less.
          let more = c.in_ok-last.ensures.more (subst (λ (w : Work). k + 1 < w.program.value.steps) (sym held.0) less) in
          (more.0 ∙ held.0, more.1 ∙ held.1);
      s = t;
      stands = settled.stands;
      leads = turn_on why_steps (next_step plan) whole (state c.args.folder.now) (range_with_len (k + 1) (steps - k)) s (state c.loop-step.folder) (state c.step_on.new.folder) (k + 1) (range_with_len (k + 1 + 1) (steps - (k + 1))) t (next_number k steps (subst (λ n. k < n) count c.loop-step-test.true)) inv.leads meets;
      asks = subst (λ grids. AsksSoFar (asked c.args.runner.now) (asked c.step_on.new.runner) program inputs grids (k + 1)) (sym settled.more) asks;
    }

pub returns-clause-meets : goal.returns-clause-meets
returns-clause-meets g c =
    let program = c.args.work.now.program.value in
    let inputs = c.args.work.now.inputs in
    let plan = program_plan program inputs in
    let steps = program.steps in
    let state = g.F.Folder.state in
    let whole = steps_run plan (standing_at_start plan) 1 steps in
    let k = c.loop-step.step in
    let inv = c.loop-step.invariant in
    let count : c.deref.result.now.steps ≡ steps = ap (λ (p : Program). p.steps) c.deref.ensures in
    let s = inv.s in
    let asked = g.R.BlockRunner.asked in
    let all : k ≡ steps = omega (arith, subst (λ n. n ≤ k) count c.loop-step-test.false, inv.below) in (
      s,
      subst (λ n. AsksSoFar (asked c.args.runner.now) (asked c.loop-step.runner) program inputs s.grids n) all inv.asks,
      inv.stands.samples_are,
      turn_done why_steps (next_step plan) whole (state c.args.folder.now) (range_with_len (k + 1) (steps - k)) s (state c.loop-step.folder) (no_number k steps (subst (λ n. n ≤ k) count c.loop-step-test.false)) inv.leads,
    )
