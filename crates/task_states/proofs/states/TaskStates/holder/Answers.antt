use Rattle.std.proofs.Common.{◌≡◌, ℕ, List, length, get_or, ap, sym, ◌∙◌, arith, Option, Some, None}
use mathlib.Core.Logic.{dite}
use native.Mathlib.Decide.{dec_le}
use Rattle.task_states.specs.States.{held_by}
use Rattle.task_states.proofs.ListLemmas.{get_past}
use Rattle.task_states.proofs.states.TaskStates.holder.Goals as goal

pub returns-in-Some : goal.returns-in-Some
returns-in-Some c = λ g n s r. r.shown.holding c.loop-worker.worker c.in-Some.task (ap (λ (l : List (Option ℕ)). get_or l c.loop-worker.worker None) (sym c.deref-held-items.ensures.value) ∙ c.in-Some.is)

pub returns : goal.returns
returns c = λ g n s r t w lt is.
    let hs : List (Option ℕ) = c.args.self.now.holding.items in
    let there : held_by hs w ≡ Some t = r.shown.held w t lt is in
    dite (dec_le (length hs) w)
    (λ le. let z : None ≡ Some t = sym (get_past hs w None le) ∙ there in cc)
    (λ gt. let z : None ≡ Some t = sym (c.loop-worker.invariant w (let q = c.loop-worker-test.false in let e = c.deref-held-items.ensures.value in let l = ap length e in omega arith)) ∙ there in cc)
