use Rattle.std.proofs.Common.{◌≡◌, ℕ, ◌+◌, ◌<◌, ◌≤◌, get_or, vec_capacity}
use Rattle.core_model.specs.Graphs.{Each}
use Rattle.task_states.specs.declared.states.TaskState.TheVariants.{Ready}
use Rattle.number_lists.specs.Turned.{times}
use Rattle.task_states.specs.States.{due}
use Rattle.task_states.proofs.fresh.claimable_first.Given as goal

abbrev pub invariant-loop-back : goal.invariant-loop-back
invariant-loop-back l = record {
  within : Each (λ t. (l.count ≤ t + l.back) × (t < l.count)) l.claimable.items;
  due : (t : ℕ) → t < l.count → l.count ≤ t + l.back → times t l.claimable.items ≡ due Ready (get_or l.unmet t 0);
  room : l.count ≤ vec_capacity l.claimable;
}
