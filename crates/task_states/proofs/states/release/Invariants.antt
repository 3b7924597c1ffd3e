use Rattle.std.proofs.Common.{◌≡◌, ℕ, ◌+◌, ◌<◌, get_or, take, vec_capacity, length}
use Rattle.core_model.specs.Graphs.{Each}
use Rattle.number_lists.specs.Turned.{times}
use Rattle.task_states.specs.States.{state_at, due}
use Rattle.task_states.proofs.states.release.Given as goal

abbrev pub invariant-loop-r : goal.invariant-loop-r
invariant-loop-r l = record {
  unmet : (t : ℕ) → get_or l.unmet t 0 + times t (take l.r-index l.readers) ≡ get_or l.initial.unmet t 0;
  due : (t : ℕ) → t < length l.unmet → times t l.claimable.items ≡ due (state_at l.states t) (get_or l.unmet t 0);
  within : Each (λ t. t < length l.unmet) l.claimable.items;
  capacity : vec_capacity l.claimable ≡ vec_capacity l.initial.claimable;
}
