use Rattle.std.proofs.Common.{◌≡◌, ◌≤◌, ◌++◌, drop, length}
use Rattle.run_session.specs.Steps.{stacks_among}
use Rattle.run_session.proofs.stacks.stacks_among.Given as goal

-- the stacks so far, and those among the inputs that are left
abbrev pub invariant-loop-n : goal.invariant-loop-n
invariant-loop-n l = record {
  stacks : l.stacks ++ stacks_among l.n (drop l.n l.inputs) ≡ stacks_among 0 l.inputs;
  below : l.n ≤ length l.inputs;
}
