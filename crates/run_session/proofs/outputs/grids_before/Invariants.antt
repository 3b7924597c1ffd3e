use Rattle.std.proofs.Common.{◌≡◌, ◌+◌, ◌-◌, ◌≤◌, drop}
use Rattle.run_session.specs.inside.Outputs.{grids_before}
use Rattle.run_session.proofs.outputs.grids_before.Given as goal

-- the grids so far, and those among the inputs that are left
abbrev pub invariant-loop-k : goal.invariant-loop-k
invariant-loop-k l = record {
  count : l.count + grids_before (drop l.k l.uses) (l.n - l.k) ≡ grids_before l.uses l.n;
  few : l.count ≤ l.k;
}
