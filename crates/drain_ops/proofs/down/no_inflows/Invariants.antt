use Rattle.std.proofs.Common.{◌≡◌, ℕ, length, get_or}
use Rattle.drain_ops.proofs.down.no_inflows.Given as goal

-- nothing has come to any cell so far
abbrev pub invariant-loop : goal.invariant-loop
invariant-loop g l = record {
  count : length l.inflows.items ≡ l.counter;
  nothing : (d : ℕ) → get_or l.inflows.items d (g.R.FlowRule.rule l.rule).none ≡ (g.R.FlowRule.rule l.rule).none;
}
