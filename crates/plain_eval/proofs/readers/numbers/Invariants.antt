use Rattle.std.proofs.Common.{◌≡◌, ◌<◌, ℕ, length, get_or}
use Rattle.plain_eval.proofs.readers.numbers.Given as goal

-- the numbers so far stand at their places
abbrev pub invariant-loop-n : goal.invariant-loop-n
invariant-loop-n l = record {
  count : length l.numbers.items ≡ l.n;
  each : (k : ℕ) → k < l.n → get_or l.numbers.items k 0 ≡ k;
}
