use Rattle.std.proofs.Common.{◌≡◌, ◌<◌, ℕ, drop, length, get_or}
use Rattle.plain_eval.specs.inside.Readers.{last_reader}
use Rattle.plain_eval.proofs.readers.last_readers.Given as goal

-- the operations that are left give each map its last reader, from the one noted so far
abbrev pub invariant-loop-n : goal.invariant-loop-n
invariant-loop-n l = record {
  count : length l.last.items ≡ length l.operations;
  each : (k : ℕ) → k < length l.operations → last_reader l.span k (get_or l.last.items k 0) l.n (drop l.n l.operations) ≡ last_reader l.span k k 0 l.operations;
}
