use Rattle.std.proofs.Common.{◌≡◌, ℕ, ◌<◌, [], length, get_or, take}
use Rattle.number_lists.specs.Turned.{holders_from}
use Rattle.number_lists.proofs.turned.holders.Given as goal

abbrev pub invariant-loop-i : goal.invariant-loop-i
invariant-loop-i l = record {
  count : length l.got.items ≡ l.count;
  each : (k : ℕ) → k < l.count → get_or l.got.items k [] ≡ holders_from k 0 (take l.i l.lists);
}
