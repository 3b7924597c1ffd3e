use Rattle.std.proofs.Common.{◌≡◌, ℕ, ◌<◌, [], ◌++◌, length, get_or, take}
use Rattle.std.specs.Prelude.{replicate}
use Rattle.number_lists.specs.Turned.{times}
use Rattle.number_lists.proofs.turned.note.Given as goal

abbrev pub invariant-loop-item : goal.invariant-loop-item
invariant-loop-item l = record {
  count : length l.into.items ≡ length l.initial.into.items;
  each : (k : ℕ) → k < length l.initial.into.items → get_or l.into.items k [] ≡ get_or l.initial.into.items k [] ++ replicate (times k (take l.item-index l.items)) l.number;
}
