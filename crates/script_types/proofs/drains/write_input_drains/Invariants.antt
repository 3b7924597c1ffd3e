use Rattle.std.proofs.Common.{◌≡◌, ◌++◌, ◌≤◌, length, drop}
use Rattle.script_types.specs.inside.Drains.{drain_numbers, input_uses}
use Rattle.script_types.proofs.drains.write_input_drains.Given as goal

abbrev pub invariant-loop-at : goal.invariant-loop-at
invariant-loop-at l = record {
  drains : l.drains ++ input_uses l.at (drop l.at l.inputs) ≡ input_uses 0 l.inputs;
  numbers : l.numbers.items ++ drain_numbers (length l.drains) (drop l.at l.inputs) ≡ drain_numbers 0 l.inputs;
  few : length l.drains ≤ l.at;
}
