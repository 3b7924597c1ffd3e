use Rattle.std.proofs.Common.{◌≡◌, ◌+◌, ◌≤◌, length, drop, take}
use Rattle.script_types.specs.Lowered.{total_operations}
use Rattle.script_types.specs.inside.Nodes.{held_in}
use Rattle.script_types.specs.inside.Scopes.{binding_in}
use Rattle.script_types.specs.inside.Written.{AreWritten}
use Rattle.script_types.proofs.section.write_section.Given as goal

abbrev pub invariant-loop-number : goal.invariant-loop-number
invariant-loop-number l = record {
  room : length l.ops + total_operations (drop l.number l.lines) ≡ total_operations l.lines;
  few : length l.drains ≤ length l.fn.drains + l.number;
  written : AreWritten l.section (binding_in l.scope) l.numbers (held_in l.fn.holders) (l.above + 1) (take l.number l.lines) (held_in l.holders) l.ops l.fn.drains l.drains l.fn.outputs l.outputs;
}
