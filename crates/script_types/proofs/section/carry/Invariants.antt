use Rattle.std.proofs.Common.{◌≡◌, ◌+◌, ℕ, List, drop, take}
use Rattle.script_types.specs.Lowered.{total_operations}
use Rattle.script_types.specs.inside.Nodes.{held_in}
use Rattle.script_types.specs.inside.Written.{held_before}
use Rattle.script_types.proofs.section.carry.Given as goal

abbrev pub invariant-loop-line : goal.invariant-loop-line
invariant-loop-line l = record {
  below : l.below ≡ total_operations (take l.line-index l.lines);
  rest : l.below + total_operations (drop l.line-index l.lines) ≡ total_operations l.lines;
  held : (name : List ℕ) → held_in l.holders name ≡ held_before (held_in l.fn.holders) (take l.line-index l.lines) name;
}
