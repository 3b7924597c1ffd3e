use Rattle.std.proofs.Common.{◌≡◌, ◌+◌, ◌≤◌, length, drop}
use Rattle.script_types.specs.declared.typed.Section.TheVariants.{Initial}
use Rattle.script_types.specs.Lowered.{lines_in}
use Rattle.script_types.proofs.program.initial_count.Given as goal

abbrev pub invariant-loop-line : goal.invariant-loop-line
invariant-loop-line l = record {
  few : l.count ≤ l.line-index;
  total : l.count + length (lines_in Initial (drop l.line-index l.lines)) ≡ length (lines_in Initial l.lines);
}
