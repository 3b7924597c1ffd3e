use Rattle.std.proofs.Common.{◌≡◌, ◌+◌, ◌≤◌, map, drop}
use Rattle.map_meaning.specs.Trees.{meaning_of, operations_in}
use Rattle.script_types.proofs.line.+count_with.Given as goal

abbrev pub invariant-loop-operand : goal.invariant-loop-operand
invariant-loop-operand l = (l.count ≤ 8192) × (l.count + operations_in (map meaning_of (drop l.operand-index l.operand-items)) ≡ l.above + operations_in (map meaning_of l.operand-items))
