use Rattle.std.proofs.Common.{◌≡◌, take}
use Rattle.script_types.specs.inside.Kept.{is_marked, kept_where}
use Rattle.script_types.proofs.kept.with_kept.Given as goal

abbrev pub invariant-loop-at : goal.invariant-loop-at
invariant-loop-at l = l.new ≡ kept_where (is_marked l.marks) 0 (take l.at l.operations)
