use Rattle.std.proofs.Common.{take}
use Rattle.script_types.specs.inside.Kept.{Marks, begins_stage}
use Rattle.script_types.proofs.kept.mark_begins.Given as goal

abbrev pub invariant-loop-drain : goal.invariant-loop-drain
invariant-loop-drain l = Marks l.fn.begins l.begins (λ n. begins_stage n (take l.drain-index l.drains))
