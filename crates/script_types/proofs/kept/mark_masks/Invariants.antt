use Rattle.std.proofs.Common.{take}
use Rattle.map_meaning.specs.Programs.{is_initial}
use Rattle.script_types.specs.inside.Kept.{Marks, some_mask}
use Rattle.script_types.proofs.kept.mark_masks.Given as goal

abbrev pub invariant-loop-drain : goal.invariant-loop-drain
invariant-loop-drain l = Marks l.fn.marks l.marks (λ n. some_mask (is_initial n) (take l.drain-index l.drains))
