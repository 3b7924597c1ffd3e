use Rattle.std.proofs.Common.{[], refl, subst, arith}
use Rattle.std.proofs.lemmas.List.{take_all}
use Rattle.map_meaning.specs.Programs.{is_initial}
use Rattle.script_types.specs.inside.Kept.{Marks, some_mask}
use Rattle.script_types.proofs.KeptLemmas.{marks-none}
use Rattle.script_types.proofs.kept.mark_masks.Goals as goal

pub loop-drain-init : goal.loop-drain-init
loop-drain-init c = marks-none c.args.marks.now (λ n. some_mask (is_initial n) []) (λ n. refl)

pub returns : goal.returns
returns c = subst (λ ds. Marks c.args.marks.now c.loop-drain.marks (λ n. some_mask (is_initial n) ds)) (take_all c.loop-drain.drain-index c.args.drains.now (omega arith)) c.loop-drain.invariant
