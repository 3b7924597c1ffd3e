use Rattle.std.proofs.Common.{◌==◌, [], refl, subst, arith}
use Rattle.std.proofs.lemmas.List.{take_all}
use Rattle.map_meaning.specs.declared.program.DrainUse.{DrainUse}
use Rattle.script_types.specs.inside.Kept.{Marks, begins_stage}
use Rattle.script_types.proofs.KeptLemmas.{marks-item, marks-none}
use Rattle.script_types.proofs.kept.mark_begins.Goals as goal

pub loop-drain-init : goal.loop-drain-init
loop-drain-init c = marks-none c.args.begins.now (λ n. begins_stage n []) (λ n. refl)

pub loop-drain-preserved : goal.loop-drain-preserved
loop-drain-preserved c = marks-item c.args.begins.now c.loop-drain.begins c.mark.new.marks (λ n (d : DrainUse). d.after == n) c.args.drains.now c.loop-drain.drain-index _ (omega arith) c.loop-drain.invariant c.mark.ensures

pub returns : goal.returns
returns c = subst (λ ds. Marks c.args.begins.now c.loop-drain.begins (λ n. begins_stage n ds)) (take_all c.loop-drain.drain-index c.args.drains.now (omega arith)) c.loop-drain.invariant
