-- The run, with no count of tasks.
use Rattle.std.proofs.Common.{refl, subst}
use Rattle.std.specs.Prelude.{None}
use Rattle.outside_io.specs.Met.{Meets}
use Rattle.run_session.specs.Asked.{IsCountOf}
use Rattle.run_session.specs.Ends.{session_outcome, why}
use Rattle.lue_run.specs.Course.{plain_run}
use Rattle.lue_run.proofs.TaskLemmas.{too_many_less}
use Rattle.lue_run.proofs.plain.run_plain.Goals as goal

pub returns-clause-meets : goal.returns-clause-meets
returns-clause-meets g c =
    let state = g.F.Folder.state in
    subst (λ name. Meets why (plain_run name) (state c.args.folder.now) (state c.run_script.new.folder) (session_outcome c.run_script.result))
    c.bytes.ensures (c.run_script.ensures.meets (λ script rows cols. None) (λ script program lowered rows cols. refl))

-- no script has a count
pub returns-clause-few : goal.returns-clause-few
returns-clause-few g c =
    too_many_less (IsCountOf (λ script rows cols. None)) (λ count. ⊥) c.run_script.result (λ count found. cc found.3)
    (c.run_script.ensures.many (λ script rows cols. None) (λ script program lowered rows cols. refl))
