-- The clauses, from what is answered.
use Rattle.lue_run.proofs.AnswerLemmas.{as_asked, complete_told, counts_told, refused_told, shown_told, tasks_told, verdict_told, written_told}
use Rattle.lue_run.proofs.TaskLemmas.{plain_uncounted, told_less}
use Rattle.lue_run.specs.Answers.{call_of}
use Rattle.lue_run.specs.Course.{IsCountBy}
use Rattle.lue_run.specs.Words.{plain_command}
use Rattle.lue_run.proofs.top.lue_plain.Goals as goal

pub returns-clause-verdict : goal.returns-clause-verdict
returns-clause-verdict g c = verdict_told (call_of _ _ _ _ _) _ (as_asked _ _ _ _ _ _ _ _ c.plain_asked.ensures c.come_to-end.ensures c.told.ensures.tells c.told.ensures.later)

pub returns-clause-shown : goal.returns-clause-shown
returns-clause-shown g c = shown_told (call_of _ _ _ _ _) _ (as_asked _ _ _ _ _ _ _ _ c.plain_asked.ensures c.come_to-end.ensures c.told.ensures.tells c.told.ensures.later)

pub returns-clause-line : goal.returns-clause-line
returns-clause-line g c = written_told (call_of _ _ _ _ _) _ (as_asked _ _ _ _ _ _ _ _ c.plain_asked.ensures c.come_to-end.ensures c.told.ensures.tells c.told.ensures.later)

pub returns-clause-complete : goal.returns-clause-complete
returns-clause-complete g c = complete_told (call_of _ _ _ _ _) _ (as_asked _ _ _ _ _ _ _ _ c.plain_asked.ensures c.come_to-end.ensures c.told.ensures.tells c.told.ensures.later)

pub returns-clause-refused : goal.returns-clause-refused
returns-clause-refused g c = refused_told (call_of _ _ _ _ _) _ (as_asked _ _ _ _ _ _ _ _ c.plain_asked.ensures c.come_to-end.ensures c.told.ensures.tells c.told.ensures.later)

pub returns-clause-counts : goal.returns-clause-counts
returns-clause-counts g c = counts_told (call_of _ _ _ _ _) _ (as_asked _ _ _ _ _ _ _ _ c.plain_asked.ensures c.come_to-end.ensures c.told.ensures.tells c.told.ensures.later)

pub returns-clause-few : goal.returns-clause-few
returns-clause-few g c =
    told_less (IsCountBy (plain_command c.args.words.now)) (λ count. ⊥) c.told.result (plain_uncounted c.args.words.now)
    (tasks_told (call_of _ _ _ _ _) _ (as_asked _ _ _ _ _ _ _ _ c.plain_asked.ensures c.come_to-end.ensures c.told.ensures.tells c.told.ensures.later))
