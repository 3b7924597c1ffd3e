-- The clauses, from what is answered.
use Rattle.lue_run.proofs.AnswerLemmas.{as_asked, complete_told, counts_told, refused_told, shown_told, tasks_told, verdict_told, written_told}
use Rattle.lue_run.specs.Answers.{call_of}
use Rattle.lue_run.proofs.top.lue_main.Goals as goal

pub returns-clause-verdict : goal.returns-clause-verdict
returns-clause-verdict g c = verdict_told (call_of _ _ _ _ _) _ (as_asked _ _ _ _ _ _ _ _ c.main_asked.ensures c.come_to_by_tiles-end.ensures c.told.ensures.tells c.told.ensures.later)

pub returns-clause-shown : goal.returns-clause-shown
returns-clause-shown g c = shown_told (call_of _ _ _ _ _) _ (as_asked _ _ _ _ _ _ _ _ c.main_asked.ensures c.come_to_by_tiles-end.ensures c.told.ensures.tells c.told.ensures.later)

pub returns-clause-line : goal.returns-clause-line
returns-clause-line g c = written_told (call_of _ _ _ _ _) _ (as_asked _ _ _ _ _ _ _ _ c.main_asked.ensures c.come_to_by_tiles-end.ensures c.told.ensures.tells c.told.ensures.later)

pub returns-clause-complete : goal.returns-clause-complete
returns-clause-complete g c = complete_told (call_of _ _ _ _ _) _ (as_asked _ _ _ _ _ _ _ _ c.main_asked.ensures c.come_to_by_tiles-end.ensures c.told.ensures.tells c.told.ensures.later)

pub returns-clause-refused : goal.returns-clause-refused
returns-clause-refused g c = refused_told (call_of _ _ _ _ _) _ (as_asked _ _ _ _ _ _ _ _ c.main_asked.ensures c.come_to_by_tiles-end.ensures c.told.ensures.tells c.told.ensures.later)

pub returns-clause-counts : goal.returns-clause-counts
returns-clause-counts g c = counts_told (call_of _ _ _ _ _) _ (as_asked _ _ _ _ _ _ _ _ c.main_asked.ensures c.come_to_by_tiles-end.ensures c.told.ensures.tells c.told.ensures.later)

pub returns-clause-many : goal.returns-clause-many
returns-clause-many g c = tasks_told (call_of _ _ _ _ _) _ (as_asked _ _ _ _ _ _ _ _ c.main_asked.ensures c.come_to_by_tiles-end.ensures c.told.ensures.tells c.told.ensures.later)
