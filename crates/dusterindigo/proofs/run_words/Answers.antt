-- The status is that of the answer, of which all is said that the call says to which these words go.
use Rattle.std.proofs.Common.{sym, ◌∙◌}
use Rattle.lue_run.proofs.TaskLemmas.{told_less}
use Rattle.lue_run.specs.Answers.{call_of}
use Rattle.lue_run.specs.Course.{IsCountBy}
use Rattle.lue_run.specs.Words.{plain_command}
use Rattle.dusterindigo.proofs.StatusLemmas.{as_given, ends_with, of_main, of_plain}
use Rattle.dusterindigo.proofs.run_words.Goals as goal

pub returns-then-begins_plain : goal.returns-then-begins_plain
returns-then-begins_plain g c =
    let words = c.args.words.now in
    let said = c.lue_plain.ensures in
    let tasks = told_less (λ count. ⊥) (IsCountBy (plain_command words)) c.lue_plain.result (λ count none. absurd none) said.few in
    as_given _ _ _ _ _ _ _ (of_plain words (sym c.begins_plain.ensures ∙ c.if-begins_plain.true))
    (ends_with (call_of _ _ _ _ _) _ _ c.status.ensures said.verdict said.shown said.line said.complete said.refused tasks said.counts)

pub returns-else-begins_plain : goal.returns-else-begins_plain
returns-else-begins_plain g c =
    let said = c.lue_main.ensures in
    as_given _ _ _ _ _ _ _ (of_main c.args.words.now (sym c.begins_plain.ensures ∙ c.if-begins_plain.false))
    (ends_with (call_of _ _ _ _ _) _ _ c.status-else-begins_plain.ensures said.verdict said.shown said.line said.complete said.refused said.many said.counts)
