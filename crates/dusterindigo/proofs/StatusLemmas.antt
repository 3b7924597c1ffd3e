-- The statuses of a call, from what is said of its answer.
use Rattle.std.proofs.Common.{◌⊎◌, inl, inr, ◌≡◌, ap, sym, subst, ◌∙◌, arith, List, true, false}
use Rattle.std.specs.Prelude.{ℕ, None, Option, if◌then◌else◌}
use Rattle.outside_io.specs.State.{FolderState, SinkState}
use Rattle.lue_run.specs.declared.ended.Ended.{Ended}
use Rattle.lue_run.specs.declared.ended.Ended.TheVariants as top
use Rattle.lue_run.specs.Answers.{Call, call_of, IfTooManyTold, IsComplete, IsShown, IsUsage, IsVerdict, IsVerdictKind, KeepsCounts, LineIsWritten, NoFault}
use Rattle.lue_run.specs.Course.{IsCountBy}
use Rattle.lue_run.specs.Lines.{status_of}
use Rattle.lue_run.specs.Words.{Command, main_command, plain_command}
use Rattle.dusterindigo.specs.Commands.{begins_plain, program_command}
use Rattle.dusterindigo.specs.Statuses.{AnswersWith}

-- words that begin with a command of `lue_plain` give what they give there
pub of_plain : (words : List (List ℕ)) → begins_plain words ≡ true → program_command words ≡ plain_command words
of_plain words begins = ap (λ is. if is then plain_command words else main_command words) begins

-- other words give what they give `lue_main`
pub of_main : (words : List (List ℕ)) → begins_plain words ≡ false → program_command words ≡ main_command words
of_main words begins = ap (λ is. if is then plain_command words else main_command words) begins

-- no answer but usage has the status of usage
usage_alone : (call : Call) (answer : Ended) → IsShown call answer → status_of answer ≡ status_of top.Usage → call.command ≡ None
usage_alone call top.Usage shown same = shown
usage_alone call (top.Done files steps) shown same = absurd (omega (arith, same))
usage_alone call (top.Made files) shown same = absurd (omega (arith, same))
usage_alone call (top.Missing name) shown same = absurd (omega (arith, same))
usage_alone call (top.TooLong name) shown same = absurd (omega (arith, same))
usage_alone call (top.Script fault) shown same = absurd (omega (arith, same))
usage_alone call (top.Input name kind) shown same = absurd (omega (arith, same))
usage_alone call (top.TooManyTasks count) shown same = absurd (omega (arith, same))
usage_alone call (top.Overflow at) shown same = absurd (omega (arith, same))
usage_alone call (top.FolderReadFault name) shown same = absurd (omega (arith, same))
usage_alone call (top.FolderWriteFault name) shown same = absurd (omega (arith, same))
usage_alone call (top.OutFault instead) shown same = absurd (omega (arith, same))
usage_alone call top.Memory shown same = absurd (omega (arith, same))

-- where the words are no command the status is one of two
refused_status : (call : Call) (answer : Ended) (status : ℕ) → status ≡ status_of answer → IsUsage call answer →
    (status ≡ status_of top.Usage) ⊎ (status ≡ status_of (top.OutFault (status_of top.Usage)))
refused_status call answer status is usage = by usage.said
  where
    by : (answer ≡ top.Usage) ⊎ (answer ≡ top.OutFault (status_of top.Usage)) → (status ≡ status_of top.Usage) ⊎ (status ≡ status_of (top.OutFault (status_of top.Usage)))
    by (inl e) = inl (is ∙ ap status_of e)
    by (inr e) = inr (is ∙ ap status_of e)

-- the status of an answer of which all this is said
pub ends_with : (call : Call) (answer : Ended) (status : ℕ) → status ≡ status_of answer → (IsVerdictKind answer → IsVerdict call answer) →
    IsShown call answer → LineIsWritten call answer → (NoFault call → IsComplete call answer) →
    (call.command ≡ None → IsUsage call answer) → IfTooManyTold answer (IsCountBy call.command) → KeepsCounts call → AnswersWith call status
ends_with call answer status is verdict shown line complete usage tasks counts = record {
  answer = answer;
  is_its = is;
  verdict = verdict;
  shown = shown;
  line = line;
  complete = complete;
  usage = usage;
  tasks = tasks;
  counts = counts;
  refused = λ none. refused_status call answer status is (usage none);
  only = λ same. usage_alone call answer shown (sym is ∙ same);
}

-- what is said of the call of a command is said of it by another word for the command
pub as_given : (given command : Option Command) (before after : FolderState) (sink_before sink_after : SinkState) (status : ℕ) → given ≡ command →
    AnswersWith (call_of command before after sink_before sink_after) status → AnswersWith (call_of given before after sink_before sink_after) status
as_given given command before after sink_before sink_after status same a =
    subst (λ it. AnswersWith (call_of it before after sink_before sink_after) status) (sym same) a
