-- What a call answers, from what it came to and what it told of this.
use Rattle.std.proofs.Common.{◌⊎◌, ℕ, ◌≤◌, inl, inr, ◌≡◌, refl, sym, ap, subst, ◌∙◌, arith}
use Rattle.std.specs.Prelude.{Option, None}
use Rattle.outside_io.specs.State.{FolderState, Rose, SinkState, WroteFront}
use Rattle.outside_io.specs.Counts.{raised}
use Rattle.outside_io.specs.Causes.{RunOutcome, CameTo, CutOff, ReadFault, WriteFault, NoMemory}
use Rattle.outside_io.specs.Met.{Follows}
use Rattle.outside_io.proofs.Callers.{if_told}
use Rattle.run_session.specs.Ends.{RanToEnd, Missing, TooLong, Script, Input, TooManyTasks, Overflow}
use Rattle.lue_run.specs.declared.ended.Ended.{Ended}
use Rattle.lue_run.specs.declared.ended.Ended.TheVariants as top
use Rattle.lue_run.specs.Ends.{CourseEnd, Usage, OfScript, OfModel, end_answer, answer_for}
use Rattle.lue_run.specs.Lines.{line_of, status_of}
use Rattle.lue_run.specs.Words.{Command}
use Rattle.lue_run.specs.Course.{IsCountBy, course}
use Rattle.lue_run.specs.Answers.{Call, CameOut, HasLine, IfTooManyTold, IsComplete, IsUsage, IsShown, IsVerdict, IsVerdictKind, IsVerdictOver, LineIsWritten, KeepsCounts, NoFault, WroteWhole}
use Rattle.lue_run.specs.inside.Top.{AnswersSo, ComesTo, Tells}

-- a count that was raised rose
rose_by : (before now : ℕ) → now ≡ raised before → Rose before now
rose_by before now e = omega (arith, e)

-- ---- by how the run of the call came out

module _ (call : Call) where
  -- the end of the course is the verdict
  verdict_at : (end : CourseEnd) → CameOut call (CameTo end) → IsVerdict call (end_answer end)
  verdict_at end m = record {
    faults = m.faults;
    over = if_told call.before.holds (λ files. Follows (course call.command files) files call.before call.after (CameTo end)) (IsVerdictOver call (end_answer end))
        (λ files f. record { answer = ap end_answer f.0; puts = f.1.puts; holds = f.1.holds }) m.follows;
  }

  verdict_of : (outcome : RunOutcome CourseEnd) → CameOut call outcome → IsVerdictKind (answer_for outcome) → IsVerdict call (answer_for outcome)
  verdict_of (CameTo end) m kind = verdict_at end m
  verdict_of (CutOff (ReadFault name)) m kind = absurd kind
  verdict_of (CutOff (WriteFault name)) m kind = absurd kind
  verdict_of (CutOff NoMemory) m kind = absurd kind

  shown_of : (outcome : RunOutcome CourseEnd) → (answer_for outcome ≡ top.Usage → call.command ≡ None) → CameOut call outcome → IsShown call (answer_for outcome)
  shown_of (CameTo Usage) usage m = usage refl
  shown_of (CameTo (OfScript (RanToEnd files steps))) usage m = m.cause
  shown_of (CameTo (OfScript (Missing name))) usage m = m.cause
  shown_of (CameTo (OfScript (TooLong name))) usage m = m.cause
  shown_of (CameTo (OfScript (Script fault))) usage m = m.cause
  shown_of (CameTo (OfScript (Input name kind))) usage m = m.cause
  shown_of (CameTo (OfScript (TooManyTasks count))) usage m = m.cause
  shown_of (CameTo (OfScript (Overflow at))) usage m = m.cause
  shown_of (CameTo (OfModel files)) usage m = m.cause
  shown_of (CutOff (ReadFault name)) usage m = m
  shown_of (CutOff (WriteFault name)) usage m = m
  shown_of (CutOff NoMemory) usage m = m

  complete_of : NoFault call → (outcome : RunOutcome CourseEnd) → CameOut call outcome → WroteWhole call.sink_before call.sink_after (line_of (answer_for outcome)) → IsComplete call (answer_for outcome)
  complete_of none (CameTo end) m w = inr (verdict_at end m, w)
  complete_of none (CutOff (ReadFault name)) m w = absurd (none.reads m.cause)
  complete_of none (CutOff (WriteFault name)) m w = absurd (none.puts m.cause)
  complete_of none (CutOff NoMemory) m w = inl refl

  written_of : (end : Ended) → WroteWhole call.sink_before call.sink_after (line_of end) → LineIsWritten call end
  written_of (top.OutFault instead) w = tt
  written_of end w = w

-- where only the status of an answer is told, its number of tasks is one of which it is so
of_status : (P : ℕ → Type 0) (end : Ended) → IfTooManyTold end P → HasLine end → status_of end ≡ status_of (top.TooManyTasks 0) → (count : ℕ) × P count
of_status P (top.TooManyTasks count) so has same = (count, so)
of_status P (top.Done files steps) so has same = absurd (omega (arith, same))
of_status P (top.Made files) so has same = absurd (omega (arith, same))
of_status P top.Usage so has same = absurd (omega (arith, same))
of_status P (top.Missing name) so has same = absurd (omega (arith, same))
of_status P (top.TooLong name) so has same = absurd (omega (arith, same))
of_status P (top.Script fault) so has same = absurd (omega (arith, same))
of_status P (top.Input name kind) so has same = absurd (omega (arith, same))
of_status P (top.Overflow at) so has same = absurd (omega (arith, same))
of_status P (top.FolderReadFault name) so has same = absurd (omega (arith, same))
of_status P (top.FolderWriteFault name) so has same = absurd (omega (arith, same))
of_status P (top.OutFault instead) so has same = absurd has
of_status P top.Memory so has same = absurd has

-- what is so of the number of each answer before its line is so of that of the answer
told_so : (P : ℕ → Type 0) (end answer : Ended) (old new : SinkState) → IfTooManyTold end P → Tells end old new answer → IfTooManyTold answer P
told_so P end answer old new so (inl t) = subst (λ (x : Ended). IfTooManyTold x P) (sym t.0) so
told_so P end answer old new so (inr t) =
    subst (λ (x : Ended). IfTooManyTold x P) (sym t.1) (λ same. of_status P end so t.2.has_line (sym t.2.status ∙ same))

-- ---- by what was told of it

module _ (call : Call) (answer : Ended) (a : AnswersSo call.command call.before call.after call.sink_before call.sink_after answer) where
  said : (answer ≡ a.end) → answer ≡ answer_for a.comes.outcome
  said is = is ∙ a.comes.is

  pub verdict_told : IsVerdictKind answer → IsVerdict call answer
  verdict_told = by a.tells
    where
      by : Tells a.end call.sink_before call.sink_after answer → IsVerdictKind answer → IsVerdict call answer
      by (inl t) kind = subst (IsVerdict call) (sym (said t.0)) (verdict_of call a.comes.outcome a.comes.came (subst IsVerdictKind (said t.0) kind))
      by (inr t) kind = absurd (subst IsVerdictKind t.1 kind)

  pub shown_told : IsShown call answer
  shown_told = by a.tells
    where
      by : Tells a.end call.sink_before call.sink_after answer → IsShown call answer
      by (inl t) = subst (IsShown call) (sym (said t.0)) (shown_of call a.comes.outcome (λ is. a.comes.usage (a.comes.is ∙ is)) a.comes.came)
      by (inr t) = subst (IsShown call) (sym t.1) (record {
        outcome = a.comes.outcome;
        came = a.comes.came;
        has_line = subst HasLine a.comes.is t.2.has_line;
        usage = λ is. a.comes.usage (a.comes.is ∙ is);
        status = subst (λ end. t.0 ≡ status_of end) a.comes.is t.2.status;
        failed = t.2.failed;
        front = subst (λ end. WroteFront call.sink_before call.sink_after (line_of end)) a.comes.is t.2.front;
      })

  pub written_told : LineIsWritten call answer
  written_told = by a.tells
    where
      by : Tells a.end call.sink_before call.sink_after answer → LineIsWritten call answer
      by (inl t) = subst (LineIsWritten call) (sym t.0) (written_of call a.end t.1)
      by (inr t) = subst (LineIsWritten call) (sym t.1) tt

  pub complete_told : NoFault call → IsComplete call answer
  complete_told none = by a.tells
    where
      by : Tells a.end call.sink_before call.sink_after answer → IsComplete call answer
      by (inl t) = subst (IsComplete call) (sym (said t.0))
          (complete_of call none a.comes.outcome a.comes.came (subst (λ end. WroteWhole call.sink_before call.sink_after (line_of end)) a.comes.is t.1))
      by (inr t) = absurd (none.writes (rose_by call.sink_before.faults call.sink_after.faults t.2.failed))

  pub refused_told : call.command ≡ None → IsUsage call answer
  refused_told none = record { untouched = a.comes.untouched none; said = by a.tells }
    where
      usage : a.end ≡ top.Usage
      usage = a.comes.refused none

      by : Tells a.end call.sink_before call.sink_after answer → (answer ≡ top.Usage) ⊎ (answer ≡ top.OutFault (status_of top.Usage))
      by (inl t) = inl (t.0 ∙ usage)
      by (inr t) = inr (t.1 ∙ ap top.OutFault (subst (λ end. t.0 ≡ status_of end) usage t.2.status))

  pub counts_told : KeepsCounts call
  counts_told = record { folder = a.comes.came.later; sink = a.later }

  pub tasks_told : IfTooManyTold answer (IsCountBy call.command)
  tasks_told = told_so (IsCountBy call.command) a.end answer call.sink_before call.sink_after a.comes.tasks a.tells

-- what is answered to a command that is asked for, and then told, is answered to the one that the words give
pub as_asked : (asked command : Option Command) (old new : FolderState) (out_old out_new : SinkState) (end answer : Ended) → asked ≡ command →
    ComesTo asked old new end → Tells end out_old out_new answer → out_old.faults ≤ out_new.faults → AnswersSo command old new out_old out_new answer
as_asked asked command old new out_old out_new end answer same comes tells later =
    subst (λ given. AnswersSo given old new out_old out_new answer) same (record { end = end; comes = comes; tells = tells; later = later })
