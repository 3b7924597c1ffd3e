-- The statuses with which the program may end.
use Rattle.std.specs.Prelude.{◌≡◌, ◌⊎◌, ℕ, None}
use Rattle.std.specs.declared.io.ErrorKind.{ErrorKind}
use Rattle.std.specs.declared.io.ErrorKind.TheVariants.{OutOfMemory}
use Rattle.outside_io.specs.State.{FolderState, SinkState}
use Rattle.lue_run.specs.declared.ended.Ended.{Ended}
use Rattle.lue_run.specs.declared.ended.Ended.TheVariants.{Memory, OutFault, Usage}
use Rattle.lue_run.specs.Answers.{Call, IfTooManyTold, IsComplete, IsShown, IsUsage, IsVerdict, IsVerdictKind}
use Rattle.lue_run.specs.Answers.{KeepsCounts, LineIsWritten, NoFault}
use Rattle.lue_run.specs.Course.{IsCountBy}
use Rattle.lue_run.specs.Lines.{status_of}

-- The status is that of an answer which this call may give: for it stands all that is said of a call of `lue_plain` and of `lue_main`.
-- Too many tasks are told by a number that the script has by the tiles of the command, so never by `plain` and `make`. Where
-- the words are no command the status is that of usage, or of a line that could not be written in place of usage; and it is
-- that of usage only there.
pub record AnswersWith (call : Call) (status : ℕ) : Type 0 where
  pub answer : Ended
  pub is_its : status ≡ status_of answer
  pub verdict : IsVerdictKind answer → IsVerdict call answer
  pub shown : IsShown call answer
  pub line : LineIsWritten call answer
  pub complete : NoFault call → IsComplete call answer
  pub usage : call.command ≡ None → IsUsage call answer
  pub tasks : IfTooManyTold answer (IsCountBy call.command)
  pub counts : KeepsCounts call
  pub refused : call.command ≡ None
      → (status ≡ status_of Usage) ⊎ (status ≡ status_of (OutFault (status_of Usage)))
  pub only : status ≡ status_of Usage → call.command ≡ None

-- nothing was done to the folder and to the sink
pub record Untouched (old new : FolderState) (out_old out_new : SinkState) : Type 0 where
  pub folder : new ≡ old
  pub sink : out_new ≡ out_old

-- the status where the words cannot be had: that of want of memory where memory was refused, and else 13
abbrev pub IsWithoutWords : ErrorKind → ℕ → Type 0
IsWithoutWords kind status =
    ((kind ≡ OutOfMemory) × (status ≡ status_of Memory))
    ⊎ ((kind ≡ OutOfMemory → ⊥) × (status ≡ 13))
