-- What a call of the program answers, and why.
use Rattle.std.specs.Prelude.{◌≡◌, ◌≤◌, ◌⊎◌, List, ℕ, Option, None, Some, IfSome, ⊤}
use Rattle.outside_io.specs.State.{Files, FolderState, SinkState, NoCountFell, Rose, Wrote, WroteFront}
use Rattle.outside_io.specs.Counts.{raised}
use Rattle.outside_io.specs.Causes.{ReadFault, WriteFault, NoMemory, RunOutcome, CutOff, HasCounted}
use Rattle.outside_io.specs.Events.{files_after}
use Rattle.outside_io.specs.Met.{PutsGrew, HasFaults, Meets}
use Rattle.lue_run.specs.declared.ended.Ended.{Ended}
use Rattle.lue_run.specs.declared.ended.Ended.TheVariants.{Usage, Missing, TooLong, TooManyTasks}
use Rattle.lue_run.specs.declared.ended.Ended.TheVariants.{FolderReadFault, FolderWriteFault, OutFault, Memory}
use Rattle.lue_run.specs.Words.{Command}
use Rattle.lue_run.specs.Ends.{CourseEnd, why_of, answer_for}
use Rattle.lue_run.specs.Lines.{line_of, status_of}
use Rattle.lue_run.specs.Course.{course, outputs, verdict}

-- one call: the command that its words give, where they give one, and the folder and the sink before and after it
pub record Call : Type 0 where
  pub command : Option Command
  pub before : FolderState
  pub after : FolderState
  pub sink_before : SinkState
  pub sink_after : SinkState

-- the call of this command that took the folder and the sink from their old states to their new ones
abbrev pub call_of : Option Command → FolderState → FolderState → SinkState → SinkState → Call
call_of command before after sink_before sink_after = record {
  command = command;
  before = before;
  after = after;
  sink_before = sink_before;
  sink_after = sink_after;
}

-- the run of the call came out so
abbrev pub CameOut : Call → RunOutcome CourseEnd → Type 0
CameOut call outcome = Meets why_of (course call.command) call.before call.after outcome

-- ---- the verdict

-- an answer that the command and the files alone decide
abbrev pub IsVerdictKind : Ended → Type 0
IsVerdictKind (FolderReadFault name) = ⊥
IsVerdictKind (FolderWriteFault name) = ⊥
IsVerdictKind (OutFault instead) = ⊥
IsVerdictKind Memory = ⊥
IsVerdictKind other = ⊤

-- over these files the answer is the verdict, the puts that succeeded grew by the outputs, and the folder holds what it held
-- with these puts applied, in order
pub record IsVerdictOver (call : Call) (said : Ended) (files : Files) : Type 0 where
  pub answer : said ≡ verdict call.command files
  pub puts : PutsGrew call.before call.after (outputs call.command files)
  pub holds : call.after.holds ≡ Some (files_after (outputs call.command files) files)

-- No read and no put failed on the way; and where the folder tells its files, the answer is the verdict over them, with all
-- outputs put.
pub record IsVerdict (call : Call) (answer : Ended) : Type 0 where
  pub faults : HasFaults call.after call.before.read_faults call.before.put_faults
  pub over : IfSome call.before.holds (IsVerdictOver call answer)

-- ---- why each answer comes

-- an answer that has a line
abbrev pub HasLine : Ended → Type 0
HasLine (OutFault instead) = ⊥
HasLine Memory = ⊥
HasLine other = ⊤

-- The call came out with an answer that has a line, whose status is told instead; the sink counted one fault, and got a
-- front of the line. It was usage for no command alone.
pub record CouldNotWrite (call : Call) (instead : ℕ) : Type 0 where
  pub outcome : RunOutcome CourseEnd
  pub came : CameOut call outcome
  pub has_line : HasLine (answer_for outcome)
  pub usage : answer_for outcome ≡ Usage → call.command ≡ None
  pub status : instead ≡ status_of (answer_for outcome)
  pub failed : call.sink_after.faults ≡ raised call.sink_before.faults
  pub front : WroteFront call.sink_before call.sink_after (line_of (answer_for outcome))

-- What shows each answer: words that are no command, the one file that was counted as absent or too long, the read or put
-- of the course at which the folder failed, or the line that could not be written. For the others no file was counted so,
-- and the verdict shows them.
abbrev pub IsShown : Call → Ended → Type 0
IsShown call Usage = call.command ≡ None
IsShown call (Missing name) = HasCounted call.after (raised call.before.absents) call.before.overlongs
IsShown call (TooLong name) = HasCounted call.after call.before.absents (raised call.before.overlongs)
IsShown call (FolderReadFault name) = CameOut call (CutOff (ReadFault name))
IsShown call (FolderWriteFault name) = CameOut call (CutOff (WriteFault name))
IsShown call (OutFault instead) = CouldNotWrite call instead
IsShown call Memory = CameOut call (CutOff NoMemory)
IsShown call other = HasCounted call.after call.before.absents call.before.overlongs

-- It is so of the number of too many tasks where these are told; and of some number where only their status is, since their line
-- could not be written.
abbrev pub IfTooManyTold : Ended → (ℕ → Type 0) → Type 0
IfTooManyTold (TooManyTasks count) P = P count
IfTooManyTold (OutFault instead) P = instead ≡ status_of (TooManyTasks 0) → (count : ℕ) × P count
IfTooManyTold other P = ⊤

-- words that are no command touch nothing, and that is said
pub record IsUsage (call : Call) (answer : Ended) : Type 0 where
  pub untouched : call.after ≡ call.before
  pub said : (answer ≡ Usage) ⊎ (answer ≡ OutFault (status_of Usage))

-- ---- the line

-- the sink got these bytes and nothing else, where it tells its bytes, and counted no fault
pub record WroteWhole (old new : SinkState) (bytes : List ℕ) : Type 0 where
  pub written : Wrote old new bytes
  pub faults : new.faults ≡ old.faults

-- The sink got the line of the answer and nothing else; none for want of memory. After a failed write the cause says what.
abbrev pub LineIsWritten : Call → Ended → Type 0
LineIsWritten call (OutFault instead) = ⊤
LineIsWritten call answer = WroteWhole call.sink_before call.sink_after (line_of answer)

-- ---- where nothing failed

-- no fault of the folder or of the sink came
pub record NoFault (call : Call) : Type 0 where
  pub reads : ¬ (Rose call.before.read_faults call.after.read_faults)
  pub puts : ¬ (Rose call.before.put_faults call.after.put_faults)
  pub writes : ¬ (Rose call.sink_before.faults call.sink_after.faults)

-- the verdict with its outputs put and its line written, or want of memory
abbrev pub IsComplete : Call → Ended → Type 0
IsComplete call answer = (answer ≡ Memory) ⊎ (IsVerdict call answer × WroteWhole call.sink_before call.sink_after (line_of answer))

-- no count of the folder or of the sink fell
pub record KeepsCounts (call : Call) : Type 0 where
  pub folder : NoCountFell call.before call.after
  pub sink : call.sink_before.faults ≤ call.sink_after.faults
