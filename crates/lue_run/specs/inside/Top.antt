-- What the parts of a top call answer.
use Rattle.std.specs.Prelude.{◌≡◌, ◌⊎◌, ◌≤◌, ℕ, Option, None}
use Rattle.outside_io.specs.State.{FolderState, SinkState, WroteFront}
use Rattle.outside_io.specs.Counts.{raised}
use Rattle.outside_io.specs.Causes.{RunOutcome}
use Rattle.outside_io.specs.Met.{Meets}
use Rattle.lue_run.specs.declared.ended.Ended.{Ended}
use Rattle.lue_run.specs.declared.ended.Ended.TheVariants.{Usage, OutFault}
use Rattle.lue_run.specs.Ends.{CourseEnd, why_of, answer_for}
use Rattle.lue_run.specs.Lines.{line_of, status_of}
use Rattle.lue_run.specs.Course.{IsCountBy, course}
use Rattle.lue_run.specs.Words.{Command}
use Rattle.lue_run.specs.Answers.{HasLine, IfTooManyTold, WroteWhole}

-- what the command came to before its line
pub record ComesTo (command : Option Command) (old new : FolderState) (end : Ended) : Type 0 where
  pub outcome : RunOutcome CourseEnd
  pub is : end ≡ answer_for outcome
  pub came : Meets why_of (course command) old new outcome
  pub untouched : command ≡ None → new ≡ old
  pub refused : command ≡ None → end ≡ Usage
  pub usage : end ≡ Usage → command ≡ None
  pub tasks : IfTooManyTold end (IsCountBy command)

-- the end of some call, before its line
abbrev pub IsEnd : Ended → Type 0
IsEnd end = (outcome : RunOutcome CourseEnd) × (end ≡ answer_for outcome)

-- the line of an end could not be written whole
pub record Unwritten (end : Ended) (old new : SinkState) (instead : ℕ) : Type 0 where
  pub has_line : HasLine end
  pub status : instead ≡ status_of end
  pub failed : new.faults ≡ raised old.faults
  pub front : WroteFront old new (line_of end)

-- what is told of an end: its line and nothing else; or a front of its line, and its status
abbrev pub Tells : Ended → SinkState → SinkState → Ended → Type 0
Tells end old new answer =
    ((answer ≡ end) × WroteWhole old new (line_of end))
    ⊎ ((instead : ℕ) × (answer ≡ OutFault instead) × Unwritten end old new instead)

-- what is answered: the command came to an end, and that is told
pub record AnswersSo (command : Option Command) (old new : FolderState) (out_old out_new : SinkState) (answer : Ended) : Type 0 where
  pub end : Ended
  pub comes : ComesTo command old new end
  pub tells : Tells end out_old out_new answer
  pub later : out_old.faults ≤ out_new.faults
