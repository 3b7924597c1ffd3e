-- How the run of a script ends, and why.
use Rattle.std.specs.Prelude.{List, ℕ, Ok, Err, Result}
use Rattle.outside_io.specs.Causes.{ReadFault, WriteFault, NoMemory, RunOutcome, CameTo, CutOff}
use Rattle.outside_io.specs.Causes.{Why, ByContents, ByAbsence, ByLength}
use Rattle.map_meaning.specs.declared.known.OverAt.{OverAt}
use Rattle.run_session.specs.declared.ends.InputKind.{InputKind}
use Rattle.run_session.specs.declared.ends.ScriptFault.{ScriptFault}
use Rattle.run_session.specs.declared.ends.SessionEnd.{SessionEnd}
use Rattle.run_session.specs.declared.ends.SessionEnd.TheVariants as session
use Rattle.run_session.specs.declared.ends.Tally.{Tally}

-- how the course of a script ends: what its text and its files decide
pub data ScriptEnd : Type 0 where
  RanToEnd : (files steps : ℕ) → ScriptEnd
  Missing : (name : List ℕ) → ScriptEnd
  TooLong : (name : List ℕ) → ScriptEnd
  Script : (fault : ScriptFault) → ScriptEnd
  Input : (name : List ℕ) (kind : InputKind) → ScriptEnd
  TooManyTasks : (count : ℕ) → ScriptEnd
  Overflow : (at : OverAt) → ScriptEnd

-- why a script ends so
abbrev pub why : ScriptEnd → Why
why (RanToEnd files steps) = ByContents
why (Missing name) = ByAbsence
why (TooLong name) = ByLength
why (Script fault) = ByContents
why (Input name kind) = ByContents
why (TooManyTasks count) = ByContents
why (Overflow at) = ByContents

-- the end of a script, by what came out of its parts
abbrev pub script_end : Result Tally ScriptEnd → ScriptEnd
script_end (Ok tally) = RanToEnd tally.files tally.steps
script_end (Err end) = end

-- how the run of a script came out that is answered so
abbrev pub session_outcome : SessionEnd → RunOutcome ScriptEnd
session_outcome (session.Done files steps) = CameTo (RanToEnd files steps)
session_outcome (session.Missing name) = CameTo (Missing name)
session_outcome (session.TooLong name) = CameTo (TooLong name)
session_outcome (session.Script fault) = CameTo (Script fault)
session_outcome (session.Input name kind) = CameTo (Input name kind)
session_outcome (session.TooManyTasks count) = CameTo (TooManyTasks count)
session_outcome (session.Overflow at) = CameTo (Overflow at)
session_outcome (session.FolderReadFault name) = CutOff (ReadFault name)
session_outcome (session.FolderWriteFault name) = CutOff (WriteFault name)
session_outcome session.Memory = CutOff NoMemory
