-- How the course of a call ends, and the answer for it.
use Rattle.std.specs.Prelude.{ℕ}
use Rattle.outside_io.specs.Causes.{Fault, ReadFault, WriteFault, NoMemory, RunOutcome, CameTo, CutOff}
use Rattle.outside_io.specs.Causes.{Why, ByContents}
use Rattle.run_session.specs.Ends.{ScriptEnd, RanToEnd, Missing, TooLong, Script, Input, TooManyTasks, Overflow, why}
use Rattle.lue_run.specs.declared.ended.Ended.{Ended}
use Rattle.lue_run.specs.declared.ended.Ended.TheVariants as top

-- how the course of a call ends: what its command and the files decide
pub data CourseEnd : Type 0 where
  Usage : CourseEnd
  OfScript : (end : ScriptEnd) → CourseEnd
  OfModel : (files : ℕ) → CourseEnd

-- why a call ends so
abbrev pub why_of : CourseEnd → Why
why_of Usage = ByContents
why_of (OfScript end) = why end
why_of (OfModel files) = ByContents

-- the answer for the end of a script
abbrev pub script_answer : ScriptEnd → Ended
script_answer (RanToEnd files steps) = top.Done files steps
script_answer (Missing name) = top.Missing name
script_answer (TooLong name) = top.TooLong name
script_answer (Script fault) = top.Script fault
script_answer (Input name kind) = top.Input name kind
script_answer (TooManyTasks count) = top.TooManyTasks count
script_answer (Overflow at) = top.Overflow at

-- the answer for the end of a call's course
abbrev pub end_answer : CourseEnd → Ended
end_answer Usage = top.Usage
end_answer (OfScript end) = script_answer end
end_answer (OfModel files) = top.Made files

-- the answer for what cut a call off
abbrev pub fault_answer : Fault → Ended
fault_answer (ReadFault name) = top.FolderReadFault name
fault_answer (WriteFault name) = top.FolderWriteFault name
fault_answer NoMemory = top.Memory

-- the answer for how a call came out, before its line is written
abbrev pub answer_for : RunOutcome CourseEnd → Ended
answer_for (CameTo end) = end_answer end
answer_for (CutOff fault) = fault_answer fault
