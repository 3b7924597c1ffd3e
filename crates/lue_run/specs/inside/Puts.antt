-- What the parts of `make` do.
use Rattle.std.specs.Prelude.{◌≡◌, ℕ, Some}
use Rattle.outside_io.specs.State.{FolderState}
use Rattle.outside_io.specs.Causes.{RunOutcome, CutOff, NoMemory, WriteFault}
use Rattle.outside_io.specs.Met.{Meets}
use Rattle.lue_run.specs.declared.ended.Ended.{Ended}
use Rattle.lue_run.specs.declared.ended.Ended.TheVariants as top
use Rattle.lue_run.specs.declared.make.NotPut.{NotPut}
use Rattle.lue_run.specs.declared.make.NotPut.TheVariants.{Failed, Memory}
use Rattle.lue_run.specs.Answers.{IfTooManyTold}
use Rattle.lue_run.specs.Course.{IsCountBy, make_run}
use Rattle.lue_run.specs.Ends.{CourseEnd, answer_for, why_of}
use Rattle.lue_run.specs.Words.{Make}

-- how the puts came out that stopped so
abbrev pub not_put_outcome : NotPut → RunOutcome ⊥
not_put_outcome (Failed name) = CutOff (WriteFault name)
not_put_outcome Memory = CutOff NoMemory

-- the model of a number was made, and its files were put: the answer is that for how this came out, no usage, and tells no tasks
pub record WasMade (number : ℕ) (old new : FolderState) (answer : Ended) : Type 0 where
  pub outcome : RunOutcome CourseEnd
  pub is : answer ≡ answer_for outcome
  pub came : Meets why_of (make_run number) old new outcome
  pub made : answer ≡ top.Usage → ⊥
  pub tasks : IfTooManyTold answer (IsCountBy (Some (Make number)))
