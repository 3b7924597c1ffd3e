-- How a call that makes a run comes out, and which counts of the folder show it.
use Rattle.std.specs.Prelude.{◌≡◌, Ok, Err, Result, List, ℕ, ⊤}
use Rattle.outside_io.specs.State.{FolderState, Rose}
use Rattle.outside_io.specs.Counts.{raised}

-- what cuts a call off before the end of its run: a read or a put of that name that failed, or want of memory
pub data Fault : Type 0 where
  ReadFault : (name : List ℕ) → Fault
  WriteFault : (name : List ℕ) → Fault
  NoMemory : Fault

-- how a call comes out: it came to the end of its run, or it was cut off
pub data RunOutcome (X : Type 0) : Type 0 where
  CameTo : (end : X) → RunOutcome X
  CutOff : (fault : Fault) → RunOutcome X

-- what an outcome is, where its end is told by another type
abbrev pub outcome_as : {X Y : Type 0} → (X → Y) → RunOutcome X → RunOutcome Y
outcome_as f (CameTo end) = CameTo (f end)
outcome_as f (CutOff fault) = CutOff fault

-- the outcome of a part that did not give its value
abbrev pub stopped_by : {X E : Type 0} → RunOutcome E → RunOutcome (Result X E)
stopped_by (CameTo end) = CameTo (Err end)
stopped_by (CutOff fault) = CutOff fault

-- how a call comes out, by its result, where it is told how each of its errors comes
abbrev pub outcome_by : {X D E : Type 0} → (D → RunOutcome E) → Result X D → RunOutcome (Result X E)
outcome_by outcome (Ok x) = CameTo (Ok x)
outcome_by outcome (Err d) = stopped_by (outcome d)

-- why the files bring a run to its end; a count of the folder shows the two latter
pub data Why : Type 0 where
  ByContents : Why
  ByAbsence : Why
  ByLength : Why

-- why a part comes out so, where it is told why each error ends the run
abbrev pub why_by : {X E : Type 0} → (E → Why) → Result X E → Why
why_by why (Ok x) = ByContents
why_by why (Err e) = why e

-- the folder has counted so many files that were absent, and so many that were too long
pub record HasCounted (s : FolderState) (of_absent of_long : ℕ) : Type 0 where
  pub absents : s.absents ≡ of_absent
  pub overlongs : s.overlongs ≡ of_long

-- The file that ended a run since it was absent or too long was counted, and no other.
abbrev pub CountsRefused : FolderState → FolderState → Why → Type 0
CountsRefused old new ByContents = HasCounted new old.absents old.overlongs
CountsRefused old new ByAbsence = HasCounted new (raised old.absents) old.overlongs
CountsRefused old new ByLength = HasCounted new old.absents (raised old.overlongs)

-- the count that shows the fault rose; none shows want of memory
abbrev pub RoseFor : FolderState → FolderState → Fault → Type 0
RoseFor old new (ReadFault name) = Rose old.read_faults new.read_faults
RoseFor old new (WriteFault name) = Rose old.put_faults new.put_faults
RoseFor old new NoMemory = ⊤

-- the counts show how the call came out, where one shows it
abbrev pub HasCause : {X : Type 0} → (X → Why) → FolderState → FolderState → RunOutcome X → Type 0
HasCause why old new (CameTo end) = CountsRefused old new (why end)
HasCause why old new (CutOff fault) = RoseFor old new fault
