-- What a call did that makes a run.
use Rattle.std.specs.Prelude.{◌≡◌, ℕ, List, [], ◌∷◌, ◌++◌, Some, IfSome}
use Rattle.std.specs.Option.{option_map}
use Rattle.outside_io.specs.State.{Files, PutPair, FolderState, NoCountFell, SameOthers}
use Rattle.outside_io.specs.Events.{Event, Read, Put, Course, Run, puts_of, files_after}
use Rattle.outside_io.specs.Counts.{raised}
use Rattle.outside_io.specs.Causes.{Fault, ReadFault, WriteFault, NoMemory, RunOutcome, CameTo, CutOff, Why, HasCause}

-- the puts that succeeded grew by these, where they are told
abbrev pub PutsGrew : FolderState → FolderState → List PutPair → Type 0
PutsGrew old new puts = new.puts ≡ option_map (λ before. before ++ puts) old.puts

-- all the events are done
pub record DidAll (files : Files) (old new : FolderState) (events : List Event) : Type 0 where
  pub puts : PutsGrew old new (puts_of events)
  pub holds : new.holds ≡ Some (files_after (puts_of events) files)

-- the folder holds these files, but that one whose put comes next may hold anything
abbrev pub HoldsBut : List Event → Files → FolderState → Type 0
HoldsBut [] files new = new.holds ≡ Some files
HoldsBut (Read name limit ∷ events) files new = new.holds ≡ Some files
HoldsBut (Put name bytes ∷ events) files new = SameOthers name (Some files) new.holds

-- the events were done up to those that are left
pub record DidUpTo (files : Files) (old new : FolderState) (all done left : List Event) : Type 0 where
  pub events : all ≡ done ++ left
  pub puts : PutsGrew old new (puts_of done)
  pub holds : HoldsBut left (files_after (puts_of done) files) new

-- The fault came at one of the events, and those before it were done: at a read of that name, at a put of that name, or
-- anywhere for want of memory.
abbrev pub IsCutAt : List Event → Files → FolderState → FolderState → Fault → Type 0
IsCutAt all files old new (ReadFault name) =
    (done left : List Event) × (limit : ℕ) × DidUpTo files old new all done (Read name limit ∷ left)
IsCutAt all files old new (WriteFault name) =
    (done left : List Event) × (bytes : List ℕ) × DidUpTo files old new all done (Put name bytes ∷ left)
IsCutAt all files old new NoMemory = (done left : List Event) × DidUpTo files old new all done left

-- where the outcome stands in the course: at its end, with all events done, or at one of the events
abbrev pub Follows : {X : Type 0} → Course X → Files → FolderState → FolderState → RunOutcome X → Type 0
Follows course files old new (CameTo end) = (end ≡ course.end) × DidAll files old new course.events
Follows course files old new (CutOff fault) = IsCutAt course.events files old new fault

-- the folder has counted so many faults of reads and of puts
pub record HasFaults (s : FolderState) (of_reads of_puts : ℕ) : Type 0 where
  pub reads : s.read_faults ≡ of_reads
  pub puts : s.put_faults ≡ of_puts

-- one fault is counted, of the sort of the one that cut the call off; none for want of memory
abbrev pub OneFault : FolderState → FolderState → Fault → Type 0
OneFault old new (ReadFault name) = HasFaults new (raised old.read_faults) old.put_faults
OneFault old new (WriteFault name) = HasFaults new old.read_faults (raised old.put_faults)
OneFault old new NoMemory = HasFaults new old.read_faults old.put_faults

-- A call that came to its end met no fault, not even one that a second try made good; one that was cut off by a fault met one.
abbrev pub CountsFaults : {X : Type 0} → FolderState → FolderState → RunOutcome X → Type 0
CountsFaults old new (CameTo end) = HasFaults new old.read_faults old.put_faults
CountsFaults old new (CutOff fault) = OneFault old new fault

-- What a call did that makes this run and comes out so. No count fell. The outcome has its cause, and as many faults were
-- met as it tells. And where the folder tells its files, the outcome is the end of the course with all its puts, or a fault or
-- want of memory on the way.
pub record Meets {X : Type 0} (why : X → Why) (run : Run X) (old new : FolderState) (outcome : RunOutcome X) : Type 0 where
  pub later : NoCountFell old new
  pub cause : HasCause why old new outcome
  pub faults : CountsFaults old new outcome
  pub follows : IfSome old.holds (λ files. Follows (run files) files old new outcome)
