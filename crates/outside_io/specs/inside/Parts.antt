-- Words of the contracts of calls that make a part of a run.
use Rattle.std.specs.Prelude.{◌≡◌, Ok, Err, Result, ⊤}
use Rattle.outside_io.specs.State.{FolderState}
use Rattle.outside_io.specs.Events.{Run}
use Rattle.outside_io.specs.Causes.{ReadFault, WriteFault, NoMemory, RunOutcome, CameTo, CutOff, Why, ByContents}
use Rattle.outside_io.specs.Met.{Meets}

-- a result, with its value as definitions see it
abbrev pub seen_by : {T X E : Type 0} → (T → X) → Result T E → Result X E
seen_by view (Ok x) = Ok (view x)
seen_by view (Err e) = Err e

-- how a call that touches no folder comes out: at this end, which no count shows, or for want of memory
abbrev pub Settles : {X : Type 0} → (X → Why) → X → RunOutcome X → Type 0
Settles why end (CameTo x) = (end ≡ x) × (why x ≡ ByContents)
Settles why end (CutOff (ReadFault name)) = ⊥
Settles why end (CutOff (WriteFault name)) = ⊥
Settles why end (CutOff NoMemory) = ⊤

-- The whole was done up to where the rest begins: whatever meets the rest meets the whole.
pub record Leads {X : Type 0} (why : X → Why) (whole : Run X) (old : FolderState) (rest : Run X) (mid : FolderState) : Type 0 where
  pub on : (new : FolderState) (outcome : RunOutcome X) → Meets why rest mid new outcome → Meets why whole old new outcome
