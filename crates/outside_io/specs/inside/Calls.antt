-- What a read and a put of a folder do to its disk.
use Rattle.std.specs.Prelude.{◌≡◌, ℕ, ◌<◌, ◌≤◌, List, length, Err, Result, None, Some, IfSome, IsSomeAnd}
use Rattle.std.specs.FinMap.{get}
use Rattle.outside_io.specs.Counts.{raised}
use Rattle.outside_io.specs.Disk.{DiskState, with_file}
use Rattle.outside_io.specs.FileFolder.{FailedFor}
use Rattle.outside_io.specs.declared.folder.ReadEnd.{ReadEnd}
use Rattle.outside_io.specs.declared.folder.ReadEnd.TheVariants.{Absent, TooLong, Failed, Memory}
use Rattle.outside_io.specs.declared.disk.Look.{Look}
use Rattle.outside_io.specs.declared.disk.Look.TheVariants as looks
use Rattle.outside_io.specs.declared.folder.PutEnd.{PutEnd}
use Rattle.outside_io.specs.declared.folder.PutEnd.TheVariants as puts

-- no call of the disk failed
abbrev pub NoneFailed : DiskState → DiskState → Type 0
NoneFailed old new = new.faults ≡ old.faults

-- the bytes of a file were read
pub record HasRead (old new : DiskState) (name : List ℕ) (limit : ℕ) (bytes : List ℕ) : Type 0 where
  pub found : IfSome old.holds (λ held. get held.files name ≡ Some bytes)
  pub short : length bytes ≤ limit
  pub none : NoneFailed old new

-- when each refusal of a read of a disk comes
abbrev pub NotRead : DiskState → DiskState → List ℕ → ℕ → ReadEnd → Type 0
NotRead old new name limit Absent = IfSome old.holds (λ held. get held.files name ≡ None) × NoneFailed old new
NotRead old new name limit TooLong =
    IfSome old.holds (λ held. IsSomeAnd (get held.files name) (λ bytes. limit < length bytes)) × NoneFailed old new
NotRead old new name limit Failed = FailedFor old new name
NotRead old new name limit Memory = NoneFailed old new

-- the bytes of a file were put
pub record HasPut (old new : DiskState) (name bytes : List ℕ) : Type 0 where
  pub there : new.holds ≡ with_file old.holds name bytes
  pub none : NoneFailed old new

-- when each refusal of a put on a disk comes
abbrev pub WhyNotPut : DiskState → DiskState → List ℕ → PutEnd → Type 0
WhyNotPut old new name puts.Failed = FailedFor old new name
WhyNotPut old new name puts.Memory = NoneFailed old new

-- when each refusal comes of writing where no other thing stands
abbrev pub WhyNotWritten : DiskState → DiskState → PutEnd → Type 0
WhyNotWritten old new puts.Failed = new.faults ≡ raised old.faults
WhyNotWritten old new puts.Memory = NoneFailed old new

-- a file stands there that is longer than the limit
abbrev pub IsLongerThan : ℕ → Look → Type 0
IsLongerThan limit (looks.File size) = limit < size
IsLongerThan limit _ = ⊥

-- the faults of a disk after reads of a file that was opened
abbrev pub after_reads : {X : Type 0} → ℕ → Result X ReadEnd → ℕ
after_reads faults (Err Failed) = raised faults
after_reads faults _ = faults
