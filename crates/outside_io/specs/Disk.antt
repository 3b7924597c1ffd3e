-- What a disk tells, and what one call does to it.
use Rattle.std.specs.Prelude.{◌≡◌, ◌≢◌, ℕ, ◌++◌, Bool, true, false, List, [], length, Ok, Err, Result, None, Some}
use Rattle.std.specs.Prelude.{IfSome, IsSomeAnd, ⊤}
use Rattle.std.specs.Option.{option_map}
use Rattle.std.specs.declared.option.Option.{Option}
use Rattle.std.specs.FinMap.{get, insert}
use Rattle.outside_io.specs.State.{Files}
use Rattle.outside_io.specs.Counts.{raised}
use Rattle.outside_io.specs.declared.disk.DiskEnd.{DiskEnd}
use Rattle.outside_io.specs.declared.disk.DiskEnd.TheVariants as ends
use Rattle.outside_io.specs.declared.folder.ReadEnd.{ReadEnd}
use Rattle.outside_io.specs.declared.folder.ReadEnd.TheVariants as reads
use Rattle.outside_io.specs.declared.folder.PutEnd.{PutEnd}
use Rattle.outside_io.specs.declared.folder.PutEnd.TheVariants as puts
use Rattle.outside_io.specs.declared.disk.Look.{Look}
use Rattle.outside_io.specs.declared.disk.Look.TheVariants as looks

-- What a disk holds: the bytes of its ordinary files, and the names under which something else stands, as a folder or a pipe.
pub record DiskHolds : Type 0 where
  pub files : Files
  pub others : List ℕ → Bool

-- What a disk tells at one moment: what it holds, where it is told, and how many of its calls failed.
pub record DiskState : Type 0 where
  pub holds : Option DiskHolds
  pub faults : ℕ

-- the count of a disk's faults after a call that answered so
abbrev pub after_call : {X : Type 0} → ℕ → Result X DiskEnd → ℕ
after_call faults (Ok x) = faults
after_call faults (Err ends.Failed) = raised faults
after_call faults (Err ends.Memory) = faults

-- what stands under a name, as a look tells it
abbrev pub IsSeen : DiskHolds → List ℕ → Look → Type 0
IsSeen held name looks.Nothing = (get held.files name ≡ None) × (held.others name ≡ false)
IsSeen held name (looks.File size) = IsSomeAnd (get held.files name) (λ bytes. length bytes ≡ size) × (held.others name ≡ false)
IsSeen held name looks.Other = held.others name ≡ true

-- where it is told, nothing stands under the name but an ordinary file, if anything
abbrev pub HoldsNoOther : Option DiskHolds → List ℕ → Type 0
HoldsNoOther holds name = IfSome holds (λ held. held.others name ≡ false)

-- the disk with these bytes under the name
abbrev pub with_file : Option DiskHolds → List ℕ → List ℕ → Option DiskHolds
with_file holds name bytes = option_map {T = DiskHolds} (λ held. record held { files = insert held.files name bytes }) holds

-- the same disk, but for what that one name holds
abbrev pub SameBut : List ℕ → Option DiskHolds → Option DiskHolds → Type 0
SameBut name None None = ⊤
SameBut name None (Some new) = ⊥
SameBut name (Some old) None = ⊥
SameBut name (Some old) (Some new) =
    ((other : List ℕ) → other ≢ name → get new.files other ≡ get old.files other) × (new.others ≡ old.others)

-- A file that is written: its name, and the bytes that it was given.
pub record PartOfFile : Type 0 where
  pub name : List ℕ
  pub bytes : List ℕ

-- a file was begun under the name, where the disk tells what it holds
abbrev pub IsFileBegun : Option DiskHolds → List ℕ → Option PartOfFile → Type 0
IsFileBegun holds name part = IfSome holds (λ held. part ≡ Some (record { name = name; bytes = [] }))

-- what a call does to the disk that goes on with a file that is written: no other name changes
abbrev pub KeepsOthers : Option PartOfFile → Option DiskHolds → Option DiskHolds → Type 0
KeepsOthers None old new = new ≡ old
KeepsOthers (Some part) old new = SameBut part.name old new

-- the file was given these bytes behind those that it had
abbrev pub HasMoreBytes : Option PartOfFile → Option PartOfFile → List ℕ → Type 0
HasMoreBytes old new bytes = new ≡ option_map {T = PartOfFile} (λ part. record part { bytes = part.bytes ++ bytes }) old

-- the bytes that a file was given lie on the disk
abbrev pub LiesThere : Option PartOfFile → Option DiskHolds → Option DiskHolds → Type 0
LiesThere None old new = new ≡ old
LiesThere (Some part) old new = new ≡ with_file old part.name part.bytes

-- how a read of a folder ends where a call of its disk ended so
abbrev pub read_end_of : DiskEnd → ReadEnd
read_end_of ends.Failed = reads.Failed
read_end_of ends.Memory = reads.Memory

-- how a put of a folder ends where a call of its disk ended so
abbrev pub put_end_of : DiskEnd → PutEnd
put_end_of ends.Failed = puts.Failed
put_end_of ends.Memory = puts.Memory
