-- Why a read or a put did not succeed.
use Rattle.std.specs.Prelude.{◌≡◌, ℕ, ◌<◌, List, length, None, IfSome, IsSomeAnd, ⊤}
use Rattle.std.specs.FinMap.{get}
use Rattle.outside_io.specs.State.{FolderState, Rose, IsNotPut}
use Rattle.outside_io.specs.declared.folder.ReadEnd.{ReadEnd}
use Rattle.outside_io.specs.declared.folder.ReadEnd.TheVariants.{Absent, TooLong, Failed, Memory}
use Rattle.outside_io.specs.declared.folder.PutEnd.{PutEnd}
use Rattle.outside_io.specs.declared.folder.PutEnd.TheVariants as puts

-- when each refusal of a read comes
abbrev pub ReadRefused : FolderState → FolderState → List ℕ → ℕ → ReadEnd → Type 0
ReadRefused old new name limit Absent =
    Rose old.absents new.absents × IfSome old.holds (λ files. get files name ≡ None)
ReadRefused old new name limit TooLong =
    Rose old.overlongs new.overlongs × IfSome old.holds (λ files. IsSomeAnd (get files name) (λ bytes. limit < length bytes))
ReadRefused old new name limit Failed = Rose old.read_faults new.read_faults
ReadRefused old new name limit Memory = ⊤

-- when each refusal of a put comes, and what it leaves
abbrev pub PutRefused : FolderState → FolderState → List ℕ → PutEnd → Type 0
PutRefused old new name puts.Failed = Rose old.put_faults new.put_faults × IsNotPut old new name
PutRefused old new name puts.Memory = IsNotPut old new name
