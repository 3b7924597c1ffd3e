-- What a folder over a disk tells.
use Rattle.std.specs.Prelude.{◌≡◌, ◌⊎◌, ℕ, true, ◌==◌, List, None, IfSome}
use Rattle.std.specs.List.{list_any}
use Rattle.std.specs.Option.{option_map}
use Rattle.std.specs.Str.{IsUtf8}
use Rattle.outside_io.specs.State.{FolderState}
use Rattle.outside_io.specs.Counts.{raised}
use Rattle.outside_io.specs.Disk.{DiskState}
use Rattle.outside_io.specs.declared.file_folder.FileFolder.{FileFolder}

-- what its disk tells, where a disk tells this
abbrev pub disk_under : {D : Type 0} → (D → DiskState) → FileFolder D → DiskState
disk_under told folder = told folder.disk

-- It tells its counts, and the files of its disk where this tells them.
abbrev pub file_folder_state : {D : Type 0} → (D → DiskState) → FileFolder D → FolderState
file_folder_state told folder = record {
  holds = option_map (λ held. held.files) (told folder.disk).holds;
  puts = None;
  read_faults = folder.read_faults;
  put_faults = folder.put_faults;
  absents = folder.absents;
  overlongs = folder.overlongs;
}

-- nothing happened to it, and its disk tells no contents
abbrev pub nothing_happened : FolderState
nothing_happened = record { holds = None; puts = None; read_faults = 0; put_faults = 0; absents = 0; overlongs = 0 }

-- `/`, which parts the folders of a path
abbrev pub path_slash : ℕ
path_slash = 47

-- the bytes name no file of a folder of the system: a slash is among them, or they are no text
abbrev pub NamesNoFile : List ℕ → Type 0
NamesNoFile name = (list_any (λ b. b == path_slash) name ≡ true) ⊎ (IsUtf8 name → ⊥)

-- Nothing of this name can be read or put: it names no file, or, where the disk tells it, something else than a file stands there.
abbrev pub IsNoFile : DiskState → List ℕ → Type 0
IsNoFile disk name = NamesNoFile name ⊎ IfSome disk.holds (λ held. held.others name ≡ true)

-- why a read or a put failed: one call of the disk did, or none did and nothing of this name can be read or put
abbrev pub FailedFor : DiskState → DiskState → List ℕ → Type 0
FailedFor old new name = (new.faults ≡ raised old.faults) ⊎ ((new.faults ≡ old.faults) × IsNoFile old name)
