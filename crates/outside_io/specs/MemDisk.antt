-- What a disk in memory tells.
use Rattle.std.specs.Prelude.{◌↔◌, ℕ, Bool, false, IsTrue, List, bytes_eq, drop, Result, IsErrOf, Some}
use Rattle.std.specs.Option.{option_map_or, option_map}
use Rattle.std.specs.FinMap.{empty}
use Rattle.std.specs.declared.option.Option.{Option}
use Rattle.std.specs.Prelude.{Vec}
use Rattle.outside_io.specs.CalmFolder.{held_files}
use Rattle.outside_io.specs.Disk.{DiskHolds, DiskState, PartOfFile}
use Rattle.outside_io.specs.FailingCalls.{is_next_failing, CallMade}
use Rattle.outside_io.specs.declared.disk.DiskEnd.{DiskEnd}
use Rattle.outside_io.specs.declared.disk.DiskEnd.TheVariants.{Failed}
use Rattle.outside_io.specs.declared.failing_calls.FailingCalls.{FailingCalls}
use Rattle.outside_io.specs.declared.mem_disk.MemDisk.{MemDisk}
use Rattle.outside_io.specs.declared.mem_reader.MemReader.{MemReader}
use Rattle.outside_io.specs.declared.mem_disk.MemWriter.{MemWriter}

-- the name is there and is this one
abbrev pub is_that : {A : Type 0} → Option (Vec ℕ A) → List ℕ → Bool
is_that name other = option_map_or (λ v. bytes_eq v.items other) name false

-- It tells its files, the name under which something else stands, and its count of faults.
abbrev pub mem_disk_state : MemDisk → DiskState
mem_disk_state disk = record {
  holds = Some (record { files = held_files disk.files.files.items; others = λ name. is_that disk.other name });
  faults = disk.faults;
}

-- a disk that holds nothing, to which nothing happened
abbrev pub empty_disk : DiskState
empty_disk = record { holds = Some (record { files = empty; others = λ name. false }); faults = 0 }

-- the same disk, but that under this name, and under no other, something else stands than a file
abbrev pub with_other : DiskState → List ℕ → DiskState
with_other s name = record s { holds = option_map {T = DiskHolds} (λ held. record held { others = λ other. bytes_eq name other }) s.holds }

-- the bytes that a file has left
abbrev pub has_left : MemReader → Option (List ℕ)
has_left file = Some (drop file.at file.bytes.items)

-- the name of a file that is written, and the bytes that it was given
abbrev pub written_part : MemWriter → Option PartOfFile
written_part file = Some (record { name = file.name.items; bytes = file.bytes.items })

-- the calls of a disk, and which of them are to fail
abbrev pub disk_calls : MemDisk → FailingCalls
disk_calls disk = disk.failing

-- a call fails just where it is to fail, and is counted
pub record CallFails {X : Type 0} (old new : FailingCalls) (result : Result X DiskEnd) : Type 0 where
  pub fails : IsErrOf result Failed ↔ IsTrue (is_next_failing old)
  pub made : CallMade old new
