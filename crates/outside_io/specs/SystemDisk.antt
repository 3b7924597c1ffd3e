-- What the disk of the system tells.
use Rattle.std.specs.Prelude.{None}
use Rattle.outside_io.specs.Disk.{DiskState}
use Rattle.outside_io.specs.declared.system_disk.SystemDisk.{SystemDisk}

-- It tells its count of faults and no contents.
abbrev pub system_disk_state : {R : Type 0} → SystemDisk R → DiskState
system_disk_state disk = record { holds = None; faults = disk.faults }
