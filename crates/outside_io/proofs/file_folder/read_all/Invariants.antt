use Rattle.std.proofs.Common.{◌≡◌, ◌-◌, ◌≤◌, length, vec_len}
use Rattle.std.specs.Io.KnownBytes.{Consumes}
use Rattle.outside_io.specs.declared.file_folder.TheConstants.{CHUNK}
use Rattle.outside_io.proofs.file_folder.read_all.Given as goal

-- the bytes so far are those that were taken, and they are no more than may be; no call failed, and nothing changed
abbrev pub invariant-loop-bytes : goal.invariant-loop-bytes
invariant-loop-bytes g l = record {
  taken : Consumes (g.D.Disk.left l.fn.file) (g.D.Disk.left l.file) l.bytes.items;
  few : vec_len l.bytes ≤ l.most;
  whole : length l.room.items ≡ CHUNK;
  keeps : (g.D.Disk.state l.disk).holds ≡ (g.D.Disk.state l.fn.disk).holds;
  faults : (g.D.Disk.state l.disk).faults ≡ (g.D.Disk.state l.fn.disk).faults;
}

-- each turn takes at least one byte
abbrev pub decreases-loop-bytes : goal.decreases-loop-bytes
decreases-loop-bytes g l = l.most - vec_len l.bytes
