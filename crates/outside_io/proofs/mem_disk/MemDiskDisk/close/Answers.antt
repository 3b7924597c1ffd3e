-- One name is set, and no other.
use Rattle.std.proofs.Common.{refl}
use Rattle.outside_io.proofs.DiskLemmas.{set_later}
use Rattle.outside_io.proofs.mem_disk.MemDiskDisk.close.Goals as goal

pub returns-clause-keeps : goal.returns-clause-keeps
returns-clause-keeps c = set_later _ _ _ _ _ _ _ c.as_slice.ensures.value refl c.in_ok-call.ensures.holds c.in_ok-hold.ensures.ok
