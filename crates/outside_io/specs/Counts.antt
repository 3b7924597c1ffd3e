-- How the counts of a folder or a sink move: by one, and only for the answer that they count.
use Rattle.std.specs.Prelude.{ℕ, ◌+◌, ◌-◌, ◌^◌, min, Ok, Err, Result}
use Rattle.outside_io.specs.State.{FolderState}
use Rattle.outside_io.specs.declared.folder.ReadEnd.{ReadEnd}
use Rattle.outside_io.specs.declared.folder.ReadEnd.TheVariants.{Absent, TooLong, Failed, Memory}
use Rattle.outside_io.specs.declared.folder.PutEnd.{PutEnd}
use Rattle.outside_io.specs.declared.folder.PutEnd.TheVariants as puts
use Rattle.outside_io.specs.declared.sink.SinkFailed.{SinkFailed}

-- one more, or the last value
abbrev pub raised : ℕ → ℕ
raised count = min (count + 1) (2 ^ 64 - 1)

-- the four counts that a folder keeps
pub record Counts : Type 0 where
  pub read_faults : ℕ
  pub put_faults : ℕ
  pub absents : ℕ
  pub overlongs : ℕ

-- nothing was counted
abbrev pub no_counts : Counts
no_counts = record { read_faults = 0; put_faults = 0; absents = 0; overlongs = 0 }

-- the counts of a folder at one moment
abbrev pub counts_of : FolderState → Counts
counts_of s = record {
  read_faults = s.read_faults;
  put_faults = s.put_faults;
  absents = s.absents;
  overlongs = s.overlongs;
}

-- the counts after a read that answered so
abbrev pub after_read : {X : Type 0} → Counts → Result X ReadEnd → Counts
after_read counts (Ok x) = counts
after_read counts (Err Absent) = record counts { absents = raised counts.absents }
after_read counts (Err TooLong) = record counts { overlongs = raised counts.overlongs }
after_read counts (Err Failed) = record counts { read_faults = raised counts.read_faults }
after_read counts (Err Memory) = counts

-- the counts after a put that answered so
abbrev pub after_put : {X : Type 0} → Counts → Result X PutEnd → Counts
after_put counts (Ok x) = counts
after_put counts (Err puts.Failed) = record counts { put_faults = raised counts.put_faults }
after_put counts (Err puts.Memory) = counts

-- the faults of a sink after a write that answered so
abbrev pub after_write : {X : Type 0} → ℕ → Result X SinkFailed → ℕ
after_write faults (Ok x) = faults
after_write faults (Err e) = raised faults
