-- What a folder in memory that fails on demand tells.
use Rattle.std.specs.Prelude.{List}
use Rattle.outside_io.specs.State.{PutPair, FolderState}
use Rattle.outside_io.specs.Counts.{raised}
use Rattle.outside_io.specs.CalmFolder.{pairs, calm_folder_state}
use Rattle.outside_io.specs.declared.failing_calls.FailingCalls.{FailingCalls}
use Rattle.outside_io.specs.declared.mem_folder.MemFolder.{MemFolder}

-- It tells all that a folder that never fails tells, and its own faults.
abbrev pub mem_folder_state : MemFolder → FolderState
mem_folder_state folder = record (calm_folder_state folder.calm) { read_faults = folder.read_faults; put_faults = folder.put_faults }

-- the puts that succeeded
abbrev pub mem_puts : MemFolder → List PutPair
mem_puts folder = pairs folder.calm.puts.items

-- its reads and puts, and which of them are to fail
abbrev pub folder_calls : MemFolder → FailingCalls
folder_calls folder = folder.failing

-- A read that is to fail does nothing but raise the count of such faults.
abbrev pub after_failed_read : FolderState → FolderState
after_failed_read s = record s { read_faults = raised s.read_faults }

-- A put that is to fail does nothing but raise the count of such faults.
abbrev pub after_failed_put : FolderState → FolderState
after_failed_put s = record s { put_faults = raised s.put_faults }
