-- Files that are put one after the other.
use Rattle.std.specs.Prelude.{List, Ok, Err, Result}
use Rattle.outside_io.specs.Events.{Run}
use Rattle.outside_io.specs.Runs.{putting, in_turn}
use Rattle.outside_io.specs.Counts.{Counts, raised}
use Rattle.outside_io.specs.Causes.{WriteFault, NoMemory, RunOutcome, CutOff, Why}
use Rattle.outside_io.specs.declared.puts.NewFile.{NewFile}
use Rattle.outside_io.specs.declared.puts.NotAllPut.{NotAllPut}
use Rattle.outside_io.specs.declared.puts.NotAllPut.TheVariants.{Failed, Memory}

-- nothing but a fault of the folder or want of memory ends a list of puts
abbrev pub no_error : ⊥ → Why
no_error e = absurd e

-- one of the files is put
abbrev pub file_run : Unit {0} → NewFile → Run (Result (Unit {0}) ⊥)
file_run done file = putting file.name.items file.bytes.items

-- the files are put, in order
abbrev pub files_run : List NewFile → Run (Result (Unit {0}) ⊥)
files_run files = in_turn file_run tt files

-- how the puts came out that stopped so
abbrev pub outcome_of_put : NotAllPut → RunOutcome ⊥
outcome_of_put (Failed file) = CutOff (WriteFault file.now.name.items)
outcome_of_put Memory = CutOff NoMemory

-- the counts of a folder after puts that came out so: one that failed raised that of such faults, and nothing else did
abbrev pub after_puts : Counts → Result (Unit {0}) NotAllPut → Counts
after_puts counts (Ok done) = counts
after_puts counts (Err (Failed file)) = record counts { put_faults = raised counts.put_faults }
after_puts counts (Err Memory) = counts
