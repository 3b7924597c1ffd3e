use Rattle.std.proofs.Common.{◌≡◌, drop}
use Rattle.outside_io.specs.Runs.{in_turn}
use Rattle.outside_io.specs.Causes.{why_by}
use Rattle.outside_io.specs.Counts.{counts_of}
use Rattle.outside_io.specs.Puts.{file_run, files_run, no_error}
use Rattle.outside_io.specs.inside.Parts.{Leads}
use Rattle.outside_io.proofs.puts.put_in_turn.Given as goal

-- the files that are left are what is left of the run, and nothing was counted
abbrev pub invariant-loop-file : goal.invariant-loop-file
invariant-loop-file g l =
    let state = g.F.Folder.state in
    record {
      leads : Leads (why_by no_error) (files_run l.files) (state l.fn.folder) (in_turn file_run tt (drop l.file-index l.files)) (state l.folder);
      counts : counts_of (state l.folder) ≡ counts_of (state l.fn.folder);
    }
