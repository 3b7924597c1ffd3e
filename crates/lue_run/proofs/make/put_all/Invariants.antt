use Rattle.std.proofs.Common.{drop}
use Rattle.outside_io.specs.Runs.{in_turn}
use Rattle.outside_io.specs.Causes.{why_by}
use Rattle.outside_io.specs.Puts.{no_error}
use Rattle.outside_io.specs.inside.Parts.{Leads}
use Rattle.model_maker.specs.Files.{made_files}
use Rattle.lue_run.specs.Course.{made_put}
use Rattle.lue_run.proofs.make.put_all.Given as goal

-- the files that are left are what is left of the run
abbrev pub invariant-loop-place : goal.invariant-loop-place
invariant-loop-place g l =
    let state = g.F.Folder.state in
    let files = made_files l.model in
    Leads (why_by no_error) (in_turn made_put tt files) (state l.fn.folder) (in_turn made_put tt (drop l.place files)) (state l.folder)
