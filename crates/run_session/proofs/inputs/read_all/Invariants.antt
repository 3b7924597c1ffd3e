use Rattle.std.proofs.Common.{◌≡◌, ◌≤◌, drop, length, take}
use Rattle.outside_io.specs.Runs.{in_turn}
use Rattle.outside_io.specs.Causes.{why_by}
use Rattle.outside_io.specs.inside.Parts.{Leads}
use Rattle.run_session.specs.Course.{nothing_given, one_more_input}
use Rattle.run_session.specs.Ends.{why}
use Rattle.run_session.specs.inside.Parts.{AreSourcesOf, area_grid, given_of}
use Rattle.run_session.proofs.inputs.read_all.Given as goal

-- the inputs that are left are what is left of the run, and those before them gave what is gathered
abbrev pub invariant-loop-n : goal.invariant-loop-n
invariant-loop-n g l =
    let state = g.F.Folder.state in
    let part = one_more_input l.number (area_grid l.fn.frame l.area.cells) in
    record {
      leads : Leads (why_by why) (in_turn part nothing_given l.uses) (state l.fn.folder) (in_turn part (given_of l.n l.sources.inputs) (drop l.n l.uses)) (state l.folder);
      frame : l.sources.inputs.frame ≡ l.fn.frame;
      below : l.n ≤ length l.uses;
      sources : AreSourcesOf (take l.n l.uses) l.sources;
    }
