use Rattle.std.proofs.Common.{◌*◌, [], drop, take}
use Rattle.outside_io.specs.Runs.{in_turn}
use Rattle.outside_io.specs.Causes.{why_by}
use Rattle.outside_io.specs.inside.Parts.{Leads}
use Rattle.run_session.specs.Steps.{one_more_grid}
use Rattle.run_session.specs.Ends.{why}
use Rattle.run_session.specs.inside.Standings.{AreGridsOf}
use Rattle.run_session.proofs.stacks.read_grids.Given as goal

-- the stacks that are left are what is left of the run, and the grids are those of the stacks before them
abbrev pub invariant-loop-stack : goal.invariant-loop-stack
invariant-loop-stack g l =
    let state = g.F.Folder.state in
    let part = one_more_grid l.frame l.step in
    record {
      leads : Leads (why_by why) (in_turn part [] l.stacks) (state l.fn.folder) (in_turn part l.grids (drop l.stack-index l.stacks)) (state l.folder);
      grids : AreGridsOf (l.frame.rows * l.frame.cols) l.step (take l.stack-index l.stacks) l.grids;
    }
