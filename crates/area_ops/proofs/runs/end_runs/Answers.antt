use Rattle.std.proofs.Common.{◌<◌, ◌≤◌, arith}
use Rattle.text_base.specs.Limits.{most_cells}
use Rattle.area_ops.specs.inside.Runs.{slots}
use Rattle.area_ops.proofs.RunLemmas.{ended_all, ended_few, ended_more}
use Rattle.area_ops.proofs.runs.end_runs.Goals as goal

pub end_run-requires-clause-few : goal.end_run-requires-clause-few
end_run-requires-clause-few c =
    let below : c.loop-run.run-index < slots = let size = c.requires.runs.size in let less = c.loop-run-test.true in omega (arith, size, less) in
    ended_few c.args.areas.now c.loop-run.areas c.args.runs.now c.loop-run.run-index most_cells c.requires.runs below c.loop-run.invariant.ended c.requires.few

pub loop-run-preserved : goal.loop-run-preserved
loop-run-preserved c =
    let below : c.loop-run.run-index < slots = let size = c.requires.runs.size in let less = c.loop-run-test.true in omega (arith, size, less) in
    record {
      ended = ended_more c.args.areas.now c.loop-run.areas c.end_run.new.areas c.args.runs.now c.loop-run.run-index c.requires.runs below c.loop-run.invariant.ended c.in_ok-end_run.ensures.tallies;
      sound = c.in_ok-end_run.ensures.sound;
    }

pub returns-clause-tallies : goal.returns-clause-tallies
returns-clause-tallies c =
    let all : slots ≤ c.loop-run.run-index = let size = c.requires.runs.size in omega (arith, size) in
    ended_all c.args.areas.now c.loop-run.areas c.args.runs.now c.loop-run.run-index all c.loop-run.invariant.ended
