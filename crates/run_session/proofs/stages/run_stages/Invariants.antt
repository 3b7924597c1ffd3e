use Rattle.std.proofs.Common.{◌≡◌, ◌≤◌, ℕ, List, length}
use Rattle.map_meaning.specs.declared.known.Span.{Span}
use Rattle.map_meaning.specs.declared.program.Program.{Program}
use Rattle.run_session.specs.inside.Stages.{AreBefore, AsksStages, BeginsBehind, HasLeft}
use Rattle.run_session.proofs.stages.run_stages.Given as goal

-- the stages before the loop's number are left, and the runner was asked for them
abbrev pub invariant-loop-n : goal.invariant-loop-n
invariant-loop-n g l =
    let runner = g.R.BlockRunner in
    let program = l.work.program.value in
    let inputs = l.work.inputs in
    record {
      ready : runner.ready l.runner;
      block : runner.block_of l.runner ≡ runner.block_of l.fn.runner;
      admits : (p : Program) (rows cols : ℕ) → runner.admits l.runner p rows cols ≡ runner.admits l.fn.runner p rows cols;
      below : l.n ≤ length program.drains;
      left : HasLeft program inputs l.first l.left;
      begins : BeginsBehind program l.n l.first;
      spans : List Span;
      before : AreBefore program l.n l.first spans;
      asks : AsksStages (runner.asked l.fn.runner) (runner.asked l.runner) program inputs spans;
    }
