-- No memory for a name.
use Rattle.std.proofs.Common.{refl}
use Rattle.outside_io.specs.Causes.{why_by}
use Rattle.outside_io.proofs.Callers.{meets_no_memory, read_keeps_all}
use Rattle.run_session.specs.declared.ends.Stop.TheVariants.{Memory}
use Rattle.run_session.specs.Steps.{one_more_grid}
use Rattle.run_session.specs.Ends.{why}
use Rattle.run_session.proofs.Rest.{seen_out}
use Rattle.run_session.proofs.stacks.read_grid.Goals as goal

pub returns-in_err-file-clause-meets : goal.returns-in_err-file-clause-meets
returns-in_err-file-clause-meets g c =
    let run = one_more_grid c.args.frame.now c.args.step c.args.grids.now c.args.stack.now in
    seen_out (λ _. c.args.grids.now) run _ _ c.from_residual.result Memory c.from_residual.ensures.1 (meets_no_memory (why_by why) run _ _ (read_keeps_all _) refl)
