-- A put that failed.
use Rattle.std.proofs.Common.{◌≡◌, sym, subst, Err}
use Rattle.outside_io.specs.declared.folder.PutEnd.{PutEnd}
use Rattle.outside_io.specs.Counts.{after_put, counts_of}
use Rattle.outside_io.specs.Refusals.{PutRefused}
use Rattle.outside_io.specs.Runs.{putting}
use Rattle.outside_io.specs.Causes.{CutOff, WriteFault, why_by}
use Rattle.outside_io.specs.Met.{Meets}
use Rattle.outside_io.proofs.Callers.{meets_put_failed}
use Rattle.run_session.specs.Ends.{why}
use Rattle.run_session.proofs.files.store.Goals as goal

pub returns-in-Failed : goal.returns-in-Failed
returns-in-Failed g c =
    let state = g.F.Folder.state in
    let old = state c.args.folder.now in
    let new = state c.put.new.self in
    record {
      meets = subst (λ word. Meets (why_by why) (putting c.args.name.now c.args.bytes.now) old new (CutOff (WriteFault word))) (sym c.in-Ok.ensures)
          (meets_put_failed why c.args.name.now c.args.bytes.now old new c.in-Err.ensures.keeps
          (subst (λ (end : PutEnd). counts_of new ≡ after_put {X = Unit {0}} (counts_of old) (Err end)) c.in-Failed.is c.in-Err.ensures.counts)
          (subst (PutRefused old new c.args.name.now) c.in-Failed.is c.in-Err.ensures.answer));
      apart = tt;
    }
