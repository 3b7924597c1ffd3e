-- A put that failed.
use Rattle.std.proofs.Common.{◌≡◌, sym, subst, Err}
use Rattle.outside_io.specs.declared.folder.PutEnd.{PutEnd}
use Rattle.outside_io.specs.Counts.{after_put, counts_of}
use Rattle.outside_io.specs.Refusals.{PutRefused}
use Rattle.outside_io.specs.Runs.{putting}
use Rattle.outside_io.specs.Causes.{CutOff, WriteFault, why_by}
use Rattle.outside_io.specs.Met.{Meets}
use Rattle.outside_io.specs.Puts.{no_error}
use Rattle.outside_io.proofs.Callers.{meets_put_failed}
use Rattle.lue_run.proofs.make.put_made.Goals as goal

pub returns-in-Err-Failed : goal.returns-in-Err-Failed
returns-in-Err-Failed g c =
    let state = g.F.Folder.state in
    let old = state c.args.folder.now in
    let new = state c.put.new.self in
    let made = c.args.made.now in
    subst (λ word. Meets (why_by no_error) (putting made.name made.bytes.items) old new (CutOff (WriteFault word))) (sym c.in-Ok.ensures)
    (meets_put_failed no_error made.name made.bytes.items old new c.in-Err-Failed.ensures.keeps
    (subst (λ (end : PutEnd). counts_of new ≡ after_put {X = Unit {0}} (counts_of old) (Err end)) c.in-Err-Failed.field-0-is c.in-Err-Failed.ensures.counts)
    (subst (PutRefused old new made.name) c.in-Err-Failed.field-0-is
    (subst (λ name. PutRefused old new name c.in-Err-Failed.field-0) c.bytes.ensures c.in-Err-Failed.ensures.answer)))
