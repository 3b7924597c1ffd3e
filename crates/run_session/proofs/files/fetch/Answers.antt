-- A read that failed.
use Rattle.std.proofs.Common.{◌≡◌, ℕ, List, sym, subst, Err}
use Rattle.outside_io.specs.declared.folder.ReadEnd.{ReadEnd}
use Rattle.outside_io.specs.Counts.{after_read, counts_of}
use Rattle.outside_io.specs.Refusals.{ReadRefused}
use Rattle.outside_io.specs.Runs.{reading}
use Rattle.outside_io.specs.Causes.{CutOff, ReadFault, why_by}
use Rattle.outside_io.specs.Met.{Meets}
use Rattle.outside_io.proofs.Callers.{meets_read_failed}
use Rattle.run_session.specs.Ends.{Missing, TooLong, why}
use Rattle.run_session.proofs.files.fetch.Goals as goal

pub returns-in-Failed-clause-meets : goal.returns-in-Failed-clause-meets
returns-in-Failed-clause-meets g c =
    let state = g.F.Folder.state in
    let old = state c.args.folder.now in
    let new = state c.read.new.self in
    subst (λ word. Meets (why_by why) (reading Missing TooLong c.args.name.now c.args.limit) old new (CutOff (ReadFault word))) (sym c.in-Ok.ensures)
    (meets_read_failed why Missing TooLong c.args.name.now c.args.limit old new c.in-Err.ensures.keeps
    (subst (λ (end : ReadEnd). counts_of new ≡ after_read {X = List ℕ} (counts_of old) (Err end)) c.in-Failed.is c.in-Err.ensures.counts)
    (subst (ReadRefused old new c.args.name.now c.args.limit) c.in-Failed.is c.in-Err.ensures.answer))
