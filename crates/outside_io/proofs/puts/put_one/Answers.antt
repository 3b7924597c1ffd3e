-- A put that failed.
use Rattle.std.proofs.Common.{◌≡◌, subst, Err}
use Rattle.outside_io.specs.declared.folder.PutEnd.{PutEnd}
use Rattle.outside_io.specs.Counts.{after_put, counts_of}
use Rattle.outside_io.specs.Refusals.{PutRefused}
use Rattle.outside_io.specs.Puts.{no_error}
use Rattle.outside_io.proofs.MetLemmas.{meets_put_failed}
use Rattle.outside_io.proofs.puts.put_one.Goals as goal

pub returns-in-Err-Failed-clause-meets : goal.returns-in-Err-Failed-clause-meets
returns-in-Err-Failed-clause-meets g c =
    let state = g.F.Folder.state in
    let old = state c.args.folder.now in
    let new = state c.put.new.self in
    let file = c.args.file.now in
    meets_put_failed no_error file.name.items file.bytes.items old new c.in-Err-Failed.ensures.keeps
    (subst (λ (end : PutEnd). counts_of new ≡ after_put {X = Unit {0}} (counts_of old) (Err end)) c.in-Err-Failed.field-0-is c.in-Err-Failed.ensures.counts)
    (subst (PutRefused old new file.name.items) c.in-Err-Failed.field-0-is
    (subst (λ name. PutRefused old new name c.in-Err-Failed.field-0) c.as_slice.ensures.value c.in-Err-Failed.ensures.answer))
