-- The loop over files, by the lemmas for a part for each item.
use Rattle.std.proofs.Common.{◌≡◌, ap, sym, ◌∙◌}
use Rattle.std.specs.Prelude.{Ok, Err, Result, IsErrAnd}
use Rattle.outside_io.specs.Counts.{Counts}
use Rattle.outside_io.specs.Puts.{after_puts, file_run, files_run, no_error, outcome_of_put}
use Rattle.outside_io.specs.declared.puts.NotAllPut.{NotAllPut}
use Rattle.outside_io.proofs.LoopLemmas.{item_done, item_on, item_stop, meets_out}
use Rattle.outside_io.proofs.puts.put_in_turn.Goals as goal

-- a `?` hands an error on, and counts nothing
counts_stop : (old mid new : Counts) (end : NotAllPut) (result : Result (Unit {0}) NotAllPut) → IsErrAnd result (λ e. e ≡ end) → mid ≡ old → new ≡ after_puts mid (Err end) →
    new ≡ after_puts old result
counts_stop old mid new end (Ok done) is m n = absurd is
counts_stop old mid new end (Err e) is m n = n ∙ (ap (λ counts. after_puts counts (Err end)) m ∙ ap (λ e. after_puts old (Err e)) (sym is))

pub returns-in_err-put_one-clause-meets : goal.returns-in_err-put_one-clause-meets
returns-in_err-put_one-clause-meets g c =
    let files = c.args.files.now in
    meets_out no_error (files_run files) _ outcome_of_put _ c.from_residual.result _ c.from_residual.ensures.1
    (item_stop no_error file_run (files_run files) _ files c.loop-file.file-index tt _ _ c.file-item.result (outcome_of_put _) c.loop-file-test.true c.file-item.is c.loop-file.invariant.leads c.in_err-put_one.ensures.meets)

pub returns-in_err-put_one-clause-counts : goal.returns-in_err-put_one-clause-counts
returns-in_err-put_one-clause-counts g c =
    counts_stop _ _ _ _ c.from_residual.result c.from_residual.ensures.1 c.loop-file.invariant.counts c.in_err-put_one.ensures.counts

pub loop-file-preserved : goal.loop-file-preserved
loop-file-preserved g c =
    let files = c.args.files.now in
    record {
      leads = item_on no_error file_run (files_run files) _ files c.loop-file.file-index tt _ _ c.file-item.result tt c.loop-file-test.true c.file-item.is c.loop-file.invariant.leads c.in_ok-put_one.ensures.meets;
      counts = c.in_ok-put_one.ensures.counts ∙ c.loop-file.invariant.counts;
    }

pub returns-clause-meets : goal.returns-clause-meets
returns-clause-meets g c =
    let files = c.args.files.now in
    item_done no_error file_run (files_run files) _ files c.loop-file.file-index tt _ c.loop-file-test.false c.loop-file.invariant.leads
