-- What is come to by tiles.
use Rattle.std.proofs.Common.{refl, sym, subst}
use Rattle.std.specs.Prelude.{Some}
use Rattle.outside_io.specs.Causes.{outcome_as}
use Rattle.outside_io.proofs.Callers.{meets_end_as}
use Rattle.run_session.specs.Ends.{session_outcome, why}
use Rattle.lue_run.specs.declared.ended.Ended.{Ended}
use Rattle.lue_run.specs.Ends.{OfScript, why_of}
use Rattle.lue_run.specs.Answers.{IfTooManyTold}
use Rattle.lue_run.specs.Course.{IsCountBy, tiled_run}
use Rattle.lue_run.specs.Words.{ByTiles}
use Rattle.lue_run.proofs.TaskLemmas.{ended_so}
use Rattle.lue_run.proofs.top.fulfil_by_tiles.Goals as goal

pub returns : goal.returns
returns g c =
    let state = g.F.Folder.state in
    let old = state c.args.folder.now in
    let new = state c.run_tiles.new.folder in
    let name = c.args.wanted.script.now in
    let tiles = c.args.wanted.tiles in
    let end = session_outcome c.run_tiles.result in
    let by = ByTiles name tiles.rows tiles.cols tiles.workers in
    record {
      outcome = outcome_as OfScript end;
      is = c.ended.ensures.answer;
      came = meets_end_as why why_of OfScript (λ end. refl) (tiled_run tiles.rows tiles.cols name) old new end c.run_tiles.ensures.meets;
      untouched = λ none. cc none;
      refused = λ none. cc none;
      usage = λ is. absurd (c.ended.ensures.script is);
      tasks = subst (λ (said : Ended). IfTooManyTold said (IsCountBy (Some by))) (sym c.ended.ensures.answer)
          (ended_so (IsCountBy (Some by)) c.run_tiles.result c.run_tiles.ensures.many);
    }
