-- What is come to, by what is wanted.
use Rattle.std.proofs.Common.{refl, sym, subst}
use Rattle.std.specs.Prelude.{Some}
use Rattle.outside_io.specs.Causes.{outcome_as}
use Rattle.outside_io.specs.Met.{Meets}
use Rattle.outside_io.proofs.Callers.{meets_end_as}
use Rattle.run_session.specs.Ends.{session_outcome, why}
use Rattle.lue_run.specs.declared.asked.Asked.{Asked}
use Rattle.lue_run.specs.declared.ended.Ended.{Ended}
use Rattle.lue_run.specs.Ends.{OfScript, why_of}
use Rattle.lue_run.specs.Answers.{IfTooManyTold}
use Rattle.lue_run.specs.Course.{IsCountBy, course, plain_run}
use Rattle.lue_run.specs.Words.{Plain}
use Rattle.lue_run.specs.inside.Asked.{command_asked}
use Rattle.lue_run.proofs.TaskLemmas.{ended_so, too_many_less}
use Rattle.lue_run.proofs.top.fulfil.Goals as goal

pub returns-in-Plain : goal.returns-in-Plain
returns-in-Plain g c =
    let state = g.F.Folder.state in
    let old = state c.args.folder.now in
    let new = state c.run_plain.new.folder in
    let end = session_outcome c.run_plain.result in
    let outcome = outcome_as OfScript end in
    record {
      outcome = outcome;
      is = c.ended.ensures.answer;
      came = subst (λ (wanted : Asked). Meets why_of (course (Some (command_asked wanted))) old new outcome) (sym c.in-Plain.is)
          (meets_end_as why why_of OfScript (λ end. refl) (plain_run c.in-Plain.name.now) old new end c.run_plain.ensures.meets);
      untouched = λ none. cc none;
      refused = λ none. cc none;
      usage = λ is. absurd (c.ended.ensures.script is);
      tasks = subst (λ (wanted : Asked). IfTooManyTold c.ended.result (IsCountBy (Some (command_asked wanted)))) (sym c.in-Plain.is)
          (subst (λ (said : Ended). IfTooManyTold said (IsCountBy (Some (Plain c.in-Plain.name.now)))) (sym c.ended.ensures.answer)
          (ended_so (IsCountBy (Some (Plain c.in-Plain.name.now))) c.run_plain.result
          (too_many_less (λ count. ⊥) (IsCountBy (Some (Plain c.in-Plain.name.now))) c.run_plain.result (λ count none. absurd none) c.run_plain.ensures.few)));
    }

pub returns-in-Make : goal.returns-in-Make
returns-in-Make g c =
    let state = g.F.Folder.state in
    let old = state c.args.folder.now in
    let new = state c.run_make.new.folder in
    let made = c.run_make.ensures in
    record {
      outcome = made.outcome;
      is = made.is;
      came = subst (λ (wanted : Asked). Meets why_of (course (Some (command_asked wanted))) old new made.outcome) (sym c.in-Make.is) made.came;
      untouched = λ none. cc none;
      refused = λ none. cc none;
      usage = λ is. absurd (made.made is);
      tasks = subst (λ (wanted : Asked). IfTooManyTold c.run_make.result (IsCountBy (Some (command_asked wanted)))) (sym c.in-Make.is) made.tasks;
    }
