-- How the model was made and put, by how this came out.
use Rattle.std.proofs.Common.{ℕ, length, refl, ap, subst, ◌∙◌}
use Rattle.std.specs.Prelude.{Err}
use Rattle.outside_io.specs.Causes.{CameTo, CutOff, NoMemory, WriteFault, outcome_by, why_by}
use Rattle.outside_io.specs.Met.{Meets}
use Rattle.outside_io.specs.Puts.{no_error}
use Rattle.outside_io.specs.Runs.{in_turn}
use Rattle.outside_io.proofs.Callers.{meets_no_memory, read_keeps_all}
use Rattle.model_maker.specs.Files.{made_files}
use Rattle.lue_run.specs.declared.ended.Ended.TheVariants as top
use Rattle.lue_run.specs.declared.make.NotPut.{NotPut}
use Rattle.lue_run.specs.Course.{made_put, make_run}
use Rattle.lue_run.specs.Ends.{OfModel, why_of}
use Rattle.lue_run.specs.inside.Puts.{not_put_outcome}
use Rattle.lue_run.proofs.MakeLemmas.{puts_meet}
use Rattle.lue_run.proofs.make.run_make.Goals as goal

pub returns-in_default : goal.returns-in_default
returns-in_default g c =
    let s = g.F.Folder.state c.args.folder.now in
    record { outcome = CutOff NoMemory; is = refl; came = meets_no_memory why_of (make_run c.args.number) s s (read_keeps_all s) refl; made = λ is. cc is; tasks = tt }

pub returns-in-Ok-put_all : goal.returns-in-Ok-put_all
returns-in-Ok-put_all g c =
    let state = g.F.Folder.state in
    record {
      outcome = CameTo (OfModel (length (made_files c.args.number)));
      is = ap top.Made (c.count.ensures ∙ ap (λ (n : ℕ). length (made_files n)) c.in-Ok.ensures);
      came = puts_meet c.args.number (made_files c.in-Ok.model) (state c.args.folder.now) (state c.put_all.new.folder) _ (ap made_files c.in-Ok.ensures) c.in-Ok-put_all.ensures;
      made = λ is. cc is;
      tasks = tt;
    }

pub returns-in-Err-Failed : goal.returns-in-Err-Failed
returns-in-Err-Failed g c =
    let state = g.F.Folder.state in
    let old = state c.args.folder.now in
    let new = state c.put_all.new.folder in
    let files = made_files c.in-Ok.model in
    record {
      outcome = CutOff (WriteFault c.in-Err-Failed.name);
      is = refl;
      came = puts_meet c.args.number files old new (CutOff (WriteFault c.in-Err-Failed.name)) (ap made_files c.in-Ok.ensures)
          (subst (λ (why : NotPut). Meets (why_by no_error) (in_turn made_put tt files) old new (outcome_by not_put_outcome (Err why))) c.in-Err-Failed.field-0-is c.in-Err-Failed.ensures);
      made = λ is. cc is;
      tasks = tt;
    }

pub returns : goal.returns
returns g c =
    let state = g.F.Folder.state in
    let old = state c.args.folder.now in
    let new = state c.put_all.new.folder in
    let files = made_files c.in-Ok.model in
    record {
      outcome = CutOff NoMemory;
      is = refl;
      came = puts_meet c.args.number files old new (CutOff NoMemory) (ap made_files c.in-Ok.ensures)
          (subst (λ (why : NotPut). Meets (why_by no_error) (in_turn made_put tt files) old new (outcome_by not_put_outcome (Err why))) c.in-Err-Memory.field-0-is c.in-Err-Memory.ensures);
      made = λ is. cc is;
      tasks = tt;
    }
