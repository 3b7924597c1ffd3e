-- A file that was written, or for which memory did not suffice.
use Rattle.std.proofs.Common.{refl, subst}
use Rattle.outside_io.specs.Causes.{outcome_by, why_by}
use Rattle.outside_io.specs.Met.{Meets}
use Rattle.outside_io.specs.Puts.{no_error}
use Rattle.outside_io.proofs.Callers.{meets_no_memory, read_keeps_all}
use Rattle.model_maker.specs.Files.{made_file_at}
use Rattle.lue_run.specs.Course.{made_put}
use Rattle.lue_run.specs.inside.Puts.{not_put_outcome}
use Rattle.lue_run.proofs.make.put_file.Goals as goal

pub returns-in_default : goal.returns-in_default
returns-in_default g c =
    let s = g.F.Folder.state c.args.folder.now in
    meets_no_memory (why_by no_error) (made_put tt (made_file_at c.args.model.now c.args.place)) s s (read_keeps_all s) refl

pub returns : goal.returns
returns g c =
    let state = g.F.Folder.state in
    subst (λ file. Meets (why_by no_error) (made_put tt file) (state c.args.folder.now) (state c.put_made.new.folder) (outcome_by not_put_outcome c.put_made.result))
    c.in-Ok.ensures c.put_made.ensures
