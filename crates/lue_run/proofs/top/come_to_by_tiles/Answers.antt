-- What is come to by tiles, by whether a run is asked for.
use Rattle.std.proofs.Common.{refl, sym, ap, subst}
use Rattle.std.specs.Option.{option_map}
use Rattle.std.specs.declared.option.Option.{Option}
use Rattle.outside_io.specs.Causes.{CameTo}
use Rattle.outside_io.specs.Met.{Meets}
use Rattle.outside_io.proofs.Callers.{meets_settled}
use Rattle.lue_run.specs.declared.asked.AskedTiles.{AskedTiles}
use Rattle.lue_run.specs.Ends.{Usage, why_of}
use Rattle.lue_run.specs.Course.{course}
use Rattle.lue_run.specs.inside.Asked.{tiles_command}
use Rattle.lue_run.specs.inside.Top.{ComesTo}
use Rattle.lue_run.proofs.top.come_to_by_tiles.Goals as goal

pub returns-in-Some : goal.returns-in-Some
returns-in-Some g c =
    let state = g.F.Folder.state in
    subst (λ (given : Option AskedTiles). ComesTo (option_map tiles_command given) (state c.args.folder.now) (state c.fulfil_by_tiles.new.folder) c.fulfil_by_tiles.result)
    (sym c.in-Some.is) c.fulfil_by_tiles.ensures

pub returns-in-None : goal.returns-in-None
returns-in-None g c =
    let s = g.F.Folder.state c.args.folder.now in
    record {
      outcome = CameTo Usage;
      is = refl;
      came = subst (λ (given : Option AskedTiles). Meets why_of (course (option_map tiles_command given)) s s (CameTo Usage)) (sym c.in-None.is)
          (meets_settled why_of Usage s (CameTo Usage) (refl, refl));
      untouched = λ none. refl;
      refused = λ none. refl;
      usage = λ is. ap (option_map tiles_command) c.in-None.is;
      tasks = tt;
    }
