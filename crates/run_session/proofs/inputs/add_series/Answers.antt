-- One more time series.
use Rattle.std.proofs.Common.{List, [], ◌∷◌, ◌++◌, ap, sym, subst}
use Rattle.std.specs.declared.option.Option.{Option}
use Rattle.drain_meaning.specs.Drains.{DrainMap}
use Rattle.time_series.specs.Form.{SeriesValue}
use Rattle.map_meaning.specs.Programs.{is_grid_role}
use Rattle.run_session.specs.inside.Parts.{AreSourcesOf}
use Rattle.run_session.proofs.DrainInputs.{other_more}
use Rattle.run_session.proofs.InputsMore.{series_more}
use Rattle.run_session.proofs.inputs.add_series.Goals as goal

pub returns-clause-more : goal.returns-clause-more
returns-clause-more g c before are =
    let old = c.args.sources.now in
    let input = c.args.input.now in
    let series = c.in_ok-series.series in
    let list = before ++ input ∷ [] in
    let P : List SeriesValue → List (Option DrainMap) → Type 0 = λ series drains.
    AreSourcesOf list (record { inputs = record { frame = old.inputs.frame; maps = old.inputs.maps; tables = old.inputs.tables; series = series }; drains = drains }) in
    subst (λ series. P series c.push-2.new.self) (sym c.in_ok-push.ensures.ok) (subst (P (old.inputs.series ++ series ∷ [])) (sym c.in_ok-push-2.ensures.ok)
    (record {
      inputs = series_more before old.inputs input are.inputs series c.requires.role c.in_ok-series.ensures.values;
      drains = other_more old.inputs.frame before old.inputs.maps old.drains input are.inputs.maps are.drains (ap is_grid_role c.requires.role);
    }))
