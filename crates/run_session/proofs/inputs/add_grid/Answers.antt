-- One more grid, with the drain map that it is.
use Rattle.std.proofs.Common.{List, [], ◌∷◌, ◌++◌, sym, subst}
use Rattle.std.specs.declared.option.Option.{Option}
use Rattle.drain_meaning.specs.Drains.{DrainMap}
use Rattle.map_meaning.specs.Maps.{WholeMap}
use Rattle.run_session.specs.inside.Parts.{AreSourcesOf}
use Rattle.run_session.proofs.DrainInputs.{drain_more}
use Rattle.run_session.proofs.InputsMore.{map_more}
use Rattle.run_session.proofs.inputs.add_grid.Goals as goal

pub returns-clause-more : goal.returns-clause-more
returns-clause-more g c before are =
    let old = c.args.sources.now in
    let input = c.args.input.now in
    let source = c.in_ok-source.source in
    let list = before ++ input ∷ [] in
    let P : List WholeMap → List (Option DrainMap) → Type 0 = λ maps drains.
    AreSourcesOf list (record { inputs = record { frame = old.inputs.frame; maps = maps; tables = old.inputs.tables; series = old.inputs.series }; drains = drains }) in
    subst (λ maps. P maps c.push-2.new.self) (sym c.in_ok-push.ensures.ok) (subst (P (old.inputs.maps ++ source.cells ∷ [])) (sym c.in_ok-push-2.ensures.ok)
    (record {
      inputs = map_more before old.inputs input are.inputs source.cells c.requires.role c.in_ok-source.ensures.source.cells;
      drains = drain_more old.inputs.frame before old.inputs.maps old.drains input are.inputs.maps are.drains source.cells source.drain c.requires.role c.in_ok-source.ensures.source.drain;
    }))
