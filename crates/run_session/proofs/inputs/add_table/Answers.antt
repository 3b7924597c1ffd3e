-- One more table.
use Rattle.std.proofs.Common.{List, [], ◌∷◌, ◌++◌, ap, sym, subst}
use Rattle.std.specs.declared.option.Option.{Option}
use Rattle.drain_meaning.specs.Drains.{DrainMap}
use Rattle.lookup_table.specs.Form.{TableValue}
use Rattle.map_meaning.specs.Programs.{is_grid_role}
use Rattle.run_session.specs.inside.Parts.{AreSourcesOf}
use Rattle.run_session.proofs.DrainInputs.{other_more}
use Rattle.run_session.proofs.InputsMore.{table_more}
use Rattle.run_session.proofs.inputs.add_table.Goals as goal

pub returns-clause-more : goal.returns-clause-more
returns-clause-more g c before are =
    let old = c.args.sources.now in
    let input = c.args.input.now in
    let table = c.in_ok-table.table in
    let list = before ++ input ∷ [] in
    let P : List TableValue → List (Option DrainMap) → Type 0 = λ tables drains.
    AreSourcesOf list (record { inputs = record { frame = old.inputs.frame; maps = old.inputs.maps; tables = tables; series = old.inputs.series }; drains = drains }) in
    subst (λ tables. P tables c.push-2.new.self) (sym c.in_ok-push.ensures.ok) (subst (P (old.inputs.tables ++ table ∷ [])) (sym c.in_ok-push-2.ensures.ok)
    (record {
      inputs = table_more before old.inputs input are.inputs _ table c.requires.role c.in_ok-table.ensures.keys c.in_ok-table.ensures.values;
      drains = other_more old.inputs.frame before old.inputs.maps old.drains input are.inputs.maps are.drains (ap is_grid_role c.requires.role);
    }))
