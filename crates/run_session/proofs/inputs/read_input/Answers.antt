-- What one more input gives, by its role.
use Rattle.std.proofs.Common.{◌+◌, List, [], ◌∷◌, ◌++◌, ap, sym, subst}
use Rattle.std.specs.declared.option.Option.{Option}
use Rattle.outside_io.specs.inside.Parts.{seen_by}
use Rattle.drain_meaning.specs.Drains.{DrainMap}
use Rattle.grid_text.specs.declared.grid.Grid.{Grid}
use Rattle.map_meaning.specs.declared.program.Role.{Role}
use Rattle.map_meaning.specs.Programs.{is_grid_role}
use Rattle.run_session.specs.Course.{input_by_role}
use Rattle.run_session.specs.inside.Parts.{AreSourcesOf, Makes, area_grid, given_of}
use Rattle.run_session.proofs.DrainInputs.{other_more}
use Rattle.run_session.proofs.InputsMore.{stack_more}
use Rattle.run_session.proofs.inputs.read_input.Goals as goal

pub returns-in-Table-clause-meets : goal.returns-in-Table-clause-meets
returns-in-Table-clause-meets g c =
    let state = g.F.Folder.state in
    let old = c.args.sources.now.inputs in
    let n = c.args.n in
    let area : Grid = area_grid old.frame c.args.area.now.cells in
    subst (λ (r : Role). Makes (input_by_role c.args.number area (given_of n old) c.args.input.now r) (state c.args.folder.now) (state c.add_table.new.folder) (seen_by (λ done. given_of (n + 1) c.add_table.new.sources.inputs) c.add_table.result))
    (sym c.in-Table.is) (c.add_table.ensures.meets c.args.number area)

pub returns-in-Series-clause-meets : goal.returns-in-Series-clause-meets
returns-in-Series-clause-meets g c =
    let state = g.F.Folder.state in
    let old = c.args.sources.now.inputs in
    let n = c.args.n in
    let area : Grid = area_grid old.frame c.args.area.now.cells in
    subst (λ (r : Role). Makes (input_by_role c.args.number area (given_of n old) c.args.input.now r) (state c.args.folder.now) (state c.add_series.new.folder) (seen_by (λ done. given_of (n + 1) c.add_series.new.sources.inputs) c.add_series.result))
    (sym c.in-Series.is) (c.add_series.ensures.meets c.args.number area)

pub returns-in_ok-push-in-Stack-clause-more : goal.returns-in_ok-push-in-Stack-clause-more
returns-in_ok-push-in-Stack-clause-more g c before are =
    let old = c.args.sources.now in
    let input = c.args.input.now in
    let list = before ++ input ∷ [] in
    let P : List (Option DrainMap) → Type 0 = λ drains. AreSourcesOf list (record { inputs = old.inputs; drains = drains }) in
    subst P (sym c.in_ok-push-in-Stack.ensures.ok)
    (record {
      inputs = stack_more before old.inputs input are.inputs c.in-Stack.is;
      drains = other_more old.inputs.frame before old.inputs.maps old.drains input are.inputs.maps are.drains (ap is_grid_role c.in-Stack.is);
    })
