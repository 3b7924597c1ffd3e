-- The map of an input that is a grid stands at its place.
use Rattle.std.proofs.Common.{◌≡◌, [], ap, sym, ◌∙◌}
use Rattle.std.specs.Prelude.{Option}
use Rattle.std.specs.Option.{option_copied, unwrap_or}
use Rattle.std.proofs.lemmas.Option.{unwrap_or-slice_get}
use Rattle.std.proofs.lemmas.Result.{IfOk-weaker}
use Rattle.map_meaning.specs.Maps.{WholeMap, nth}
use Rattle.map_meaning.specs.Programs.{is_grid_role}
use Rattle.map_meaning.specs.Spans.{at_inputs}
use Rattle.run_session.proofs.InputPlaces.{grid_at}
use Rattle.run_session.proofs.outputs.map_of.Goals as goal

pub returns-in-Some : goal.returns-in-Some
returns-in-Some c =
    let uses = c.args.uses.now in
    let maps = c.args.maps.now in
    let place = c.grids_before.result in
    let there = sym c.at.ensures ∙ ap option_copied c.in-Some.is in
    let at : nth maps place ≡ c.in-Some.map.now = sym (unwrap_or-slice_get maps place []) ∙ ap (λ (o : Option WholeMap). unwrap_or o []) there in
    let same = sym at ∙ (ap (nth maps) c.grids_before.ensures ∙ sym (grid_at uses maps c.args.n c.requires.grid)) in
    IfOk-weaker c.share.result (λ (m : WholeMap). m ≡ c.in-Some.map.now) (λ (m : WholeMap). m ≡ nth (at_inputs is_grid_role [] uses maps) c.args.n) (λ m is. is ∙ same) c.share.ensures

pub returns-in-None : goal.returns-in-None
returns-in-None c =
    let uses = c.args.uses.now in
    let maps = c.args.maps.now in
    let place = c.grids_before.result in
    let none = sym c.at.ensures ∙ ap option_copied c.in-None.is in
    let at : nth maps place ≡ [] = sym (unwrap_or-slice_get maps place []) ∙ ap (λ (o : Option WholeMap). unwrap_or o []) none in
    let same = sym at ∙ (ap (nth maps) c.grids_before.ensures ∙ sym (grid_at uses maps c.args.n c.requires.grid)) in
    IfOk-weaker c.new-in-None.result _ (λ (m : WholeMap). m ≡ nth (at_inputs is_grid_role [] uses maps) c.args.n) (λ m is. is ∙ ((c.from_vec.ensures ∙ c.new.ensures.items) ∙ same)) c.new-in-None.ensures
