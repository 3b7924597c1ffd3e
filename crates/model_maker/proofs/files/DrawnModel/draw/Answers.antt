use Rattle.std.proofs.Common.{◌≡◌, ℕ, ◌*◌, sym, ap, ◌∙◌}
use Rattle.model_maker.specs.Cells.{drain_cells, soil_cells}
use Rattle.model_maker.specs.Draws.{drawn_from}
use Rattle.model_maker.specs.Files.{cell_draws, rain_draws}
use Rattle.model_maker.specs.Rain.{columns, rain_rows, steps}
use Rattle.model_maker.specs.inside.States.{state_after}
use Rattle.model_maker.proofs.DrawLemmas.{cell_draws-are, rain_draws-are}
use Rattle.model_maker.proofs.files.DrawnModel.draw.Goals as goal

-- the cells are drawn first, and then the rain
pub invariant_of-result : goal.invariant_of-result
invariant_of-result c =
    let number = c.args.number in
    let all = c.cells_in_all.ensures.all in
    let drawn : drawn_from c.cells_in_all.result number ≡ cell_draws number =
    ap (λ (n : ℕ). drawn_from n number) all ∙ sym (cell_draws-are number) in
    let rain : drawn_from (columns * steps) c.draw_cells.new.draws.state ≡ rain_draws number =
    ap (drawn_from (columns * steps)) (c.in_ok-cells.ensures.state ∙ ap (λ (n : ℕ). state_after n number) all) ∙ sym (rain_draws-are number) in
    record {
      drains = c.in_ok-cells.ensures.drains ∙ ap drain_cells drawn;
      soils = c.in_ok-cells.ensures.soils ∙ ap soil_cells drawn;
      rain = c.in_ok-rain.ensures ∙ ap rain_rows rain;
    }
