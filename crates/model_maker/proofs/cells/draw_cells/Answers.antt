use Rattle.std.proofs.Common.{◌≡◌, [], ◌∷◌, ◌++◌, List, refl, sym, ap, ◌∙◌}
use Rattle.cell_values.specs.declared.cell.Cell.{Cell}
use Rattle.model_maker.specs.Draws.{drawn, drawn_from, next_state}
use Rattle.model_maker.specs.Cells.{by_place, drain_cell, soil_cell, soil_cells}
use Rattle.model_maker.specs.inside.States.{state_after}
use Rattle.model_maker.proofs.DrawLemmas.{by_place-more, drawn_behind, map-drawn_from-more, state_after-more}
use Rattle.model_maker.proofs.cells.draw_cells.Goals as goal

pub loop-place-init : goal.loop-place-init
unfolding drawn_from state_after
loop-place-init c = record { drains = c.in_ok-drains.ensures.items; soils = c.in_ok-soils.ensures.items; state = refl }

pub loop-place-preserved : goal.loop-place-preserved
loop-place-preserved c =
    let first = c.args.draws.now.state in
    let place = c.loop-place.place in
    let so_far = c.loop-place.invariant in
    let state : c.draw-drawn.new.self.state ≡ next_state (state_after place first) = c.draw-drawn.ensures.state ∙ ap next_state so_far.state in
    let draw : c.draw-drawn.result ≡ drawn_behind place first = c.draw-drawn.ensures.drawn ∙ ap drawn state in
    record {
      drains =
          c.in_ok-push.ensures.items
          ∙ ap (λ (cells : List Cell). cells ++ c.drain_cell.result ∷ []) so_far.drains
          ∙ ap (λ (cell : Cell). by_place drain_cell 0 (drawn_from place first) ++ cell ∷ []) (c.drain_cell.ensures ∙ ap (drain_cell place) draw)
          ∙ sym (by_place-more drain_cell place first);
      soils =
          c.in_ok-push-2.ensures.items
          ∙ ap (λ (cells : List Cell). cells ++ c.soil_cell.result ∷ []) so_far.soils
          ∙ ap (λ (cell : Cell). soil_cells (drawn_from place first) ++ cell ∷ []) (c.soil_cell.ensures ∙ ap soil_cell draw)
          ∙ sym (map-drawn_from-more soil_cell place first);
      state = state ∙ sym (state_after-more place first);
    }
