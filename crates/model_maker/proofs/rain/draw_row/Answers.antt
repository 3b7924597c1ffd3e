use Rattle.std.proofs.Common.{◌≡◌, [], ◌∷◌, ◌++◌, List, map, refl, sym, ap, ◌∙◌}
use Rattle.cell_values.specs.declared.cell.Cell.{Cell}
use Rattle.model_maker.specs.Draws.{drawn, drawn_from, next_state}
use Rattle.model_maker.specs.Rain.{rain_cell}
use Rattle.model_maker.specs.inside.States.{state_after}
use Rattle.model_maker.proofs.DrawLemmas.{drawn_behind, map-drawn_from-more, state_after-more}
use Rattle.model_maker.proofs.rain.draw_row.Goals as goal

pub loop-init : goal.loop-init
unfolding drawn_from state_after
loop-init c = record { cells = c.in_ok-cells.ensures.items; state = refl }

pub loop-preserved : goal.loop-preserved
loop-preserved c =
    let first = c.args.draws.now.state in
    let count = c.loop.counter in
    let so_far = c.loop.invariant in
    let state : c.draw-drawn.new.self.state ≡ next_state (state_after count first) = c.draw-drawn.ensures.state ∙ ap next_state so_far.state in
    let draw : c.draw-drawn.result ≡ drawn_behind count first = c.draw-drawn.ensures.drawn ∙ ap drawn state in
    record {
      cells =
          c.in_ok-push.ensures.items
          ∙ ap (λ (cells : List Cell). cells ++ c.rain_cell.result ∷ []) so_far.cells
          ∙ ap (λ (cell : Cell). map rain_cell (drawn_from count first) ++ cell ∷ []) (c.rain_cell.ensures ∙ ap rain_cell draw)
          ∙ sym (map-drawn_from-more rain_cell count first);
      state = state ∙ sym (state_after-more count first);
    }
