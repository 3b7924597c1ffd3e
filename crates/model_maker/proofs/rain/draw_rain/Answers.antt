use Rattle.std.proofs.Common.{◌≡◌, ℕ, ◌+◌, ◌-◌, ◌*◌, ◌≤◌, map, take, drop, refl, sym, ap, ◌∙◌, arith}
use Rattle.std.proofs.lemmas.List.FromFn.{map-range_with_len_more}
use Rattle.model_maker.specs.Draws.{drawn_from}
use Rattle.model_maker.specs.Rain.{columns, rain_cell, rain_row, steps}
use Rattle.model_maker.specs.inside.States.{state_after}
use Rattle.model_maker.proofs.DrawLemmas.{part-drawn_from, state_after-add}
use Rattle.model_maker.proofs.rain.draw_rain.Goals as goal

pub loop-before-init : goal.loop-before-init
unfolding state_after
loop-before-init c = record { rows = c.in_ok-rows.ensures.items; state = refl }

pub loop-before-preserved : goal.loop-before-preserved
loop-before-preserved c =
    let first = c.args.draws.now.state in
    let before = c.loop-before.before in
    let so_far = c.loop-before.invariant in
    let all = drawn_from (columns * steps) first in
    let few : columns * before + columns ≤ columns * steps = omega (arith, c.loop-before-test.true) in
    let place : columns * (before + 1 - 1) ≡ columns * before = omega arith in
    let row : c.from_vec.result ≡ map rain_cell (take columns (drop (columns * (before + 1 - 1)) all)) =
    c.from_vec.ensures
    ∙ c.in_ok-cells.ensures.cells
    ∙ ap (λ (state : ℕ). map rain_cell (drawn_from columns state)) so_far.state
    ∙ ap (map rain_cell) (sym (part-drawn_from (columns * before) columns (columns * steps) first few))
    ∙ ap (λ (n : ℕ). map rain_cell (take columns (drop n all))) (sym place) in
    let more = map-range_with_len_more (rain_row all) 1 before (before + 1) (omega arith) in
    record {
      rows = rw (c.in_ok-push.ensures.items, so_far.rows, row, more) refl;
      state =
          c.in_ok-cells.ensures.state
          ∙ ap (state_after columns) so_far.state
          ∙ sym (state_after-add (columns * before) columns first)
          ∙ ap (λ (n : ℕ). state_after n first) (let e : columns * before + columns ≡ columns * (before + 1) = omega arith in e);
    }
