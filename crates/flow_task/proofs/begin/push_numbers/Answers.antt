use Rattle.std.proofs.Common.{◌∙◌, ℕ, sym, subst, slice_index_or}
use Rattle.tile_map.specs.Rects.{HoldsPlace}
use Rattle.tile_map.specs.declared.rect.Rect.{Rect}
use Rattle.flow_task.proofs.Within.{held_where}
use Rattle.flow_task.proofs.begin.push_numbers.Goals as goal

pub cell_of-requires-clause-holds : goal.cell_of-requires-clause-holds
cell_of-requires-clause-holds c =
    let place : ℕ = slice_index_or c.args.places.now c.loop-place.place-index 0 in
    let low = c.requires.places c.loop-place.place-index c.loop-place-test.true in
    subst (λ (r : Rect). HoldsPlace c.args.tiling.now.cols r place) (sym c.requires.rect)
    (held_where c.args.tiling.now c.args.tile place low (sym c.holds.ensures ∙ c.if-holds.true))
