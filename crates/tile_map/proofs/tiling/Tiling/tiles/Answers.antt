use Rattle.std.proofs.Common.{arith, ◌≡◌, ◌∙◌, ◌++◌, ◌∷◌, [], ap, sym, ℕ, List, map}
use Rattle.std.specs.List.{range_with_len}
use Rattle.std.proofs.lemmas.List.FromFn.{map-range_with_len_more}
use Rattle.tile_map.specs.declared.rect.Rect.{Rect}
use Rattle.tile_map.specs.Rects.{cell_count, place_in, places_of}
use Rattle.tile_map.specs.Tiles.{across}
use Rattle.tile_map.specs.inside.Met.{tiles_met}
use Rattle.tile_map.proofs.tiling.Tiling.tiles.Goals as goal

pub loop-number-preserved : goal.loop-number-preserved
loop-number-preserved c =
    let w = across c.args.self.now in
    let met = tiles_met c.args.self.now c.args.rect in
    let n = c.loop-number.number in
    c.in_ok-push.ensures.items
    ∙ (ap (λ (xs : List ℕ). xs ++ c.tile_in.result ∷ []) c.loop-number.invariant
    ∙ (ap (λ (t : ℕ). map (place_in w met) (range_with_len 0 n) ++ t ∷ []) (c.tile_in.ensures ∙ ap (λ (r : Rect). place_in w r n) c.met-met.ensures.value)
    ∙ sym (map-range_with_len_more (place_in w met) 0 n n (omega arith))))

pub returns : goal.returns
unfolding places_of
returns c =
    let met = tiles_met c.args.self.now c.args.rect in
    let all : c.loop-number.number ≡ cell_count c.met-met.result = omega arith in
    c.loop-number.invariant
    ∙ ap (λ (n : ℕ). map (place_in (across c.args.self.now) met) (range_with_len 0 n)) (all ∙ ap cell_count c.met-met.ensures.value)
