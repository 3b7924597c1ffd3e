-- The part of a tile all of whose cells are settled.
use Rattle.std.proofs.Common.{◌≡◌, ℕ, ◌*◌, ◌<◌, sym, ap, ◌∙◌, inl, inr, true}
use Rattle.std.proofs.lemmas.Bool.{eq-eqb}
use Rattle.cell_values.specs.declared.cell.Cell.{Cell}
use Rattle.tile_map.specs.Parts.{part_of}
use Rattle.tile_map.specs.Rects.{HoldsPlace, cell_count, place_in, places_of}
use Rattle.tile_map.specs.Tiles.{tile_at}
use Rattle.tile_map.proofs.Callers.{ascends_over_places, holds_cell, part_of-same, tile_in_map, tile_only}
use Rattle.drain_meaning.specs.declared.end.FlowEnd.{FlowEnd}
use Rattle.drain_meaning.specs.declared.next.Next.{Next}
use Rattle.drain_meaning.specs.Drains.{next_at}
use Rattle.drain_meaning.specs.Flows.{flow_outcome}
use Rattle.drain_meaning.specs.Transports.{Transport, end_of, transport_outcome, where_directed}
use Rattle.drain_meaning.proofs.Callers.{cases_directed}
use Rattle.border_channel.specs.Laws.{IsTileOf, StandsForWhole}
use Rattle.border_channel.specs.Locals.{local_end, local_outcome, local_part}
use Rattle.border_channel.specs.Settled.{all_settled, is_settled}
use Rattle.border_channel.specs.TileFlows.{TileFlow, in_tile, tile_rect}
use Rattle.border_channel.proofs.Lists.{list_all-each}
use Rattle.border_channel.proofs.SettledLemmas.{settled_right}

-- the place of a cell of the tile
pub record IsTilePlace (w : TileFlow) (c : ℕ) : Type 0 where
  pub held : HoldsPlace w.tiling.cols (tile_rect w) c
  pub below : c < w.tiling.rows * w.tiling.cols
  pub inside : in_tile w c ≡ true

pub tile_place : (w : TileFlow) → IsTileOf w → (i : ℕ) → i < cell_count (tile_rect w) → IsTilePlace w (place_in w.tiling.cols (tile_rect w) i)
tile_place w is i low =
    let held = holds_cell w.tiling.rows w.tiling.cols (tile_rect w) i (tile_in_map w.tiling w.tile is.tile).0 low in
    let only = tile_only w.tiling (place_in w.tiling.cols (tile_rect w) i) w.tile held.0 in
    record { held = held.0; below = held.1; inside = eq-eqb (tile_at w.tiling (place_in w.tiling.cols (tile_rect w) i)) w.tile (sym only) }

-- a place of the tile is settled where all are
pub place_settled : (t : Transport) (w : TileFlow) → IsTileOf w → all_settled t.orient w ≡ true → (i : ℕ) → i < cell_count (tile_rect w) → is_settled t.orient w (place_in w.tiling.cols (tile_rect w) i) ≡ true
place_settled t w is all i low =
    let at = tile_place w is i low in
    let listed = (ascends_over_places w.tiling.rows w.tiling.cols (tile_rect w) (tile_in_map w.tiling w.tile is.tile).0).each (place_in w.tiling.cols (tile_rect w) i) (at.below, at.held) in
    list_all-each (is_settled t.orient w) (places_of w.tiling.cols (tile_rect w)) all (place_in w.tiling.cols (tile_rect w) i) listed

outcome_right : (t : Transport) (w : TileFlow) (a b : ℕ → Cell) → IsTileOf w → StandsForWhole t w a b → (c : ℕ) → in_tile w c ≡ true → is_settled t.orient w c ≡ true → local_outcome t w c ≡ transport_outcome t w.kind w.drain a b c
outcome_right t w a b is stands c inside settled = elim (cases_directed w.drain c) as (λ _. local_outcome t w c ≡ transport_outcome t w.kind w.drain a b c) [
  | inl directed ↦ ap (λ (y : FlowEnd). flow_outcome w.kind (where_directed (next_at w.drain c) y.result)) (settled_right t w a b is stands c inside directed settled)
  | inr missing ↦
      ap (λ (y : Next). flow_outcome w.kind (where_directed y (local_end t w c).result)) missing
      ∙ sym (ap (λ (y : Next). flow_outcome w.kind (where_directed y (end_of t w.drain a b c).result)) missing)
]

-- Where all cells are settled the part of the tile is that of the whole map's values in it.
pub parts_right : (t : Transport) (w : TileFlow) (a b : ℕ → Cell) → IsTileOf w → StandsForWhole t w a b → all_settled t.orient w ≡ true →
    local_part t w ≡ part_of (λ i. transport_outcome t w.kind w.drain a b (place_in w.tiling.cols (tile_rect w) i)) (cell_count (tile_rect w))
parts_right t w a b is stands all =
    part_of-same (λ i. local_outcome t w (place_in w.tiling.cols (tile_rect w) i)) (λ i. transport_outcome t w.kind w.drain a b (place_in w.tiling.cols (tile_rect w) i)) (cell_count (tile_rect w))
    (λ i low. let at = tile_place w is i low in outcome_right t w a b is stands (place_in w.tiling.cols (tile_rect w) i) at.inside (place_settled t w is all i low))
