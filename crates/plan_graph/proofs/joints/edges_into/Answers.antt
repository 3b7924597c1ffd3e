use Rattle.std.proofs.Common.{arith, ◌≡◌, ◌∙◌, ℕ, ◌<◌, List, ap, length, subst, sym}
use Rattle.std.specs.Prelude.{slice_index}
use Rattle.std.proofs.lemmas.List.{length-map}
use Rattle.std.proofs.lemmas.Result.{IfOk-weaker}
use Rattle.border_channel.specs.declared.edge.Edge.{Edge}
use Rattle.tile_map.specs.Tiles.{tile_at, tile_count}
use Rattle.plan_graph.specs.inside.Joined.{target_tiles}
use Rattle.plan_graph.specs.inside.Places.{places_by_number}
use Rattle.plan_graph.proofs.JoinedLemmas.{in_by_tile, targets_below}
use Rattle.plan_graph.proofs.joints.edges_into.Goals as goal

pub places_by_number-requires : goal.places_by_number-requires
places_by_number-requires c =
    let g = c.args.tiling.now in
    let edges = c.args.edges.now in
    let same : c.deref.result.now ≡ target_tiles g edges = c.deref.ensures.value ∙ c.in_ok-tiles.ensures in
    record {
      below = subst (λ (xs : List ℕ). (i : ℕ) → i < length xs → slice_index xs i < c.count.result) (sym same)
          (λ i low. let h = targets_below g edges c.requires.within i low in omega arith);
      few = let n = ap length same ∙ length-map edges (λ (e : Edge). tile_at g e.target) in omega arith;
    }

pub returns : goal.returns
returns c =
    let g = c.args.tiling.now in
    let edges = c.args.edges.now in
    let same : c.deref.result.now ≡ target_tiles g edges = c.deref.ensures.value ∙ c.in_ok-tiles.ensures in
    IfOk-weaker c.places_by_number.result _ _
    (λ lists e. e ∙ (ap (λ (xs : List ℕ). places_by_number xs c.count.result) same ∙ (ap (places_by_number (target_tiles g edges)) c.count.ensures ∙ in_by_tile g edges (tile_count g))))
    c.places_by_number.ensures
