-- Partials of tiles.
use Rattle.std.proofs.Common.{◌≡◌, ℕ, zero, suc, ◌+◌, ◌*◌, ◌<◌, ◌≤◌, List, [], ◌++◌, length, get_or, map, refl, sym, ap, subst, ◌∙◌, arith}
use Rattle.std.specs.Prelude.{None, ◌-◌}
use Rattle.std.specs.List.{range_with_len}
use Rattle.std.proofs.lemmas.List.{get_or-map, length-append, length-map, same_lists}
use Rattle.std.proofs.lemmas.List.FromFn.{length-range_with_len}
use Rattle.std.proofs.lemmas.List.Sorted.{length_permutation}
use Rattle.text_base.specs.Limits.{most_cells}
use Rattle.tile_map.specs.declared.rect.Rect.{Rect}
use Rattle.tile_map.specs.declared.tiling.Tiling.{Tiling}
use Rattle.tile_map.specs.Parts.{part_of, tabulate}
use Rattle.tile_map.specs.Rects.{cell_count, place_in, places_of}
use Rattle.tile_map.specs.Tiles.{rect_of, tile_count}
use Rattle.tile_map.proofs.CutLemmas.{get_or-over, length-over}
use Rattle.tile_map.proofs.PartLemmas.{get_or-tabulate, length-tabulate}
use Rattle.region_meaning.specs.declared.area.AreaOp.{AreaOp}
use Rattle.region_meaning.specs.AreaResults.{area_outcome}
use Rattle.region_meaning.specs.Areas.{AreaPlace}
use Rattle.area_ops.specs.Partials.{PartialValue, StandsFor}
use Rattle.tile_map.proofs.Callers.{part_of-same}
use Rattle.map_meaning.specs.Maps.{CellAt}
use Rattle.task_laws.specs.Zones.{tile_zones, zone_at, zones_in}
use Rattle.tile_cuts.specs.TileParts.{part_in, tile_places}
use Rattle.tile_cuts.proofs.PlaceLemmas.{hold_once}
use Rattle.task_tiles.specs.declared.tile.Tile.{Tile}
use Rattle.task_tiles.specs.declared.tile.Tile.TheVariants.{Part, Partial}
use Rattle.tile_tasks.specs.inside.Areas.{ArePartials, HasOp, IsMerging, SomeMaps, many_in}
use Rattle.tile_tasks.specs.inside.Tiles.{IsPartialFor, tile_handed}

-- the places of a tile by the numbers of its cells
pub zones_tabulated : (cols : ℕ) (r : Rect) (f h a b : CellAt) (n : ℕ) → n ≡ cell_count r → ((i : ℕ) → i < cell_count r → a i ≡ f (place_in cols r i)) → ((i : ℕ) → i < cell_count r → b i ≡ h (place_in cols r i)) →
    tabulate (zone_at a b) n ≡ zones_in cols r f h
zones_tabulated cols r f h a b n size same_a same_b =
    let long : length (tabulate (zone_at a b) n) ≡ cell_count r = length-tabulate (zone_at a b) n ∙ size in
    same_lists (tabulate (zone_at a b) n) (zones_in cols r f h) (long ∙ sym (length-over cols r (zone_at f h))) (λ k d less.
    let below : k < cell_count r = subst (λ (m : ℕ). k < m) long less in
    get_or-tabulate (zone_at a b) n k d (omega (arith, size, below))
    ∙ (ap (λ x. let p : AreaPlace = record { value = x; area = b k } in p) (same_a k below)
    ∙ (ap (λ x. let p : AreaPlace = record { value = f (place_in cols r k); area = x } in p) (same_b k below)
    ∙ sym (get_or-over cols r (zone_at f h) k d below))))

-- how many places the first tiles have
zones_count : (g : Tiling) (f h : CellAt) (n : ℕ) → length (tile_zones g f h n) ≡ length (tile_places g n)
zones_count g f h zero = refl
zones_count g f h (suc n) =
    length-append (tile_zones g f h n) (zones_in g.cols (rect_of g n) f h)
    ∙ (ap (λ (k : ℕ). k + length (zones_in g.cols (rect_of g n) f h)) (zones_count g f h n)
    ∙ (ap (λ (k : ℕ). length (tile_places g n) + k) (length-map (places_of g.cols (rect_of g n)) (zone_at f h))
    ∙ sym (length-append (tile_places g n) (places_of g.cols (rect_of g n)))))

places_grow : (g : Tiling) (n k : ℕ) → length (tile_places g n) ≤ length (tile_places g (k + n))
places_grow g n zero = let e : 0 + n ≡ n = omega arith in subst (λ (m : ℕ). length (tile_places g n) ≤ length (tile_places g m)) (sym e) (omega arith)
places_grow g n (suc k) =
    let e : suc k + n ≡ suc (k + n) = omega arith in
    let rest = places_grow g n k in
    let more = length-append (tile_places g (k + n)) (places_of g.cols (rect_of g (k + n))) in
    subst (λ (m : ℕ). length (tile_places g n) ≤ length (tile_places g m)) (sym e) (omega (arith, rest, more))

-- the first tiles have no more places than the map
pub zones_few : (g : Tiling) (f h : CellAt) (n : ℕ) → n ≤ tile_count g → length (tile_zones g f h n) ≤ most_cells
zones_few g f h n upto =
    let all = length_permutation (range_with_len 0 (g.rows * g.cols)) (tile_places g (tile_count g)) (hold_once g) ∙ length-range_with_len 0 (g.rows * g.cols) in
    let rest : tile_count g - n + n ≡ tile_count g = omega arith in
    let grows : length (tile_places g n) ≤ length (tile_places g (tile_count g)) = subst (λ (m : ℕ). length (tile_places g n) ≤ length (tile_places g m)) rest (places_grow g n (tile_count g - n)) in
    let few = g.sides.few_cells in
    omega (arith, zones_count g f h n, all, grows, few)

-- ---- tiles that are partials

pub has_op : (a b : AreaOp) (places : List AreaPlace) (t : Tile) → b ≡ a → IsPartialFor a places t → HasOp b t
has_op a b places (Part p) same is = is
has_op a b places (Partial v) same is = same ∙ sym is.0

pub many_is : (a : AreaOp) (places : List AreaPlace) (t : Tile) → IsPartialFor a places t → many_in t ≡ length places
many_is a places (Part p) is = absurd is
many_is a places (Partial v) is = is.1.cells

pub as_op : (a b : AreaOp) (places : List AreaPlace) (t : Tile) → b ≡ a → IsPartialFor a places t → IsPartialFor b places t
as_op a b places t same is = subst (λ (x : AreaOp). IsPartialFor x places t) (sym same) is

-- an item of a list of tiles
pub item_at : {A : Type 0} (f : A → Tile) (xs : List A) (i : ℕ) (x : A) → x ≡ get_or xs i x → i < length xs → tile_handed (map f xs) i ≡ f x
item_at f xs i x is below = get_or-map f xs i x (Part (record { cells = []; over = None })) below ∙ ap f (sym is)

-- one more tile
pub next_zones : (g : Tiling) (f h : CellAt) (n : ℕ) → tile_zones g f h n ++ zones_in g.cols (rect_of g n) f h ≡ tile_zones g f h (n + 1)
next_zones g f h n = let e : n + 1 ≡ suc n = omega arith in ap (tile_zones g f h) (sym e)

-- what a tile gets of the areas
pub spread_same : (a : AreaOp) (cols : ℕ) (r : Rect) (zones : List AreaPlace) (h b : CellAt) (n : ℕ) → n ≡ cell_count r → ((i : ℕ) → i < cell_count r → b i ≡ h (place_in cols r i)) →
    part_of (λ i. area_outcome a zones (b i)) n ≡ part_in cols r (λ place. area_outcome a zones (h place))
unfolding part_in
spread_same a cols r zones h b n size same =
    ap (part_of (λ i. area_outcome a zones (b i))) size
    ∙ part_of-same (λ i. area_outcome a zones (b i)) (λ i. area_outcome a zones (h (place_in cols r i))) (cell_count r) (λ i below. ap (area_outcome a zones) (same i below))

-- ---- a partial that takes in the tiles one by one

-- the next tile is a partial of its places
next_tile : (a : AreaOp) (g : Tiling) (ts : List Tile) (i : ℕ) (t : Tile) (f h : CellAt) → ArePartials a g ts f h → i < length ts → t ≡ tile_handed ts i → IsPartialFor a (zones_in g.cols (rect_of g i) f h) t
next_tile a g ts i t f h are below is =
    let count : length ts ≡ tile_count g = are.count in
    subst (λ (x : Tile). IsPartialFor a (zones_in g.cols (rect_of g i) f h) x) (sym is) (are.each i (omega arith))

pub merging_op : (a : AreaOp) (g : Tiling) (ts : List Tile) (i : ℕ) (total : PartialValue) (t : Tile) → IsMerging a g ts i total → SomeMaps (ArePartials a g ts) → i < length ts → t ≡ tile_handed ts i → HasOp total.op t
merging_op a g ts i total t merging maps below is =
    has_op a total.op (zones_in g.cols (rect_of g i) maps.0 maps.1) t merging.op (next_tile a g ts i t maps.0 maps.1 maps.2 below is)

pub merging_few : (a : AreaOp) (g : Tiling) (ts : List Tile) (i : ℕ) (total : PartialValue) (t : Tile) → IsMerging a g ts i total → SomeMaps (ArePartials a g ts) → i < length ts → t ≡ tile_handed ts i → total.cells + many_in t ≤ most_cells
merging_few a g ts i total t merging maps below is =
    let f = maps.0 in
    let h = maps.1 in
    let zones = zones_in g.cols (rect_of g i) f h in
    let before : total.cells ≡ length (tile_zones g f h i) = (merging.stands f h maps.2).cells in
    let more : many_in t ≡ length zones = many_is a zones t (next_tile a g ts i t f h maps.2 below is) in
    let both : length (tile_zones g f h i ++ zones) ≡ length (tile_zones g f h i) + length zones = length-append (tile_zones g f h i) zones in
    let all : length (tile_zones g f h i ++ zones) ≡ length (tile_zones g f h (i + 1)) = ap length (next_zones g f h i) in
    let count : length ts ≡ tile_count g = maps.2.count in
    let few : length (tile_zones g f h (i + 1)) ≤ most_cells = zones_few g f h (i + 1) (omega arith) in
    omega (arith, before, more, both, all, few)

pub merging_more : (a : AreaOp) (g : Tiling) (ts : List Tile) (i : ℕ) (total next : PartialValue) (t : Tile) → IsMerging a g ts i total → i < length ts → t ≡ tile_handed ts i → next.op ≡ total.op →
    ((xs ys : List AreaPlace) → StandsFor total xs → IsPartialFor total.op ys t → StandsFor next (xs ++ ys)) → IsMerging a g ts (i + 1) next
merging_more a g ts i total next t merging below is same takes = record {
  op = same ∙ merging.op;
  stands = λ f h are.
      let zones = zones_in g.cols (rect_of g i) f h in
      subst (λ (xs : List AreaPlace). StandsFor next xs) (next_zones g f h i)
      (takes (tile_zones g f h i) zones (merging.stands f h are) (as_op a total.op zones t merging.op (next_tile a g ts i t f h are below is)));
}

pub merging_all : (a : AreaOp) (g : Tiling) (ts : List Tile) (i : ℕ) (total : PartialValue) → IsMerging a g ts i total → i ≡ length ts → (f h : CellAt) → ArePartials a g ts f h → StandsFor total (tile_zones g f h (tile_count g))
merging_all a g ts i total merging end f h are =
    subst (λ (n : ℕ). StandsFor total (tile_zones g f h n)) (end ∙ are.count) (merging.stands f h are)
