-- Areas, and the whole map.
use Rattle.std.proofs.Common.{◌≡◌, ℕ, zero, suc, ◌*◌, ◌<◌, List, ◌++◌, map, refl, sym, ap, subst, ◌∙◌, arith}
use Rattle.std.specs.Prelude.{Some}
use Rattle.std.specs.List.{range_with_len}
use Rattle.std.specs.List.Sorted.{IsPermutation}
use Rattle.std.proofs.lemmas.List.{map-append, same_lists}
use Rattle.std.proofs.lemmas.List.FromFn.{get_or-map-range_with_len, length-map-range_with_len}
use Rattle.std.proofs.lemmas.List.Sorted.{IsPermutation-map}
use Rattle.cell_values.specs.declared.cell.Cell.{Cell}
use Rattle.tile_map.specs.declared.tiling.Tiling.{Tiling}
use Rattle.tile_map.specs.Parts.{tabulate}
use Rattle.tile_map.specs.Rects.{places_of}
use Rattle.tile_map.specs.Tiles.{rect_of, tile_count}
use Rattle.tile_map.proofs.PartLemmas.{get_or-tabulate, length-tabulate}
use Rattle.region_meaning.specs.declared.area.AreaOp.{AreaOp}
use Rattle.region_meaning.specs.declared.area.AreaOp.TheVariants as area
use Rattle.region_meaning.specs.AreaResults.{area_outcome}
use Rattle.region_meaning.specs.Areas.{AreaPlace}
use Rattle.area_ops.specs.Laws.{OrderDoesNotMatter}
use Rattle.map_meaning.specs.Maps.{CellAt}
use Rattle.map_meaning.specs.Rules.{Rule, Zonal, ZoneSize, Global, Setting, by_rule, rule_of, setting_places, zone_places}
use Rattle.tile_cuts.specs.TileParts.{tile_places}
use Rattle.tile_cuts.proofs.PlaceLemmas.{hold_once}
use Rattle.task_laws.specs.Laws.{LookAtAllTiles}
use Rattle.task_laws.specs.Zones.{area_op_of, zone_classes, tile_zones, zone_values, zone_at, zones_in}

-- the zones of tiles are those of their places
zones_of_places : (g : Tiling) (values classes : CellAt) (tiles : ℕ) → tile_zones g values classes tiles ≡ map (zone_at values classes) (tile_places g tiles)
zones_of_places g values classes zero = refl
zones_of_places g values classes (suc tile) =
    ap (λ (xs : List AreaPlace). xs ++ zones_in g.cols (rect_of g tile) values classes) (zones_of_places g values classes tile)
    ∙ sym (map-append (zone_at values classes) (tile_places g tile) (places_of g.cols (rect_of g tile)))

-- a table is the map of a function over all places
tabulate-map : {A : Type 0} (f : ℕ → A) (n : ℕ) → tabulate f n ≡ map f (range_with_len 0 n)
tabulate-map f n =
    same_lists (tabulate f n) (map f (range_with_len 0 n)) (length-tabulate f n ∙ sym (length-map-range_with_len f 0 n))
    (λ k d less.
    let below : k < n = subst (λ (m : ℕ). k < m) (length-tabulate f n) less in
    get_or-tabulate f n k d below ∙ sym (get_or-map-range_with_len f 0 n k k d below (omega arith)))

-- the zones of all tiles are those of the map
zones_moved : (g : Tiling) (values classes : CellAt) → IsPermutation (tabulate (zone_at values classes) (g.rows * g.cols)) (tile_zones g values classes (tile_count g))
zones_moved g values classes =
    let f = zone_at values classes in
    let n : ℕ = g.rows * g.cols in
    subst (λ (xs : List AreaPlace). IsPermutation xs (tile_zones g values classes (tile_count g))) (sym (tabulate-map f n))
    (subst (λ (ys : List AreaPlace). IsPermutation (map f (range_with_len 0 n)) ys) (sym (zones_of_places g values classes (tile_count g)))
    (IsPermutation-map f (range_with_len 0 n) (tile_places g (tile_count g)) (hold_once g)))

-- a map has as many places as its tiling
same_count : (g : Tiling) (setting : Setting) → g.rows ≡ setting.rows → g.cols ≡ setting.cols → g.rows * g.cols ≡ setting_places setting
same_count g setting rows cols = ap (λ (n : ℕ). n * g.cols) rows ∙ ap (λ (n : ℕ). setting.rows * n) cols

-- the outcome of an area is that of all tiles
moved_outcome : OrderDoesNotMatter → (a : AreaOp) (setting : Setting) (g : Tiling) (values classes : CellAt) (class : Cell) → g.rows ≡ setting.rows → g.cols ≡ setting.cols →
    area_outcome a (zone_places setting values classes) class ≡ area_outcome a (tile_zones g values classes (tile_count g)) class
moved_outcome order a setting g values classes class rows cols =
    ap (λ (n : ℕ). area_outcome a (tabulate (zone_at values classes) n) class) (sym (same_count g setting rows cols))
    ∙ (order (tabulate (zone_at values classes) (g.rows * g.cols)) (tile_zones g values classes (tile_count g)) (zones_moved g values classes)).0 a class

-- by the rule
by_tiles : OrderDoesNotMatter → (q : Rule) (a : AreaOp) (setting : Setting) (operands : List CellAt) (g : Tiling) (place : ℕ) → area_op_of q ≡ Some a → g.rows ≡ setting.rows → g.cols ≡ setting.cols →
    by_rule q setting operands place ≡ area_outcome a (tile_zones g (zone_values q operands) (zone_classes q operands) (tile_count g)) (zone_classes q operands place)
by_tiles order (Zonal b) a setting operands g place is rows cols =
    let same : b ≡ a = cc in
    ap (λ (x : AreaOp). by_rule (Zonal x) setting operands place) same ∙ moved_outcome order a setting g (zone_values (Zonal b) operands) (zone_classes (Zonal b) operands) (zone_classes (Zonal b) operands place) rows cols
by_tiles order ZoneSize a setting operands g place is rows cols =
    let values = zone_values ZoneSize operands in
    let classes = zone_classes ZoneSize operands in
    let same : area.Area ≡ a = cc in
    ap (λ (x : AreaOp). area_outcome x (zone_places setting values classes) (classes place)) same ∙ moved_outcome order a setting g values classes (classes place) rows cols
by_tiles order (Global b) a setting operands g place is rows cols =
    let same : b ≡ a = cc in
    ap (λ (x : AreaOp). by_rule (Global x) setting operands place) same ∙ moved_outcome order a setting g (zone_values (Global b) operands) (zone_classes (Global b) operands) (zone_classes (Global b) operands place) rows cols
by_tiles order q a setting operands g place is rows cols = absurd (cc)

pub look_at_all : OrderDoesNotMatter → LookAtAllTiles
look_at_all order o a setting operands g place is rows cols = by_tiles order (rule_of o) a setting operands g place is rows cols
