-- Tasks that are drawn one after another.
use Rattle.std.proofs.Common.{◌≡◌, ◌∙◌, ℕ, ◌+◌, ◌≤◌, List, [], ◌∷◌, ◌++◌, length, map, sym, ap, subst, arith, append_assoc, append-nil}
use Rattle.std.specs.List.{range_with_len}
use Rattle.std.proofs.lemmas.List.{map-append}
use Rattle.std.proofs.lemmas.List.FromFn.{map-range_with_len_more}
use Rattle.number_lists.specs.Lists.{numbers_in}
use Rattle.number_lists.proofs.Callers.{numbers_more}
use Rattle.tile_map.specs.Tiles.{tile_count}
use Rattle.task_graph.specs.declared.build.Drawn.{Drawn}
use Rattle.task_graph.specs.declared.class.Class.TheVariants as C
use Rattle.task_graph.specs.declared.layout.Laid.{Laid}
use Rattle.task_graph.specs.declared.layout.Layout.{Layout}
use Rattle.task_graph.specs.declared.task.Work.TheVariants.{Partial, Merge, Spread}
use Rattle.task_graph.specs.Classes.{op_class}
use Rattle.task_graph.specs.Layouts.{size_for}
use Rattle.task_graph.specs.Limits.{most_needs}
use Rattle.task_graph.specs.Needs.{Entry, each_tile, entries_for, entries_from, entry_of}
use Rattle.task_graph.specs.inside.Grown.{Grown, CanLay, CanLayAll, IsDrawn, IsOnWay}

-- one more list leaves few numbers, where there was room for it
pub few_more : (before after : List (List ℕ)) (xs : List ℕ) → after ≡ before ++ xs ∷ [] → numbers_in before + length xs ≤ most_needs → numbers_in after ≤ most_needs
few_more before after xs e room = let more : numbers_in after ≡ numbers_in before + length xs = ap numbers_in e ∙ numbers_more before xs in omega arith

pub grown_none : (p : Drawn) → Grown p p []
grown_none p = record { tasks = sym (append-nil p.tasks); needs = sym (append-nil p.needs); few = λ few. few }

pub grown_both : (p q r : Drawn) (xs ys : List Entry) → Grown p q xs → Grown q r ys → Grown p r (xs ++ ys)
grown_both p q r xs ys a b = record {
  tasks = b.tasks ∙ (ap (λ ts. ts ++ map (λ (e : Entry). e.task) ys) a.tasks ∙ (append_assoc p.tasks (map (λ (e : Entry). e.task) xs) (map (λ (e : Entry). e.task) ys) ∙ ap (λ ts. p.tasks ++ ts) (sym (map-append (λ (e : Entry). e.task) xs ys))));
  needs = b.needs ∙ (ap (λ ts. ts ++ map (λ (e : Entry). e.needs) ys) a.needs ∙ (append_assoc p.needs (map (λ (e : Entry). e.needs) xs) (map (λ (e : Entry). e.needs) ys) ∙ ap (λ ts. p.needs ++ ts) (sym (map-append (λ (e : Entry). e.needs) xs ys))));
  few = λ few. b.few (a.few few);
}

-- one more tile
pub grown_tile : (p q r : Drawn) (f : ℕ → Entry) (n : ℕ) → Grown p q (map f (range_with_len 0 n)) → Grown q r (f n ∷ []) → Grown p r (map f (range_with_len 0 (n + 1)))
grown_tile p q r f n a b = subst (λ (es : List Entry). Grown p r es) (sym (map-range_with_len_more f 0 n n (omega arith))) (grown_both p q r (map f (range_with_len 0 n)) (f n ∷ []) a b)

pub grown_area : (p q r s : Drawn) (y : Layout) (start : ℕ) (l : Laid) → Grown p q (each_tile y start l Partial) → Grown q r (entry_of y start l Merge 0 ∷ []) → Grown r s (each_tile y start l Spread) → Grown p s (entries_for y start l C.Area)
grown_area p q r s y start l a b c = grown_both p q s (each_tile y start l Partial) (entry_of y start l Merge 0 ∷ each_tile y start l Spread) a (grown_both q r s (entry_of y start l Merge 0 ∷ []) (each_tile y start l Spread) b c)

pub on_way_more : (p q : Drawn) (xs ys all : List Entry) → IsOnWay p (xs ++ ys) all → Grown p q xs → IsOnWay q ys all
on_way_more p q xs ys all way g = record {
  tasks = ap (λ ts. ts ++ map (λ (e : Entry). e.task) ys) g.tasks ∙ (append_assoc p.tasks (map (λ (e : Entry). e.task) xs) (map (λ (e : Entry). e.task) ys) ∙ (ap (λ ts. p.tasks ++ ts) (sym (map-append (λ (e : Entry). e.task) xs ys)) ∙ way.tasks));
  needs = ap (λ ts. ts ++ map (λ (e : Entry). e.needs) ys) g.needs ∙ (append_assoc p.needs (map (λ (e : Entry). e.needs) xs) (map (λ (e : Entry). e.needs) ys) ∙ (ap (λ ts. p.needs ++ ts) (sym (map-append (λ (e : Entry). e.needs) xs ys)) ∙ way.needs));
  few = g.few way.few;
}

pub on_way_end : (y : Layout) (start : ℕ) (laid : List Laid) (p : Drawn) (rest : List Laid) → rest ≡ [] → IsOnWay p (entries_from y start rest) (entries_from y 0 laid) → IsDrawn p (entries_from y 0 laid)
on_way_end y start laid p rest none way =
    let w = subst (λ (ls : List Laid). IsOnWay p (entries_from y start ls) (entries_from y 0 laid)) none way in
    record { tasks = sym (append-nil p.tasks) ∙ w.tasks; needs = sym (append-nil p.needs) ∙ w.needs; few = w.few }

-- the operation in front is done
pub on_way_front : (y : Layout) (start : ℕ) (all : List Entry) (p q : Drawn) (rest more : List Laid) (l : Laid) → rest ≡ l ∷ more → IsOnWay p (entries_from y start rest) all →
    Grown p q (entries_for y start l (op_class l.operation.op)) → IsOnWay q (entries_from y (start + size_for (tile_count y.tiling) l) more) all
on_way_front y start all p q rest more l front way g =
    on_way_more p q (entries_for y start l (op_class l.operation.op)) (entries_from y (start + size_for (tile_count y.tiling) l) more) all
    (subst (λ (ls : List Laid). IsOnWay p (entries_from y start ls) all) front way) g

pub can_front : (y : Layout) (start : ℕ) (rest more : List Laid) (l : Laid) → rest ≡ l ∷ more → CanLayAll y start rest → CanLay y start l × CanLayAll y (start + size_for (tile_count y.tiling) l) more
can_front y start rest more l front can = subst (CanLayAll y start) front can
