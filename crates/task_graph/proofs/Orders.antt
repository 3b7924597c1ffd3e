-- Tasks stand in order.
use Rattle.std.proofs.Common.{◌≡◌, ℕ, zero, suc, ◌+◌, ◌*◌, ◌<◌, ◌≤◌, List, [], ◌∷◌, map, arith, subst, sym, ap, ◌∙◌, refl, inl, inr}
use Rattle.std.specs.List.{range_with_len}
use Rattle.std.proofs.lemmas.Bool.{cases_eq}
use Rattle.std.proofs.lemmas.List.{map-append}
use Rattle.text_base.specs.Limits.{most_cells}
use Rattle.task_graph.proofs.Climbs.{Each}
use Rattle.tile_map.specs.Tiles.{tile_count}
use Rattle.map_meaning.specs.Limits.{most_operations}
use Rattle.task_graph.specs.declared.class.Class.{Class}
use Rattle.task_graph.specs.declared.class.Class.TheVariants as class
use Rattle.task_graph.specs.declared.layout.Laid.{Laid}
use Rattle.task_graph.specs.declared.layout.Layout.{Layout}
use Rattle.task_graph.specs.declared.task.Task.{Task}
use Rattle.task_graph.specs.declared.task.Work.{Work}
use Rattle.task_graph.specs.declared.task.Work.TheVariants.{Local, Window, Near, Partial, Merge, Spread, Flow}
use Rattle.task_graph.specs.Classes.{op_class}
use Rattle.task_graph.specs.Layouts.{size_for}
use Rattle.task_graph.specs.Needs.{Entry, each_tile, entries_for, entries_from, entry_of}
use Rattle.task_graph.specs.Plans.{IsTaskBefore, rank}
use Rattle.task_graph.specs.inside.Grown.{tasks_of_entries}
use Rattle.task_graph.specs.inside.Keys.{Climbs, task_key, laid_code}
use Rattle.task_graph.proofs.Climbs.{climbs_append, climbs_lower, each_append, each_more}

-- a task of the operation at the step, of a tile that can be
pub record IsTaskFor (l : Laid) (t : Task) : Type 0 where
  pub step : t.step ≡ l.step
  pub operation : t.operation ≡ l.number
  pub tile : t.tile < most_cells

-- ---- the tasks of one operation

-- those of the tiles
tiles_for : (y : Layout) (start : ℕ) (l : Laid) (work : Work) (a n : ℕ) → a + n ≤ most_cells → Each (IsTaskFor l) (tasks_of_entries (map (entry_of y start l work) (range_with_len a n)))
tiles_for y start l work a zero few = tt
tiles_for y start l work a (suc n) few = (record { step = refl; operation = refl; tile = omega arith }, tiles_for y start l work (a + 1) n (omega arith))

tiles_climb : (y : Layout) (start : ℕ) (l : Laid) (work : Work) (a n : ℕ) → Climbs task_key ((laid_code l * 8 + rank work) * most_cells + a) (tasks_of_entries (map (entry_of y start l work) (range_with_len a n)))
tiles_climb y start l work a zero = tt
tiles_climb y start l work a (suc n) =
    (omega arith, subst (λ (b : ℕ). Climbs task_key b (tasks_of_entries (map (entry_of y start l work) (range_with_len (a + 1) n)))) (further ((laid_code l * 8 + rank work) * most_cells) a) (tiles_climb y start l work (a + 1) n))
  where
    further : (m k : ℕ) → m + (k + 1) ≡ m + k + 1
    further m k = omega arith

-- all of them
pub own_tasks : (y : Layout) (start : ℕ) (l : Laid) (c : Class) → tile_count y.tiling ≤ most_cells → Each (IsTaskFor l) (tasks_of_entries (entries_for y start l c))
own_tasks y start l class.Local few = tiles_for y start l Local 0 (tile_count y.tiling) (omega arith)
own_tasks y start l class.Window few = tiles_for y start l Window 0 (tile_count y.tiling) (omega arith)
own_tasks y start l class.Near few = tiles_for y start l Near 0 (tile_count y.tiling) (omega arith)
own_tasks y start l class.Flow few = tiles_for y start l Flow 0 (tile_count y.tiling) (omega arith)
own_tasks y start l class.Area few =
    subst (Each (IsTaskFor l)) (sym (map-append (λ (e : Entry). e.task) (each_tile y start l Partial) (entry_of y start l Merge 0 ∷ each_tile y start l Spread)))
    (each_append (IsTaskFor l) (tasks_of_entries (each_tile y start l Partial)) (tasks_of_entries (entry_of y start l Merge 0 ∷ each_tile y start l Spread))
    (tiles_for y start l Partial 0 (tile_count y.tiling) (omega arith))
    (record { step = refl; operation = refl; tile = omega arith }, tiles_for y start l Spread 0 (tile_count y.tiling) (omega arith)))

-- a bound of the numbers of tasks of one work
below_next : (y : Layout) (start : ℕ) (l : Laid) (work : Work) (a n : ℕ) → a + n ≤ most_cells → Each (λ t. task_key t < (laid_code l * 8 + rank work + 1) * most_cells) (tasks_of_entries (map (entry_of y start l work) (range_with_len a n)))
below_next y start l work a zero few = tt
below_next y start l work a (suc n) few = (omega arith, below_next y start l work (a + 1) n (omega arith))

pub own_climb : (y : Layout) (start : ℕ) (l : Laid) (c : Class) → tile_count y.tiling ≤ most_cells → Climbs task_key (laid_code l * 8 * most_cells) (tasks_of_entries (entries_for y start l c))
own_climb y start l class.Local few = climbs_lower task_key _ _ (tasks_of_entries (each_tile y start l Local)) (omega arith) (tiles_climb y start l Local 0 (tile_count y.tiling))
own_climb y start l class.Window few = climbs_lower task_key _ _ (tasks_of_entries (each_tile y start l Window)) (omega arith) (tiles_climb y start l Window 0 (tile_count y.tiling))
own_climb y start l class.Near few = climbs_lower task_key _ _ (tasks_of_entries (each_tile y start l Near)) (omega arith) (tiles_climb y start l Near 0 (tile_count y.tiling))
own_climb y start l class.Flow few = climbs_lower task_key _ _ (tasks_of_entries (each_tile y start l Flow)) (omega arith) (tiles_climb y start l Flow 0 (tile_count y.tiling))
own_climb y start l class.Area few =
    let partials = tasks_of_entries (each_tile y start l Partial) in
    let spreads = tasks_of_entries (each_tile y start l Spread) in
    subst (Climbs task_key (laid_code l * 8 * most_cells)) (sym (map-append (λ (e : Entry). e.task) (each_tile y start l Partial) (entry_of y start l Merge 0 ∷ each_tile y start l Spread)))
    (climbs_append task_key (laid_code l * 8 * most_cells) ((laid_code l * 8 + 4) * most_cells) partials (tasks_of_entries (entry_of y start l Merge 0 ∷ each_tile y start l Spread))
    (climbs_lower task_key _ _ partials (omega arith) (tiles_climb y start l Partial 0 (tile_count y.tiling)))
    (each_more (λ t. task_key t < (laid_code l * 8 + 3 + 1) * most_cells) (λ t. task_key t < (laid_code l * 8 + 4) * most_cells) (λ t less. omega arith) partials (below_next y start l Partial 0 (tile_count y.tiling) (omega arith)))
    (omega arith)
    (omega arith, climbs_lower task_key _ _ spreads (omega arith) (tiles_climb y start l Spread 0 (tile_count y.tiling))))

-- a task of an operation stands before all numbers of later operations
pub rank_few : (w : Work) → rank w ≤ 6
rank_few Local = omega arith
rank_few Window = omega arith
rank_few Near = omega arith
rank_few Partial = omega arith
rank_few Merge = omega arith
rank_few Spread = omega arith
rank_few Flow = omega arith

own_below : (l : Laid) (t : Task) → IsTaskFor l t → task_key t < (laid_code l + 1) * 8 * most_cells
own_below l t is =
    let a = is.step in
    let b = is.operation in
    let c = is.tile in
    let d = rank_few t.work in
    omega arith

-- ---- the tasks of all operations

pub all_climb : (y : Layout) (start b : ℕ) (laid : List Laid) → tile_count y.tiling ≤ most_cells → Climbs laid_code b laid → Climbs task_key (b * 8 * most_cells) (tasks_of_entries (entries_from y start laid))
all_climb y start b [] few h = tt
all_climb y start b (l ∷ more) few h =
    let own = entries_for y start l (op_class l.operation.op) in
    let next = start + size_for (tile_count y.tiling) l in
    let low = h.0 in
    subst (Climbs task_key (b * 8 * most_cells)) (sym (map-append (λ (e : Entry). e.task) own (entries_from y next more)))
    (climbs_append task_key (b * 8 * most_cells) ((laid_code l + 1) * 8 * most_cells) (tasks_of_entries own) (tasks_of_entries (entries_from y next more))
    (climbs_lower task_key (b * 8 * most_cells) (laid_code l * 8 * most_cells) (tasks_of_entries own) (omega arith) (own_climb y start l (op_class l.operation.op) few))
    (each_more (IsTaskFor l) (λ t. task_key t < (laid_code l + 1) * 8 * most_cells) (own_below l) (tasks_of_entries own) (own_tasks y start l (op_class l.operation.op) few))
    (omega arith)
    (all_climb y next (laid_code l + 1) more few h.1))

-- the number of a task's operation, and its tile, are within the limits
pub record IsWithin (t : Task) : Type 0 where
  pub operation : t.operation < most_operations
  pub tile : t.tile < most_cells

pub all_within : (y : Layout) (start : ℕ) (laid : List Laid) → tile_count y.tiling ≤ most_cells → Each (λ l. l.number < most_operations) laid → Each IsWithin (tasks_of_entries (entries_from y start laid))
all_within y start [] few each = tt
all_within y start (l ∷ more) few each =
    let own = entries_for y start l (op_class l.operation.op) in
    let next = start + size_for (tile_count y.tiling) l in
    subst (Each IsWithin) (sym (map-append (λ (e : Entry). e.task) own (entries_from y next more)))
    (each_append IsWithin (tasks_of_entries own) (tasks_of_entries (entries_from y next more))
    (each_more (IsTaskFor l) IsWithin (λ t is. record { operation = let a = is.operation in let b = each.0 in omega arith; tile = is.tile }) (tasks_of_entries own) (own_tasks y start l (op_class l.operation.op) few))
    (all_within y next more few each.1))

-- ---- two tasks

work_of : ℕ → Work
work_of zero = Local
work_of (suc zero) = Window
work_of (suc (suc zero)) = Near
work_of (suc (suc (suc zero))) = Partial
work_of (suc (suc (suc (suc zero)))) = Merge
work_of (suc (suc (suc (suc (suc zero))))) = Spread
work_of (suc (suc (suc (suc (suc (suc n)))))) = Flow

work_of-rank : (w : Work) → work_of (rank w) ≡ w
unfolding work_of
work_of-rank Local = refl
work_of-rank Window = refl
work_of-rank Near = refl
work_of-rank Partial = refl
work_of-rank Merge = refl
work_of-rank Spread = refl
work_of-rank Flow = refl

pub same_work : (v w : Work) → rank v ≡ rank w → v ≡ w
same_work v w e = sym (work_of-rank v) ∙ (ap work_of e ∙ work_of-rank w)

-- by their numbers two tasks stand in order
pub is_task_before : (a b : Task) → IsWithin a → IsWithin b → task_key a < task_key b → IsTaskBefore a b
is_task_before a b wa wb less =
    let oa = wa.operation in
    let ob = wb.operation in
    let ta = wa.tile in
    let tb = wb.tile in
    let ra = rank_few a.work in
    let rb = rank_few b.work in
    elim (cases_eq a.step b.step) as (λ _. IsTaskBefore a b) [
      | inl step ↦ elim (cases_eq a.operation b.operation) as (λ _. IsTaskBefore a b) [
        | inl operation ↦ elim (cases_eq (rank a.work) (rank b.work)) as (λ _. IsTaskBefore a b) [
          | inl work ↦ inr ((step, operation), inr (same_work a.work b.work work, omega arith))
          | inr other ↦ inr ((step, operation), inl (omega (arith, other)))
        ]
        | inr other ↦ inl (inr (step, omega (arith, other)))
      ]
      | inr other ↦ inl (inl (omega (arith, other)))
    ]
