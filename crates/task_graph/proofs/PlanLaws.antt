-- The laws of plans.
use Rattle.std.proofs.Common.{◌≡◌, ℕ, zero, suc, ◌+◌, ◌-◌, ◌<◌, ◌≤◌, List, [], ◌∷◌, length, get_or, refl, sym, ap, subst, ◌∙◌, arith, inl, inr}
use Rattle.std.proofs.lemmas.List.{length-map}
use Rattle.task_graph.proofs.Climbs.{Each}
use Rattle.tile_map.specs.declared.tiling.Tiling.{Tiling}
use Rattle.tile_map.specs.Tiles.{tile_count}
use Rattle.tile_map.proofs.TileLemmas.{count_few}
use Rattle.map_meaning.specs.Limits.{most_block, most_operations}
use Rattle.map_meaning.specs.Programs.{IsWellFormed}
use Rattle.map_meaning.specs.Spans.{IsSpan}
use Rattle.map_meaning.specs.declared.known.Span.{Span}
use Rattle.map_meaning.specs.declared.program.Program.{Program}
use Rattle.task_graph.specs.declared.task.Task.{Task}
use Rattle.task_graph.specs.declared.task.Work.TheVariants.{Flow}
use Rattle.task_graph.specs.Layouts.{laid_in, layout_of}
use Rattle.task_graph.specs.Needs.{Entry}
use Rattle.task_graph.specs.Plans.{AreOfOne, CountTasks, IsNeedOf, IsOfLower, PlanValue, ReadEarlier, ReadLower, StandInOrder, IsTaskBefore, entries_of, needs_at, no_task, span_plan, rank, task_at}
use Rattle.task_graph.specs.inside.Grown.{needs_of_entries, tasks_of_entries}
use Rattle.task_graph.specs.inside.Keys.{Climbs, task_key}
use Rattle.task_graph.proofs.Climbs.{climbs_between, each_all, each_at, each_more, each_of}
use Rattle.task_graph.proofs.Low.{AreLow, length-entries_from, low_from}
use Rattle.task_graph.proofs.Orders.{IsWithin, all_climb, all_within, rank_few, is_task_before}
use Rattle.task_graph.proofs.Spans.{IsLaidWithin, are_laid, tasks_in-laid_in}

-- ---- what all plans have

-- what holds of a plan, in numbers
pub record IsOrdered (plan : PlanValue) : Type 0 where
  pub climbs : Climbs task_key 0 plan.tasks
  pub within : Each IsWithin plan.tasks
  pub as_many : length plan.needs ≡ length plan.tasks
  pub lower : (t : ℕ) → t < length plan.tasks → Each (λ n. n < t) (needs_at plan t)
  pub flow : (t : ℕ) → t < length plan.tasks → (task_at plan t).work ≡ Flow → Each (λ n. n + (task_at plan t).tile < t) (needs_at plan t)

low_at : (n : ℕ) (es : List Entry) (t : ℕ) → AreLow n es → t < length es →
    Each (λ need. need < n + t) (get_or (needs_of_entries es) t [])
    × ((get_or (tasks_of_entries es) t no_task).work ≡ Flow → Each (λ need. need + (get_or (tasks_of_entries es) t no_task).tile < n + t) (get_or (needs_of_entries es) t []))
low_at n [] t low below = absurd (omega arith)
low_at n (e ∷ es) zero low below = (
  subst (λ (m : ℕ). Each (λ need. need < m) e.needs) (none n) low.0.lower,
  λ is. subst (λ (m : ℕ). Each (λ need. need + e.task.tile < m) e.needs) (none n) (low.0.flow is),
)
  where
    none : (k : ℕ) → k ≡ k + 0
    none k = omega arith
low_at n (e ∷ es) (suc t) low below =
    let later = low_at (suc n) es t low.1 (omega arith) in (
      subst (λ (m : ℕ). Each (λ need. need < m) (get_or (needs_of_entries es) t [])) (further n t) later.0,
      λ is. subst (λ (m : ℕ). Each (λ need. need + (get_or (tasks_of_entries es) t no_task).tile < m) (get_or (needs_of_entries es) t [])) (further n t) (later.1 is),
    )
  where
    further : (k j : ℕ) → suc k + j ≡ k + suc j
    further k j = omega arith

pub is_ordered : (program : Program) (s : Span) (g : Tiling) → IsWellFormed program → IsSpan program s most_block → IsOrdered (span_plan program s g)
unfolding span_plan
is_ordered program s g well is =
    let y = layout_of program s g in
    let laid = laid_in program s in
    let es = entries_of program s g in
    let are = are_laid program s g well is in
    let few = count_few g in
    let low : AreLow 0 es = low_from y 0 0 laid refl (λ place below. absurd (omega arith)) are.before in
    let tasks : length (tasks_of_entries es) ≡ length es = length-map es (λ (e : Entry). e.task) in
    let needs : length (needs_of_entries es) ≡ length es = length-map es (λ (e : Entry). e.needs) in
    record {
      climbs = all_climb y 0 0 laid few are.climbs;
      within = all_within y 0 laid few (each_more IsLaidWithin (λ l. l.number < most_operations) (λ l within. within.number) laid are.within);
      as_many = needs ∙ sym tasks;
      lower = λ t below. subst (λ (m : ℕ). Each (λ need. need < m) (get_or (needs_of_entries es) t [])) (zero_plus t) (low_at 0 es t low (omega arith)).0;
      flow = λ t below work. subst (λ (m : ℕ). Each (λ need. need + (get_or (tasks_of_entries es) t no_task).tile < m) (get_or (needs_of_entries es) t [])) (zero_plus t) ((low_at 0 es t low (omega arith)).1 work);
    }
  where
    zero_plus : (k : ℕ) → 0 + k ≡ k
    zero_plus k = omega arith

-- ---- order

-- tasks ascend by their keys
pub keys_ascend : (plan : PlanValue) → IsOrdered plan → (t u : ℕ) → t ≤ u → u < length plan.tasks → task_key (task_at plan t) + (u - t) ≤ task_key (task_at plan u)
keys_ascend plan is t u less below =
    subst (λ (m : ℕ). task_key (task_at plan t) + (u - t) ≤ task_key (task_at plan m)) (back t u less) (climbs_between task_key 0 plan.tasks t (u - t) no_task is.climbs (omega arith))
  where
    back : (m n : ℕ) → m ≤ n → m + (n - m) ≡ n
    back m n h = omega arith

pub in_order : (plan : PlanValue) → IsOrdered plan → (t u : ℕ) → t < u → u < length plan.tasks → IsTaskBefore (task_at plan t) (task_at plan u)
in_order plan is t u less below =
    is_task_before (task_at plan t) (task_at plan u) (each_at IsWithin plan.tasks t no_task is.within (omega arith)) (each_at IsWithin plan.tasks u no_task is.within below)
    (let h = keys_ascend plan is t u (omega arith) below in omega arith)

-- ---- needs

-- a need of a transport's task is no task of the same transport
no_flow : (a b : Task) (n t : ℕ) → AreOfOne a b → a.work ≡ Flow → b.work ≡ Flow → task_key a + (t - n) ≤ task_key b → n + b.tile < t → ⊥
no_flow a b n t one wa wb less low =
    let step = one.0 in
    let operation = one.1 in
    let ra : rank a.work ≡ 6 = ap rank wa in
    let rb : rank b.work ≡ 6 = ap rank wb in
    omega arith

-- the last work of an operation is the transport's
last_work : (a b : Task) → a.work ≡ Flow → IsOfLower a b → b.work ≡ Flow
last_work a b is (inl less) = let r = rank_few b.work in let ra : rank a.work ≡ 6 = ap rank is in absurd (omega arith)
last_work a b is (inr same) = sym same.0 ∙ is

pub need_of : (plan : PlanValue) → IsOrdered plan → (t : ℕ) → t < length plan.tasks → (i : ℕ) → i < length (needs_at plan t) → IsNeedOf (task_at plan (get_or (needs_at plan t) i 0)) (task_at plan t)
need_of plan is t below i less =
    let n = get_or (needs_at plan t) i 0 in
    let lower : n < t = each_at (λ m. m < t) (needs_at plan t) i 0 (is.lower t below) less in
    of (in_order plan is n t lower below) n refl lower
  where
    of : IsTaskBefore (task_at plan (get_or (needs_at plan t) i 0)) (task_at plan t) → (n : ℕ) → n ≡ get_or (needs_at plan t) i 0 → n < t → IsNeedOf (task_at plan (get_or (needs_at plan t) i 0)) (task_at plan t)
    of (inl earlier) n e lower = inl earlier
    of (inr own) n e lower = inr (
      own.0,
      λ flow.
          let last : (task_at plan t).work ≡ Flow = last_work (task_at plan (get_or (needs_at plan t) i 0)) (task_at plan t) flow own.1 in
          let m = get_or (needs_at plan t) i 0 in
          let under : m + (task_at plan t).tile < t = each_at (λ k. k + (task_at plan t).tile < t) (needs_at plan t) i 0 (is.flow t below last) less in
          no_flow (task_at plan m) (task_at plan t) m t own.0 flow last (keys_ascend plan is m t (omega arith) below) under,
    )

-- ---- the laws

pub count_tasks : CountTasks
unfolding span_plan
count_tasks program s g =
    let es = entries_of program s g in
    let all : length es ≡ _ = length-entries_from (layout_of program s g) 0 (laid_in program s) ∙ tasks_in-laid_in (tile_count g) program s in
    (length-map es (λ (e : Entry). e.task) ∙ all, length-map es (λ (e : Entry). e.needs) ∙ all)

pub stand_in_order : StandInOrder
stand_in_order program s g well is t u less below = in_order (span_plan program s g) (is_ordered program s g well is) t u less below

pub read_lower : ReadLower
read_lower program s g well is t below = each_all (λ n. n < t) (needs_at (span_plan program s g) t) ((is_ordered program s g well is).lower t below)

pub read_earlier : ReadEarlier
read_earlier program s g well is t below =
    let plan = span_plan program s g in
    each_all (λ n. IsNeedOf (task_at plan n) (task_at plan t)) (needs_at plan t)
    (each_of (λ n. IsNeedOf (task_at plan n) (task_at plan t)) (needs_at plan t) 0 (need_of plan (is_ordered program s g well is) t below))
