-- The operations of a span at its steps, and the tasks of their values.
use Rattle.std.proofs.Common.{◌≡◌, ℕ, zero, suc, ◌+◌, ◌-◌, ◌<◌, ◌≤◌, List, [], ◌∷◌, ◌++◌, drop, get_or, length, map, take, Some, slice_get, slice_range}
use Rattle.std.proofs.Common.{refl, sym, ap, ◌∙◌, subst, arith, inl, inr}
use Rattle.std.specs.List.{flat_map, range_with_len}
use Rattle.std.proofs.lemmas.Bool.{cases_eq, cases_lt}
use Rattle.std.proofs.lemmas.List.{append_assoc, append-nil, get_or-drop, get_or-map, get_or-take, length-append, length-drop, length-map, length-take}
use Rattle.std.proofs.lemmas.Option.{get_or_from_slice_get, slice_get-get_or, slice_get_within}
use Rattle.tile_map.specs.declared.tiling.Tiling.{Tiling}
use Rattle.tile_map.specs.Tiles.{tile_count}
use Rattle.map_meaning.specs.declared.known.Span.{Span}
use Rattle.map_meaning.specs.declared.known.Span.TheVariants as span
use Rattle.map_meaning.specs.declared.program.Operation.{Operation}
use Rattle.map_meaning.specs.declared.program.Program.{Program}
use Rattle.map_meaning.specs.Spans.{first_operation, span_operations}
use Rattle.task_graph.specs.declared.class.Class.{Class}
use Rattle.task_graph.specs.declared.class.Class.TheVariants as class
use Rattle.task_graph.specs.declared.layout.Laid.{Laid}
use Rattle.task_graph.specs.declared.layout.Layout.{Layout}
use Rattle.task_graph.specs.declared.task.Task.{Task}
use Rattle.task_graph.specs.declared.task.Work.{Work}
use Rattle.task_graph.specs.declared.task.Work.TheVariants.{Local, Window, Near, Partial, Merge, Spread, Flow}
use Rattle.task_graph.specs.Classes.{before_value, op_class}
use Rattle.task_graph.specs.Counts.{tasks_of}
use Rattle.task_graph.specs.Layouts.{firsts_from, laid_from, laid_in, layout_of, size_for, tasks_in}
use Rattle.task_graph.specs.Needs.{Entry, each_tile, entries_for, entries_from, entry_of, task_for}
use Rattle.task_graph.specs.Plans.{PlanValue, entries_of, no_task, span_plan, task_at, value_work}
use Rattle.task_graph.proofs.Callers.{Each, count_tasks, each_append, each_at, some_tiles}
use Rattle.task_graph.proofs.LayLemmas.{steps_more}
use Rattle.task_graph.proofs.Spans.{tasks_append, tasks_in-laid_in}
use Rattle.task_graph.proofs.TaskLemmas.{are_of_the_span, give_the_values}
use Rattle.task_tiles.specs.TaskTiles.{span_section}
use Rattle.task_tiles.proofs.Callers.{IsAmong, IsStepOf}
use Rattle.task_board.specs.inside.Collected.{span_begin, step_count}

-- ---- lists

get_behind : {A : Type 0} (xs ys : List A) (k : ℕ) → slice_get (xs ++ ys) (length xs + k) ≡ slice_get ys k
get_behind [] ys k = ap (slice_get ys) (omega arith)
get_behind (x ∷ xs) ys k = ap (slice_get (x ∷ (xs ++ ys))) (let e : suc (length xs) + k ≡ suc (length xs + k) = omega arith in e) ∙ get_behind xs ys k

get_front : {A : Type 0} (xs ys : List A) (k : ℕ) → k < length xs → slice_get (xs ++ ys) k ≡ slice_get xs k
get_front [] ys k lt = absurd (omega arith)
get_front (x ∷ xs) ys zero lt = refl
get_front (x ∷ xs) ys (suc k) lt = get_front xs ys k (omega arith)

take_none : {A : Type 0} (xs : List A) → take 0 xs ≡ []
take_none [] = refl
take_none (x ∷ xs) = refl

take_behind : {A : Type 0} (xs ys : List A) (k : ℕ) → take (length xs + k) (xs ++ ys) ≡ xs ++ take k ys
take_behind [] ys k = ap (λ (n : ℕ). take n ys) (omega arith)
take_behind (x ∷ xs) ys k = ap (λ (n : ℕ). take n (x ∷ (xs ++ ys))) (let e : suc (length xs) + k ≡ suc (length xs + k) = omega arith in e) ∙ ap (λ (l : List _). x ∷ l) (take_behind xs ys k)

take_front : {A : Type 0} (xs ys : List A) (k : ℕ) → k ≤ length xs → take k (xs ++ ys) ≡ take k xs
take_front xs ys zero le = take_none (xs ++ ys) ∙ sym (take_none xs)
take_front [] ys (suc k) le = absurd (omega arith)
take_front (x ∷ xs) ys (suc k) le = ap (λ (l : List _). x ∷ l) (take_front xs ys k (omega arith))

-- ---- the tiles of tasks

tiles_few : (y : Layout) (start : ℕ) (l : Laid) (work : Work) (a n : ℕ) → a + n ≤ tile_count y.tiling → Each (λ (e : Entry). e.task.tile < tile_count y.tiling) (map (entry_of y start l work) (range_with_len a n))
tiles_few y start l work a zero few = tt
tiles_few y start l work a (suc n) few = (omega arith, tiles_few y start l work (a + 1) n (omega arith))

own_few : (y : Layout) (start : ℕ) (l : Laid) (c : Class) → Each (λ (e : Entry). e.task.tile < tile_count y.tiling) (entries_for y start l c)
own_few y start l class.Local = tiles_few y start l Local 0 (tile_count y.tiling) (omega arith)
own_few y start l class.Window = tiles_few y start l Window 0 (tile_count y.tiling) (omega arith)
own_few y start l class.Near = tiles_few y start l Near 0 (tile_count y.tiling) (omega arith)
own_few y start l class.Flow = tiles_few y start l Flow 0 (tile_count y.tiling) (omega arith)
own_few y start l class.Area =
    each_append (λ (e : Entry). e.task.tile < tile_count y.tiling) (each_tile y start l Partial) (entry_of y start l Merge 0 ∷ each_tile y start l Spread)
    (tiles_few y start l Partial 0 (tile_count y.tiling) (omega arith))
    (some_tiles y.tiling, tiles_few y start l Spread 0 (tile_count y.tiling) (omega arith))

all_few : (y : Layout) (start : ℕ) (laid : List Laid) → Each (λ (e : Entry). e.task.tile < tile_count y.tiling) (entries_from y start laid)
all_few y start [] = tt
all_few y start (l ∷ more) =
    each_append (λ (e : Entry). e.task.tile < tile_count y.tiling) (entries_for y start l (op_class l.operation.op)) (entries_from y (start + size_for (tile_count y.tiling) l) more)
    (own_few y start l (op_class l.operation.op)) (all_few y (start + size_for (tile_count y.tiling) l) more)

-- a task is one of a tile of the map
pub task_tile : (program : Program) (s : Span) (g : Tiling) (t : ℕ) → t < length (span_plan program s g).tasks → (task_at (span_plan program s g) t).tile < tile_count g
unfolding span_plan
task_tile program s g t below =
    let es = entries_of program s g in
    let none : Entry = record { task = no_task; needs = [] } in
    let size = length-map es (λ (e : Entry). e.task) in
    let few = each_at (λ (e : Entry). e.task.tile < tile_count g) es t none (all_few (layout_of program s g) 0 (laid_in program s)) (omega arith) in
    subst (λ (k : Task). k.tile < tile_count g) (sym (get_or-map (λ (e : Entry). e.task) es t none no_task (omega arith))) few

-- ---- operations at steps

-- the operations of a span at the first so many of its steps
abbrev pub laid_before : Program → Span → ℕ → List Laid
laid_before program s zero = []
laid_before program s (suc n) = laid_before program s n ++ laid_from (span_begin s + n) (first_operation s) (span_operations program s)

laid_steps : (program : Program) (first last n : ℕ) → flat_map (λ step. laid_from step 0 program.dynamic) (range_with_len first n) ≡ laid_before program (span.Steps first last) n
laid_steps program first last zero = refl
laid_steps program first last (suc n) =
    let f : ℕ → List Laid = λ step. laid_from step 0 program.dynamic in
    let a : suc n ≡ first + n + 1 - first = omega arith in
    let b : first + n - first ≡ n = omega arith in
    ap (λ (k : ℕ). flat_map f (range_with_len first k)) a
    ∙ steps_more f first (first + n) (omega arith)
    ∙ ap (λ (k : ℕ). flat_map f (range_with_len first k) ++ f (first + n)) b
    ∙ ap (λ (l : List Laid). l ++ f (first + n)) (laid_steps program first last n)

pub laid_all : (program : Program) (s : Span) → laid_in program s ≡ laid_before program s (step_count s)
laid_all program (span.Initial first end) = refl
laid_all program (span.Steps first last) = laid_steps program first last (last + 1 - first)

-- the operations of one step among them
laid_split : (program : Program) (s : Span) (n i : ℕ) → i < n →
    (rest : List Laid) × (laid_before program s n ≡ (laid_before program s i ++ laid_from (span_begin s + i) (first_operation s) (span_operations program s)) ++ rest)
laid_split program s zero i lt = absurd (omega arith)
laid_split program s (suc n) i lt = elim (cases_eq i n) as (λ _. (rest : List Laid) × (laid_before program s (suc n) ≡ (laid_before program s i ++ laid_from (span_begin s + i) (first_operation s) (span_operations program s)) ++ rest)) [
  | inl e ↦ ([], sym (ap (laid_before program s) (ap suc e)) ∙ sym (append-nil (laid_before program s (suc i))))
  | inr ne ↦
      let r = laid_split program s n i (omega arith) in
      let own = laid_from (span_begin s + n) (first_operation s) (span_operations program s) in
      let here = laid_before program s i ++ laid_from (span_begin s + i) (first_operation s) (span_operations program s) in
      (r.0 ++ own, ap (λ (l : List Laid). l ++ own) r.1 ∙ append_assoc here r.0 own)
]

-- one operation of a step
laid_there : (step n : ℕ) (os : List Operation) (k : ℕ) (o : Operation) → slice_get os k ≡ Some o → slice_get (laid_from step n os) k ≡ Some (record { step = step; number = n + k; operation = o })
laid_there step n [] k o there = absurd (let lt = slice_get_within [] k o there in omega arith)
laid_there step n (x ∷ os) zero o there =
    let same : x ≡ o = cc in let e : n ≡ n + 0 = omega arith in
    ap (λ (z : Operation). Some (record { step = step; number = n; operation = z })) same ∙ ap (λ (m : ℕ). Some (record { step = step; number = m; operation = o })) e
laid_there step n (x ∷ os) (suc k) o there =
    let e : n + 1 + k ≡ n + suc k = omega arith in
    laid_there step (n + 1) os k o there ∙ ap (λ (m : ℕ). Some (record { step = step; number = m; operation = o })) e

-- and what it is
record IsLaid (step n k : ℕ) (os : List Operation) (l : Laid) : Type 0 where
  step_is : l.step ≡ step
  number_is : l.number ≡ n + k
  operation_is : slice_get os k ≡ Some l.operation

laid_is : (step n : ℕ) (os : List Operation) (k : ℕ) (l : Laid) → slice_get (laid_from step n os) k ≡ Some l → IsLaid step n k os l
laid_is step n [] k l there = absurd (let lt = slice_get_within [] k l there in omega arith)
laid_is step n (x ∷ os) zero l there =
    let same : record { step = step; number = n; operation = x } ≡ l = cc in
    record { step_is = ap (λ (z : Laid). z.step) (sym same); number_is = ap (λ (z : Laid). z.number) (sym same) ∙ (omega arith); operation_is = ap (λ (z : Laid). Some z.operation) same }
laid_is step n (x ∷ os) (suc k) l there =
    let r = laid_is step (n + 1) os k l there in
    let a = r.number_is in
    record { step_is = r.step_is; number_is = omega arith; operation_is = r.operation_is }

-- the place of an operation at a step
laid_at : (program : Program) (s : Span) (i k : ℕ) (o : Operation) → i < step_count s → slice_get (span_operations program s) k ≡ Some o →
    slice_get (laid_in program s) (length (laid_before program s i) + k) ≡ Some (record { step = span_begin s + i; number = first_operation s + k; operation = o })
laid_at program s i k o lt there =
    let own = laid_from (span_begin s + i) (first_operation s) (span_operations program s) in
    let before = laid_before program s i in
    let r = laid_split program s (step_count s) i lt in
    let here = laid_there (span_begin s + i) (first_operation s) (span_operations program s) k o there in
    let in' = slice_get_within own k _ here in
    let sum = length-append before own in
    ap (λ (l : List Laid). slice_get l (length before + k)) (laid_all program s ∙ r.1)
    ∙ get_front (before ++ own) r.0 (length before + k) (omega arith)
    ∙ get_behind before own k
    ∙ here

-- an operation among the first so many steps is one of a step
pub record IsAtStep (program : Program) (s : Span) (n : ℕ) (l : Laid) : Type 0 where
  pub step : ℕ
  pub few : step < n
  pub place : ℕ
  pub step_is : l.step ≡ span_begin s + step
  pub number_is : l.number ≡ first_operation s + place
  pub operation_is : slice_get (span_operations program s) place ≡ Some l.operation

at_step : (program : Program) (s : Span) (n place : ℕ) (l : Laid) → slice_get (laid_before program s n) place ≡ Some l → IsAtStep program s n l
at_step program s zero place l there = absurd (let lt = slice_get_within [] place l there in omega arith)
at_step program s (suc n) place l there =
    let before = laid_before program s n in
    let own = laid_from (span_begin s + n) (first_operation s) (span_operations program s) in
    elim (cases_lt place (length before)) as (λ _. IsAtStep program s (suc n) l) [
      | inl less ↦
          let r = at_step program s n place l (sym (get_front before own place less) ∙ there) in
          let few = r.few in
          record { step = r.step; few = omega arith; place = r.place; step_is = r.step_is; number_is = r.number_is; operation_is = r.operation_is }
      | inr more ↦
          let e : place ≡ length before + (place - length before) = omega arith in
          let r = laid_is (span_begin s + n) (first_operation s) (span_operations program s) (place - length before) l (sym (get_behind before own (place - length before)) ∙ sym (ap (slice_get (before ++ own)) e) ∙ there) in
          record { step = n; few = omega arith; place = place - length before; step_is = r.step_is; number_is = r.number_is; operation_is = r.operation_is }
    ]

-- ---- the numbers of tasks

tasks_laid : (tiles step n : ℕ) (os : List Operation) → tasks_in tiles (laid_from step n os) ≡ tasks_of tiles os
tasks_laid tiles step n [] = refl
tasks_laid tiles step n (o ∷ more) = let h = tasks_laid tiles step (n + 1) more in omega arith

tasks_taken : (tiles step n : ℕ) (os : List Operation) (k : ℕ) → tasks_in tiles (take k (laid_from step n os)) ≡ tasks_of tiles (take k os)
tasks_taken tiles step n os zero = ap (tasks_in tiles) (take_none (laid_from step n os)) ∙ sym (ap (tasks_of tiles) (take_none os))
tasks_taken tiles step n [] (suc k) = refl
tasks_taken tiles step n (o ∷ more) (suc k) = let h = tasks_taken tiles step (n + 1) more k in omega arith

-- one step more
pub tasks_before_next : (tiles : ℕ) (program : Program) (s : Span) (n : ℕ) → tasks_in tiles (laid_before program s (n + 1)) ≡ tasks_in tiles (laid_before program s n) + tasks_of tiles (span_operations program s)
tasks_before_next tiles program s n =
    let e : n + 1 ≡ suc n = omega arith in
    ap (λ (k : ℕ). tasks_in tiles (laid_before program s k)) e
    ∙ tasks_append tiles (laid_before program s n) (laid_from (span_begin s + n) (first_operation s) (span_operations program s))
    ∙ ap (λ (k : ℕ). tasks_in tiles (laid_before program s n) + k) (tasks_laid tiles (span_begin s + n) (first_operation s) (span_operations program s))

-- the tasks of the first steps are among those of the plan
pub tasks_few : (program : Program) (s : Span) (g : Tiling) (n : ℕ) → n < step_count s →
    tasks_in (tile_count g) (laid_before program s n) + tasks_of (tile_count g) (span_operations program s) ≤ length (span_plan program s g).tasks
tasks_few program s g n lt =
    let tiles = tile_count g in
    let own = laid_from (span_begin s + n) (first_operation s) (span_operations program s) in
    let before = laid_before program s n in
    let r = laid_split program s (step_count s) n lt in
    let all : tasks_in tiles (laid_in program s) ≡ tasks_in tiles ((before ++ own) ++ r.0) = ap (tasks_in tiles) (laid_all program s ∙ r.1) in
    let a = tasks_append tiles (before ++ own) r.0 in
    let b = tasks_append tiles before own in
    let d = tasks_laid tiles (span_begin s + n) (first_operation s) (span_operations program s) in
    let e = tasks_in-laid_in tiles program s in
    let f = (count_tasks program s g).0 in
    omega arith

-- the first task of a value
first_there : (tiles start : ℕ) (laid : List Laid) (place : ℕ) (l : Laid) → slice_get laid place ≡ Some l →
    get_or (firsts_from tiles start laid) place 0 ≡ start + tasks_in tiles (take place laid) + before_value tiles (op_class l.operation.op)
first_there tiles start [] place l there = absurd (let lt = slice_get_within [] place l there in omega arith)
first_there tiles start (x ∷ laid) zero l there =
    let same : x ≡ l = cc in
    ap (λ (z : Laid). start + before_value tiles (op_class z.operation.op)) same ∙ (omega arith)
first_there tiles start (x ∷ laid) (suc place) l there = let h = first_there tiles (start + size_for tiles x) laid place l there in omega arith

-- the task of a tile of an operation's value
pub value_task : (program : Program) (s : Span) (g : Tiling) (i k : ℕ) (o : Operation) (tile : ℕ) → i < step_count s → slice_get (span_operations program s) k ≡ Some o → tile < tile_count g →
    let t = tasks_in (tile_count g) (laid_before program s i) + tasks_of (tile_count g) (take k (span_operations program s)) + before_value (tile_count g) (op_class o.op) + tile in
    (t < length (span_plan program s g).tasks) × (task_at (span_plan program s g) t ≡ record { step = span_begin s + i; operation = first_operation s + k; work = value_work (op_class o.op); tile = tile })
value_task program s g i k o tile lt there below =
    let tiles = tile_count g in
    let os = span_operations program s in
    let own = laid_from (span_begin s + i) (first_operation s) os in
    let before = laid_before program s i in
    let l : Laid = record { step = span_begin s + i; number = first_operation s + k; operation = o } in
    let at = laid_at program s i k o lt there in
    let v = give_the_values program s g (length before + k) l tile at below in
    let r = laid_split program s (step_count s) i lt in
    let in' = slice_get_within own k _ (laid_there (span_begin s + i) (first_operation s) os k o there) in
    let sum = length-append before own in
    let taken : take (length before + k) (laid_in program s) ≡ before ++ take k own = ap (take (length before + k)) (laid_all program s ∙ r.1) ∙ take_front (before ++ own) r.0 (length before + k) (omega arith) ∙ take_behind before own k in
    let first = first_there tiles 0 (laid_in program s) (length before + k) l at in
    let many : tasks_in tiles (take (length before + k) (laid_in program s)) ≡ tasks_in tiles before + tasks_of tiles (take k os) = ap (tasks_in tiles) taken ∙ tasks_append tiles before (take k own) ∙ ap (λ (n : ℕ). tasks_in tiles before + n) (tasks_taken tiles (span_begin s + i) (first_operation s) os k) in
    let e : get_or (layout_of program s g).firsts (length before + k) 0 + tile ≡ tasks_in tiles before + tasks_of tiles (take k os) + before_value tiles (op_class o.op) + tile = omega arith in
    subst (λ (t : ℕ). (t < length (span_plan program s g).tasks) × (task_at (span_plan program s g) t ≡ task_for l (value_work (op_class o.op)) tile)) e v

-- a task is one of an operation at a step
pub task_of : (program : Program) (s : Span) (g : Tiling) (t : ℕ) → t < length (span_plan program s g).tasks →
    (l : Laid) × (IsAtStep program s (step_count s) l) × ((task_at (span_plan program s g) t).step ≡ l.step) × ((task_at (span_plan program s g) t).operation ≡ l.number)
task_of program s g t below =
    let is = are_of_the_span program s g t below in (
      is.laid_there,
      at_step program s (step_count s) is.place is.laid_there (sym (ap (λ (l : List Laid). slice_get l is.place) (laid_all program s)) ∙ is.there),
      ap (λ (k : Task). k.step) is.is,
      ap (λ (k : Task). k.operation) is.is,
    )

-- ---- steps and operations by their numbers

pub step_of : (s : Span) (i : ℕ) → i < step_count s → IsStepOf s (span_begin s + i)
step_of (span.Initial first end) i lt = omega arith
step_of (span.Steps first last) i lt = (omega arith, omega arith)

pub section_at : (program : Program) (s : Span) (k : ℕ) (o : Operation) → slice_get (span_operations program s) k ≡ Some o →
    (IsAmong s (first_operation s + k)) × (slice_get (span_section program s) (first_operation s + k) ≡ Some o)
section_at program (span.Initial first end) k o there =
    let os : List Operation = program.initial in
    let lt = slice_get_within (slice_range os first end) k o there in
    let a = length-take (end - first) (drop first os) in
    let b = length-drop first os in (
      (omega arith, omega arith),
      slice_get-get_or os (first + k) o (omega arith)
          ∙ ap Some (sym (get_or-drop first os k o) ∙ sym (get_or-take (end - first) (drop first os) k o (omega arith)) ∙ get_or_from_slice_get (slice_range os first end) k o o there),
    )
section_at program (span.Steps first last) k o there = (tt, ap (slice_get program.dynamic) (omega arith) ∙ there)

-- the task is one of an operation at a step of the span, of a tile of the map
pub record IsTaskAt (program : Program) (s : Span) (g : Tiling) (task : Task) : Type 0 where
  pub step : ℕ
  pub few : step < step_count s
  pub place : ℕ
  pub operation : Operation
  pub there : slice_get (span_operations program s) place ≡ Some operation
  pub step_is : task.step ≡ span_begin s + step
  pub number_is : task.operation ≡ first_operation s + place
  pub tile_few : task.tile < tile_count g

pub task_place : (plan : PlanValue) (s : Span) (program : Program) (t : ℕ) → plan ≡ span_plan program s plan.tiling → t < length plan.tasks → IsTaskAt program s plan.tiling (task_at plan t)
task_place plan s program t plans lt = subst (λ (q : PlanValue). t < length q.tasks → IsTaskAt program s plan.tiling (task_at q t)) (sym plans) (λ below.
    let of = task_of program s plan.tiling t below in
    let at = of.1 in
    record {
      step = at.step;
      few = at.few;
      place = at.place;
      operation = of.0.operation;
      there = at.operation_is;
      step_is = of.2 ∙ at.step_is;
      number_is = of.3 ∙ at.number_is;
      tile_few = task_tile program s plan.tiling t below;
    }) lt
