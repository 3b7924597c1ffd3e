-- What each task is.
use Rattle.std.proofs.Common.{◌≡◌, ◌∙◌, ℕ, zero, suc, ◌+◌, ◌<◌, List, [], ◌∷◌, ◌++◌, length, get_or, map, take, refl, sym, ap, subst, arith, append_assoc}
use Rattle.std.specs.Prelude.{Some, slice_get}
use Rattle.std.specs.List.{range_with_len}
use Rattle.std.proofs.lemmas.List.{get_or-append-add, get_or-map, get_or_append_left, length-append, length-map, map-append}
use Rattle.task_graph.proofs.Climbs.{Each}
use Rattle.tile_map.specs.Tiles.{tile_count}
use Rattle.task_graph.specs.declared.class.Class.{Class}
use Rattle.task_graph.specs.declared.class.Class.TheVariants as class
use Rattle.task_graph.specs.declared.layout.Laid.{Laid}
use Rattle.task_graph.specs.declared.layout.Layout.{Layout}
use Rattle.task_graph.specs.declared.task.Task.{Task}
use Rattle.task_graph.specs.declared.task.Work.{Work}
use Rattle.task_graph.specs.declared.task.Work.TheVariants.{Local, Window, Near, Partial, Merge, Spread, Flow}
use Rattle.task_graph.specs.Classes.{before_value, op_class}
use Rattle.task_graph.specs.Layouts.{firsts_from, laid_in, layout_of, size_for, tasks_in}
use Rattle.task_graph.specs.Needs.{Entry, each_tile, entries_for, entries_from, entry_of, task_for}
use Rattle.task_graph.specs.Plans.{AreOfTheSpan, GiveTheValues, IsTaskOf, entries_of, no_task, span_plan, value_work}
use Rattle.task_graph.specs.inside.Grown.{tasks_of_entries}
use Rattle.task_graph.proofs.Climbs.{each_append, each_at, each_more}
use Rattle.task_graph.proofs.FlowLemmas.{length-tiles, tiles_at}
use Rattle.task_graph.proofs.Low.{length-entries_for}
use Rattle.task_graph.proofs.Spans.{tasks_append}

-- ---- what the entries are

-- the entry is one of the operation whose tasks begin at start
record IsEntryOf (y : Layout) (start : ℕ) (l : Laid) (e : Entry) : Type 0 where
  work : Work
  tile : ℕ
  is : e ≡ entry_of y start l work tile

tile_entries : (y : Layout) (start : ℕ) (l : Laid) (work : Work) (a n : ℕ) → Each (IsEntryOf y start l) (map (entry_of y start l work) (range_with_len a n))
tile_entries y start l work a zero = tt
tile_entries y start l work a (suc n) = (record { work = work; tile = a; is = refl }, tile_entries y start l work (a + 1) n)

own_entries : (y : Layout) (start : ℕ) (l : Laid) (c : Class) → Each (IsEntryOf y start l) (entries_for y start l c)
own_entries y start l class.Local = tile_entries y start l Local 0 (tile_count y.tiling)
own_entries y start l class.Window = tile_entries y start l Window 0 (tile_count y.tiling)
own_entries y start l class.Near = tile_entries y start l Near 0 (tile_count y.tiling)
own_entries y start l class.Flow = tile_entries y start l Flow 0 (tile_count y.tiling)
own_entries y start l class.Area =
    each_append (IsEntryOf y start l) (each_tile y start l Partial) (entry_of y start l Merge 0 ∷ each_tile y start l Spread)
    (tile_entries y start l Partial 0 (tile_count y.tiling))
    (record { work = Merge; tile = 0; is = refl }, tile_entries y start l Spread 0 (tile_count y.tiling))

get_at : (before : List Laid) (l : Laid) (more : List Laid) → slice_get (before ++ l ∷ more) (length before) ≡ Some l
get_at [] l more = refl
get_at (x ∷ before) l more = get_at before l more

take_at : (before more : List Laid) → take (length before) (before ++ more) ≡ before
take_at [] more = empty more
  where
    empty : (xs : List Laid) → take 0 xs ≡ []
    empty [] = refl
    empty (x ∷ xs) = refl
take_at (x ∷ before) more = ap (λ (xs : List Laid). x ∷ xs) (take_at before more)

all_entries : (y : Layout) (before rest : List Laid) → Each (λ (e : Entry). IsTaskOf y (before ++ rest) e.task e.needs) (entries_from y (tasks_in (tile_count y.tiling) before) rest)
all_entries y before [] = tt
all_entries y before (l ∷ more) =
    let tiles = tile_count y.tiling in
    let start = tasks_in tiles before in
    let P = λ (e : Entry). IsTaskOf y (before ++ l ∷ more) e.task e.needs in
    let next : tasks_in tiles (before ++ l ∷ []) ≡ start + size_for tiles l = let h = tasks_append tiles before (l ∷ []) in omega arith in
    each_append P (entries_for y start l (op_class l.operation.op)) (entries_from y (start + size_for tiles l) more)
    (each_more (IsEntryOf y start l) P
    (λ e is. record {
      place = length before;
      laid_there = l;
      there = get_at before l more;
      work = is.work;
      tile = is.tile;
      is = ap (λ (x : Entry). x.task) is.is;
      reads = ap (λ (x : Entry). x.needs) is.is ∙ ap (λ (n : ℕ). (entry_of y n l is.work is.tile).needs) (ap (tasks_in tiles) (sym (take_at before (l ∷ more))));
    })
    (entries_for y start l (op_class l.operation.op)) (own_entries y start l (op_class l.operation.op)))
    (subst (λ (n : ℕ). Each P (entries_from y n more)) next
    (subst (λ (ls : List Laid). Each (λ (e : Entry). IsTaskOf y ls e.task e.needs) (entries_from y (tasks_in tiles (before ++ l ∷ [])) more)) (append_assoc before (l ∷ []) more)
    (all_entries y (before ++ l ∷ []) more)))

pub are_of_the_span : AreOfTheSpan
unfolding span_plan
are_of_the_span program s g t below =
    let y = layout_of program s g in
    let laid = laid_in program s in
    let es = entries_of program s g in
    let none : Entry = record { task = no_task; needs = [] } in
    let size = length-map es (λ (e : Entry). e.task) in
    let e = get_or es t none in
    let is : IsTaskOf y laid e.task e.needs = each_at (λ (x : Entry). IsTaskOf y laid x.task x.needs) es t none (all_entries y [] laid) (omega arith) in
    let task : get_or (tasks_of_entries es) t no_task ≡ e.task = get_or-map (λ (x : Entry). x.task) es t none no_task (omega arith) in
    let needs : get_or (map (λ (x : Entry). x.needs) es) t [] ≡ e.needs = get_or-map (λ (x : Entry). x.needs) es t none [] (omega arith) in
    record {
      place = is.place;
      laid_there = is.laid_there;
      there = is.there;
      work = is.work;
      tile = is.tile;
      is = task ∙ is.is;
      reads = needs ∙ is.reads;
    }

-- ---- where values stand

-- the task of a tile, where there is one for each tile
plain_value : (y : Layout) (start : ℕ) (l : Laid) (work : Work) (tile : ℕ) → tile < tile_count y.tiling →
    (0 + tile < length (tasks_of_entries (each_tile y start l work))) × (get_or (tasks_of_entries (each_tile y start l work)) (0 + tile) no_task ≡ task_for l work tile)
plain_value y start l work tile below =
    let size = length-tiles y start l work 0 (tile_count y.tiling) in (
      omega arith,
      ap (λ (n : ℕ). get_or (tasks_of_entries (each_tile y start l work)) n no_task) (zero_plus tile)
          ∙ (tiles_at y start l work 0 (tile_count y.tiling) tile below ∙ ap (task_for l work) (zero_plus tile)),
    )
  where
    zero_plus : (n : ℕ) → 0 + n ≡ n
    zero_plus n = omega arith

-- the tasks of an operation's value among its own
own_value : (y : Layout) (start : ℕ) (l : Laid) (c : Class) (tile : ℕ) → tile < tile_count y.tiling →
    (before_value (tile_count y.tiling) c + tile < length (tasks_of_entries (entries_for y start l c)))
    × (get_or (tasks_of_entries (entries_for y start l c)) (before_value (tile_count y.tiling) c + tile) no_task ≡ task_for l (value_work c) tile)
own_value y start l class.Local tile below = plain_value y start l Local tile below
own_value y start l class.Window tile below = plain_value y start l Window tile below
own_value y start l class.Near tile below = plain_value y start l Near tile below
own_value y start l class.Flow tile below = plain_value y start l Flow tile below
own_value y start l class.Area tile below =
    let tiles = tile_count y.tiling in
    let partials = tasks_of_entries (each_tile y start l Partial) in
    let spreads = tasks_of_entries (each_tile y start l Spread) in
    let merge = task_for l Merge 0 in
    let all : tasks_of_entries (entries_for y start l class.Area) ≡ partials ++ merge ∷ spreads = map-append (λ (e : Entry). e.task) (each_tile y start l Partial) (entry_of y start l Merge 0 ∷ each_tile y start l Spread) in
    let count : length partials ≡ tiles = length-tiles y start l Partial 0 tiles in
    let size : length spreads ≡ tiles = length-tiles y start l Spread 0 tiles in
    let sum = length-append partials (merge ∷ spreads) in
    let whole = ap length all in (
      omega arith,
      ap (λ (ts : List Task). get_or ts (tiles + 1 + tile) no_task) all
          ∙ (ap (λ (n : ℕ). get_or (partials ++ merge ∷ spreads) n no_task) (shift (length partials) tiles tile count)
          ∙ (get_or-append-add partials (merge ∷ spreads) (suc tile) no_task
          ∙ (tiles_at y start l Spread 0 tiles tile below ∙ ap (task_for l Spread) (zero_plus tile)))),
    )
  where
    shift : (n m k : ℕ) → n ≡ m → m + 1 + k ≡ n + suc k
    shift n m k e = omega arith

    zero_plus : (n : ℕ) → 0 + n ≡ n
    zero_plus n = omega arith

value_stands : (y : Layout) (start : ℕ) (rest : List Laid) (before : List Task) (i tile : ℕ) (l : Laid) → start ≡ length before → slice_get rest i ≡ Some l → tile < tile_count y.tiling →
    (get_or (firsts_from (tile_count y.tiling) start rest) i 0 + tile < length (before ++ tasks_of_entries (entries_from y start rest)))
    × (get_or (before ++ tasks_of_entries (entries_from y start rest)) (get_or (firsts_from (tile_count y.tiling) start rest) i 0 + tile) no_task ≡ task_for l (value_work (op_class l.operation.op)) tile)
value_stands y start [] before i tile l at there below = absurd (cc)
value_stands y start (x ∷ more) before zero tile l at there below =
    let tiles = tile_count y.tiling in
    let next = start + size_for tiles x in
    let c = op_class x.operation.op in
    let own = tasks_of_entries (entries_for y start x c) in
    let later = tasks_of_entries (entries_from y next more) in
    let both : before ++ tasks_of_entries (entries_from y start (x ∷ more)) ≡ before ++ (own ++ later) = ap (λ (ts : List Task). before ++ ts) (map-append (λ (e : Entry). e.task) (entries_for y start x c) (entries_from y next more)) in
    let same : x ≡ l = cc in
    let value = own_value y start x c tile below in
    let low = value.0 in
    let sum = length-append before (own ++ later) in
    let part = length-append own later in
    let whole = ap length both in (
      omega arith,
      ap (λ (ts : List Task). get_or ts (start + before_value tiles c + tile) no_task) both
          ∙ (ap (λ (n : ℕ). get_or (before ++ (own ++ later)) n no_task) (shift start (length before) (before_value tiles c) tile at)
          ∙ (get_or-append-add before (own ++ later) (before_value tiles c + tile) no_task
          ∙ (get_or_append_left own later no_task (before_value tiles c + tile) low
          ∙ (value.1 ∙ ap (λ (z : Laid). task_for z (value_work (op_class z.operation.op)) tile) same)))),
    )
  where
    shift : (n m b k : ℕ) → n ≡ m → n + b + k ≡ m + (b + k)
    shift n m b k e = omega arith
value_stands y start (x ∷ more) before (suc i) tile l at there below =
    let tiles = tile_count y.tiling in
    let next = start + size_for tiles x in
    let c = op_class x.operation.op in
    let own = tasks_of_entries (entries_for y start x c) in
    let later = tasks_of_entries (entries_from y next more) in
    let both : before ++ tasks_of_entries (entries_from y start (x ∷ more)) ≡ before ++ (own ++ later) = ap (λ (ts : List Task). before ++ ts) (map-append (λ (e : Entry). e.task) (entries_for y start x c) (entries_from y next more)) in
    let size : length own ≡ size_for tiles x = length-map (entries_for y start x c) (λ (e : Entry). e.task) ∙ length-entries_for y start x c in
    let rest = value_stands y next more (before ++ own) i tile l (let a = length-append before own in omega arith) there below in
    let n = get_or (firsts_from tiles next more) i 0 + tile in
    subst (λ (ts : List Task). (n < length ts) × (get_or ts n no_task ≡ task_for l (value_work (op_class l.operation.op)) tile)) (append_assoc before own later ∙ sym both) rest

pub give_the_values : GiveTheValues
unfolding span_plan
give_the_values program s g place l tile there below = value_stands (layout_of program s g) 0 (laid_in program s) [] place tile l refl there below
