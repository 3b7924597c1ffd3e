-- What the tasks of a plan are: of which operation, by which work, on which tile.
use Rattle.std.proofs.Common.{◌≡◌, ◌∙◌, ℕ, zero, suc, ◌+◌, ◌<◌, ◌≤◌, List, [], ◌∷◌, ◌++◌, length, get_or, map, take, drop, refl, sym, ap, subst, arith, append_assoc}
use Rattle.std.specs.Prelude.{Some, slice_get}
use Rattle.std.specs.List.{range_with_len}
use Rattle.std.proofs.lemmas.List.{get_or-append-add, get_or-map, get_or_append_left, length-append, length-map, map-append}
use Rattle.tile_map.specs.Tiles.{tile_count}
use Rattle.tile_map.specs.declared.tiling.Tiling.{Tiling}
use Rattle.map_meaning.specs.declared.known.Span.{Span}
use Rattle.map_meaning.specs.declared.program.Program.{Program}
use Rattle.task_graph.specs.declared.class.Class.{Class}
use Rattle.task_graph.specs.declared.class.Class.TheVariants as class
use Rattle.task_graph.specs.declared.layout.Laid.{Laid}
use Rattle.task_graph.specs.declared.layout.Layout.{Layout}
use Rattle.task_graph.specs.declared.task.Task.{Task}
use Rattle.task_graph.specs.declared.task.Work.{Work}
use Rattle.task_graph.specs.declared.task.Work.TheVariants.{Local, Window, Near, Partial, Merge, Spread, Flow}
use Rattle.task_graph.specs.Classes.{op_class}
use Rattle.task_graph.specs.Layouts.{laid_in, layout_of, size_for, tasks_in}
use Rattle.task_graph.specs.Needs.{Entry, each_tile, entries_for, entries_from, entry_of, needs_of, task_for}
use Rattle.task_graph.specs.Plans.{entries_of, needs_at, no_task, span_plan, task_at}
use Rattle.task_graph.specs.inside.Grown.{tasks_of_entries}
use Rattle.task_graph.proofs.Climbs.{Each, each_append, each_at, each_more}
use Rattle.task_graph.proofs.FlowLemmas.{length-tiles, tiles_at}
use Rattle.task_graph.proofs.HeldLemmas.{some_tiles}
use Rattle.task_graph.proofs.Low.{length-entries_from}
use Rattle.task_graph.proofs.Spans.{tasks_append}

-- the work is one that operations of a class have
abbrev pub SuitsClass : Class → Work → Type 0
SuitsClass class.Local Local = Unit {0}
SuitsClass class.Window Window = Unit {0}
SuitsClass class.Near Near = Unit {0}
SuitsClass class.Flow Flow = Unit {0}
SuitsClass class.Area Partial = Unit {0}
SuitsClass class.Area Merge = Unit {0}
SuitsClass class.Area Spread = Unit {0}
SuitsClass _ _ = ⊥

-- ---- what the entries are

record IsEntryOf (y : Layout) (start : ℕ) (l : Laid) (c : Class) (e : Entry) : Type 0 where
  work : Work
  tile : ℕ
  suits : SuitsClass c work
  below : tile < tile_count y.tiling
  is : e ≡ entry_of y start l work tile

tile_entries : (y : Layout) (start : ℕ) (l : Laid) (c : Class) (work : Work) (a n : ℕ) → SuitsClass c work → a + n ≤ tile_count y.tiling → Each (IsEntryOf y start l c) (map (entry_of y start l work) (range_with_len a n))
tile_entries y start l c work a zero suits few = tt
tile_entries y start l c work a (suc n) suits few = (record { work = work; tile = a; suits = suits; below = omega arith; is = refl }, tile_entries y start l c work (a + 1) n suits (omega arith))

own_entries : (y : Layout) (start : ℕ) (l : Laid) (c : Class) → Each (IsEntryOf y start l c) (entries_for y start l c)
own_entries y start l class.Local = tile_entries y start l class.Local Local 0 (tile_count y.tiling) tt (omega arith)
own_entries y start l class.Window = tile_entries y start l class.Window Window 0 (tile_count y.tiling) tt (omega arith)
own_entries y start l class.Near = tile_entries y start l class.Near Near 0 (tile_count y.tiling) tt (omega arith)
own_entries y start l class.Flow = tile_entries y start l class.Flow Flow 0 (tile_count y.tiling) tt (omega arith)
own_entries y start l class.Area =
    each_append (IsEntryOf y start l class.Area) (each_tile y start l Partial) (entry_of y start l Merge 0 ∷ each_tile y start l Spread)
    (tile_entries y start l class.Area Partial 0 (tile_count y.tiling) tt (omega arith))
    (record { work = Merge; tile = 0; suits = tt; below = some_tiles y.tiling; is = refl }, tile_entries y start l class.Area Spread 0 (tile_count y.tiling) tt (omega arith))

pub get_at : (before : List Laid) (l : Laid) (more : List Laid) → slice_get (before ++ l ∷ more) (length before) ≡ Some l
get_at [] l more = refl
get_at (x ∷ before) l more = get_at before l more

pub take_at : (before more : List Laid) → take (length before) (before ++ more) ≡ before
take_at [] more = empty more
  where
    empty : (xs : List Laid) → take 0 xs ≡ []
    empty [] = refl
    empty (x ∷ xs) = refl
take_at (x ∷ before) more = ap (λ (xs : List Laid). x ∷ xs) (take_at before more)

-- the task is of an operation of the list, by a work and on a tile that it has, and reads what such a task does
pub record IsWorkOf (y : Layout) (laid : List Laid) (task : Task) (needs : List ℕ) : Type 0 where
  pub place : ℕ
  pub laid_there : Laid
  pub there : slice_get laid place ≡ Some laid_there
  pub work : Work
  pub tile : ℕ
  pub suits : SuitsClass (op_class laid_there.operation.op) work
  pub below : tile < tile_count y.tiling
  pub is : task ≡ task_for laid_there work tile
  pub reads : needs ≡ needs_of y (tasks_in (tile_count y.tiling) (take place laid)) laid_there work tile

all_entries : (y : Layout) (before rest : List Laid) → Each (λ (e : Entry). IsWorkOf y (before ++ rest) e.task e.needs) (entries_from y (tasks_in (tile_count y.tiling) before) rest)
all_entries y before [] = tt
all_entries y before (l ∷ more) =
    let tiles = tile_count y.tiling in
    let start = tasks_in tiles before in
    let c = op_class l.operation.op in
    let P = λ (e : Entry). IsWorkOf y (before ++ l ∷ more) e.task e.needs in
    let next : tasks_in tiles (before ++ l ∷ []) ≡ start + size_for tiles l = let h = tasks_append tiles before (l ∷ []) in omega arith in
    each_append P (entries_for y start l c) (entries_from y (start + size_for tiles l) more)
    (each_more (IsEntryOf y start l c) P
    (λ e is. record {
      place = length before;
      laid_there = l;
      there = get_at before l more;
      work = is.work;
      tile = is.tile;
      suits = is.suits;
      below = is.below;
      is = ap (λ (x : Entry). x.task) is.is;
      reads = ap (λ (x : Entry). x.needs) is.is ∙ ap (λ (n : ℕ). (entry_of y n l is.work is.tile).needs) (ap (tasks_in tiles) (sym (take_at before (l ∷ more))));
    })
    (entries_for y start l c) (own_entries y start l c))
    (subst (λ (n : ℕ). Each P (entries_from y n more)) next
    (subst (λ (ls : List Laid). Each (λ (e : Entry). IsWorkOf y ls e.task e.needs) (entries_from y (tasks_in tiles (before ++ l ∷ [])) more)) (append_assoc before (l ∷ []) more)
    (all_entries y (before ++ l ∷ []) more)))

-- the same of what is equal
same_work : (y : Layout) (laid : List Laid) (task told : Task) (needs read : List ℕ) → told ≡ task → read ≡ needs → IsWorkOf y laid task needs → IsWorkOf y laid told read
same_work y laid task told needs read e f is = subst (λ (k : Task). IsWorkOf y laid k read) (sym e) (subst (λ (ns : List ℕ). IsWorkOf y laid task ns) (sym f) is)

pub is_work_of : (program : Program) (s : Span) (g : Tiling) (t : ℕ) → t < length (span_plan program s g).tasks →
    IsWorkOf (layout_of program s g) (laid_in program s) (task_at (span_plan program s g) t) (needs_at (span_plan program s g) t)
unfolding span_plan
is_work_of program s g t below =
    let y = layout_of program s g in
    let laid = laid_in program s in
    let es = entries_of program s g in
    let none : Entry = record { task = no_task; needs = [] } in
    let size = length-map es (λ (e : Entry). e.task) in
    let e = get_or es t none in
    let is : IsWorkOf y laid e.task e.needs = each_at (λ (x : Entry). IsWorkOf y laid x.task x.needs) es t none (all_entries y [] laid) (omega arith) in
    let task : get_or (tasks_of_entries es) t no_task ≡ e.task = get_or-map (λ (x : Entry). x.task) es t none no_task (omega arith) in
    let needs : get_or (map (λ (x : Entry). x.needs) es) t [] ≡ e.needs = get_or-map (λ (x : Entry). x.needs) es t none [] (omega arith) in
    same_work y laid e.task (get_or (tasks_of_entries es) t no_task) e.needs (get_or (map (λ (x : Entry). x.needs) es) t []) task needs is

-- ---- the partials of an operation, and their merge

-- the list around one of its items
around : (xs : List Laid) (i : ℕ) (x : Laid) → slice_get xs i ≡ Some x → xs ≡ take i xs ++ x ∷ drop (suc i) xs
around [] i x is = absurd (cc)
around (y ∷ xs) zero x is = let same : y ≡ x = cc in ap (λ (z : Laid). z ∷ xs) same
around (y ∷ xs) (suc i) x is = ap (λ (zs : List Laid). y ∷ zs) (around xs i x is)

entries_append : (y : Layout) (start : ℕ) (xs ys : List Laid) → entries_from y start (xs ++ ys) ≡ entries_from y start xs ++ entries_from y (start + tasks_in (tile_count y.tiling) xs) ys
entries_append y start [] ys = let none : start ≡ start + 0 = omega arith in ap (λ (n : ℕ). entries_from y n ys) none
entries_append y start (x ∷ xs) ys =
    let tiles = tile_count y.tiling in
    let own = entries_for y start x (op_class x.operation.op) in
    let next = start + size_for tiles x in
    let sum : next + tasks_in tiles xs ≡ start + tasks_in tiles (x ∷ xs) = omega arith in
    ap (λ (es : List Entry). own ++ es) (entries_append y next xs ys)
    ∙ (sym (append_assoc own (entries_from y next xs) (entries_from y (next + tasks_in tiles xs) ys))
    ∙ ap (λ (n : ℕ). (own ++ entries_from y next xs) ++ entries_from y n ys) sum)

-- the tasks of an operation stand in the plan from the number on that its tasks begin at
pub own_stands : (program : Program) (s : Span) (g : Tiling) (place : ℕ) (l : Laid) (k : ℕ) → slice_get (laid_in program s) place ≡ Some l →
    let y = layout_of program s g in
    let start = tasks_in (tile_count g) (take place (laid_in program s)) in
    let own = tasks_of_entries (entries_for y start l (op_class l.operation.op)) in
    k < length own → task_at (span_plan program s g) (start + k) ≡ get_or own k no_task
unfolding span_plan
own_stands program s g place l k is below =
    let y = layout_of program s g in
    let laid = laid_in program s in
    let tiles = tile_count g in
    let front = take place laid in
    let behind = drop (suc place) laid in
    let start = tasks_in tiles front in
    let es = entries_for y start l (op_class l.operation.op) in
    let first = entries_from y 0 front in
    let later = entries_from y (start + size_for tiles l) behind in
    let of = λ (xs : List Entry). tasks_of_entries xs in
    let zero_plus : 0 + start ≡ start = omega arith in
    let all : entries_of program s g ≡ first ++ (es ++ later) =
    ap (entries_from y 0) (around laid place l is) ∙ (entries_append y 0 front (l ∷ behind) ∙ ap (λ (n : ℕ). first ++ entries_from y n (l ∷ behind)) zero_plus) in
    let tasks : of (entries_of program s g) ≡ of first ++ (of es ++ of later) =
    ap of all ∙ (map-append (λ (e : Entry). e.task) first (es ++ later) ∙ ap (λ (ts : List Task). of first ++ ts) (map-append (λ (e : Entry). e.task) es later)) in
    let size : length (of first) ≡ start = length-map first (λ (e : Entry). e.task) ∙ length-entries_from y 0 front in
    ap (λ (ts : List Task). get_or ts (start + k) no_task) tasks
    ∙ (ap (λ (n : ℕ). get_or (of first ++ (of es ++ of later)) (n + k) no_task) (sym size)
    ∙ (get_or-append-add (of first) (of es ++ of later) k no_task ∙ get_or_append_left (of es) (of later) no_task k below))

-- the tasks of an operation over areas
module _ (program : Program) (s : Span) (g : Tiling) (place : ℕ) (l : Laid) (is : slice_get (laid_in program s) place ≡ Some l) (area : op_class l.operation.op ≡ class.Area) where
  abbrev y : Layout
  y = layout_of program s g

  abbrev tiles : ℕ
  tiles = tile_count g

  abbrev start : ℕ
  start = tasks_in tiles (take place (laid_in program s))

  abbrev partials : List Task
  partials = tasks_of_entries (each_tile y start l Partial)

  abbrev others : List Task
  others = task_for l Merge 0 ∷ tasks_of_entries (each_tile y start l Spread)

  own_are : tasks_of_entries (entries_for y start l (op_class l.operation.op)) ≡ partials ++ others
  own_are = ap (λ (c : Class). tasks_of_entries (entries_for y start l c)) area ∙ map-append (λ (e : Entry). e.task) (each_tile y start l Partial) (entry_of y start l Merge 0 ∷ each_tile y start l Spread)

  -- the partial of a tile
  pub partial_at : (tile : ℕ) → tile < tiles → task_at (span_plan program s g) (start + tile) ≡ task_for l Partial tile
  partial_at tile below =
      let count : length partials ≡ tiles = length-tiles y start l Partial 0 tiles in
      let sum = length-append partials others in
      let size = ap length own_are in
      let none : 0 + tile ≡ tile = omega arith in
      own_stands program s g place l tile is (omega arith)
      ∙ (ap (λ (ts : List Task). get_or ts tile no_task) own_are
      ∙ (get_or_append_left partials others no_task tile (omega arith)
      ∙ (tiles_at y start l Partial 0 tiles tile below ∙ ap (task_for l Partial) none)))

  -- their merge
  pub merge_at : task_at (span_plan program s g) (start + tiles) ≡ task_for l Merge 0
  merge_at =
      let count : length partials ≡ tiles = length-tiles y start l Partial 0 tiles in
      let sum = length-append partials others in
      let size = ap length own_are in
      let some : 0 < length others = omega arith in
      let at : tiles ≡ length partials + 0 = omega arith in
      own_stands program s g place l tiles is (omega arith)
      ∙ (ap (λ (ts : List Task). get_or ts tiles no_task) own_are
      ∙ (ap (λ (n : ℕ). get_or (partials ++ others) n no_task) at ∙ get_or-append-add partials others 0 no_task))
