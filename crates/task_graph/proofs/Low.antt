-- Each task reads only tasks with lower numbers.
use Rattle.std.proofs.Common.{◌≡◌, ℕ, zero, suc, ◌+◌, ◌<◌, ◌≤◌, ◌/◌, List, [], ◌∷◌, ◌++◌, length, get_or, map, drop, refl, sym, ap, subst, arith, inl, inr}
use Rattle.std.proofs.lemmas.Bool.{cases_eq}
use Rattle.std.specs.Prelude.{Option, Some, None}
use Rattle.std.specs.List.{range_with_len}
use Rattle.std.proofs.lemmas.List.FromFn.{length-map-range_with_len}
use Rattle.std.proofs.lemmas.List.{length-append}
use Rattle.task_graph.proofs.Climbs.{Each}
use Rattle.tile_map.specs.declared.tiling.Tiling.{Tiling}
use Rattle.tile_map.specs.Tiles.{tile_count}
use Rattle.map_meaning.specs.Limits.{most_operations, most_steps}
use Rattle.map_meaning.specs.declared.op.Op.{Op}
use Rattle.map_meaning.specs.declared.op.Op.TheVariants as op
use Rattle.map_meaning.specs.declared.program.Operand.{Operand}
use Rattle.task_graph.specs.declared.class.Class.{Class}
use Rattle.task_graph.specs.declared.class.Class.TheVariants as class
use Rattle.task_graph.specs.declared.layout.Laid.{Laid}
use Rattle.task_graph.specs.declared.layout.Layout.{Layout}
use Rattle.task_graph.specs.declared.task.Work.{Work}
use Rattle.task_graph.specs.declared.task.Work.TheVariants.{Local, Window, Near, Partial, Merge, Spread, Flow}
use Rattle.task_graph.specs.Classes.{before_value, op_class, classes_by, classes_of, tasks_for}
use Rattle.task_graph.specs.Layouts.{firsts_from, maker_of, size_for, tasks_in}
use Rattle.task_graph.specs.Limits.{most_tasks}
use Rattle.task_graph.specs.Needs.{Entry, each_tile, entries_for, entries_from, entry_of, first_at, halo_tiles, needs_of, read_of, reads_of, tiles_from}
use Rattle.task_graph.specs.inside.Grown.{CanLayAll}
use Rattle.task_graph.specs.inside.Layings.{AllReadBefore, ReadsBefore}
use Rattle.task_graph.specs.inside.Reads.{IsAmong}
use Rattle.task_graph.proofs.Climbs.{each_append, each_map, each_more, each_of, each_range}
use Rattle.task_graph.proofs.ReadLemmas.{halo_are_tiles, unused}

-- ---- the tasks of an operand

-- the values of the first i operations end before start
abbrev pub EndBefore : ℕ → List ℕ → ℕ → ℕ → Type 0
EndBefore tiles firsts i start = (place : ℕ) → place < i → get_or firsts place 0 + tiles ≤ start

-- the value that is made at this place, if one is, is that of one of the first i operations
abbrev pub IsMadeBefore : Layout → ℕ → ℕ → Operand → Type 0
IsMadeBefore y i step x = (place : ℕ) → maker_of y.span y.many step x ≡ Some place → place < i

from_lower : (tiles start : ℕ) (firsts : List ℕ) (i : ℕ) (made : Option ℕ) (ts : List ℕ) → EndBefore tiles firsts i start → ((place : ℕ) → made ≡ Some place → place < i) → Each (λ tile. tile < tiles) ts →
    Each (λ need. need < start) (tiles_from (first_at firsts made) ts)
from_lower tiles start firsts i None ts ends before are = tt
from_lower tiles start firsts i (Some place) ts ends before are =
    let top : get_or firsts place 0 + tiles ≤ start = ends place (before place refl) in
    each_map (λ need. need < start) (λ tile. get_or firsts place 0 + tile) ts (each_more (λ tile. tile < tiles) (λ tile. get_or firsts place 0 + tile < start) (λ tile below. omega arith) ts are)

reads_lower : (y : Layout) (start i : ℕ) (l : Laid) (ts : List ℕ) → EndBefore (tile_count y.tiling) y.firsts i start → ReadsBefore y i l → Each (λ tile. tile < tile_count y.tiling) ts → Each (λ need. need < start) (reads_of y l ts)
reads_lower y start i l ts ends before are =
    let P = λ (need : ℕ). need < start in
    let n = tile_count y.tiling in
    let one = λ (x : Operand) (b : IsMadeBefore y i l.step x). from_lower n start y.firsts i (maker_of y.span y.many l.step x) ts ends b are in
    each_append P (read_of y l l.operation.a ts) _ (one l.operation.a before.a)
    (each_append P (read_of y l l.operation.b ts) _ (one l.operation.b before.b)
    (each_append P (read_of y l l.operation.c ts) (read_of y l l.operation.d ts) (one l.operation.c before.c) (one l.operation.d before.d)))

-- the operand that has the classes is one of the operands
classes_before : (y : Layout) (i step : ℕ) (o : Op) (a b : Operand) → IsMadeBefore y i step a → IsMadeBefore y i step b → IsMadeBefore y i step (classes_by o a b)
classes_before y i step op.AreaTotal a b ha hb = hb
classes_before y i step op.AreaAverage a b ha hb = hb
classes_before y i step op.AreaMinimum a b ha hb = hb
classes_before y i step op.AreaMaximum a b ha hb = hb
classes_before y i step op.AreaDiversity a b ha hb = hb
classes_before y i step op.AreaMajority a b ha hb = hb
classes_before y i step op.AreaArea a b ha hb = ha
classes_before y i step _ a b ha hb = λ place e. absurd (unused y.span y.many step place e)

halo_each : (g : Tiling) (k tile : ℕ) → tile < tile_count g → Each (λ t. t < tile_count g) (halo_tiles g k tile)
halo_each g k tile below = each_of (λ t. t < tile_count g) (halo_tiles g k tile) 0 (halo_are_tiles g k tile below)

-- ---- the tasks of one operation

-- a task with the number n reads lower ones, and as a transport's only such as come before the first of its operation
pub record ReadsLow (n : ℕ) (e : Entry) : Type 0 where
  pub lower : Each (λ need. need < n) e.needs
  pub flow : e.task.work ≡ Flow → Each (λ need. need + e.task.tile < n) e.needs

-- tasks that are numbered from n read such
abbrev pub AreLow : ℕ → List Entry → Type 0
AreLow n [] = Unit {0}
AreLow n (e ∷ more) = ReadsLow n e × AreLow (suc n) more

low_append : (n : ℕ) (xs ys : List Entry) → AreLow n xs → AreLow (n + length xs) ys → AreLow n (xs ++ ys)
low_append n [] ys a b = subst (λ (m : ℕ). AreLow m ys) (omega arith) b
low_append n (x ∷ xs) ys a b = (a.0, low_append (suc n) xs ys a.1 (subst (λ (m : ℕ). AreLow m ys) (omega arith) b))

low_map : (f : ℕ → Entry) (n a k : ℕ) → ((t : ℕ) → t < a + k → ReadsLow (n + t) (f t)) → AreLow (n + a) (map f (range_with_len a k))
low_map f n a zero h = tt
low_map f n a (suc k) h = (h a (omega arith), subst (λ (m : ℕ). AreLow m (map f (range_with_len (a + 1) k))) (further n a) (low_map f n (a + 1) k (λ t below. h t (omega arith))))
  where
    further : (m j : ℕ) → m + (j + 1) ≡ suc (m + j)
    further m j = omega arith

-- from their first number on
low_tiles : (f : ℕ → Entry) (n k : ℕ) → ((t : ℕ) → t < k → ReadsLow (n + t) (f t)) → AreLow n (map f (range_with_len 0 k))
low_tiles f n k h = subst (λ (m : ℕ). AreLow m (map f (range_with_len 0 k))) (none n) (low_map f n 0 k (λ t below. h t (omega arith)))
  where
    none : (m : ℕ) → m + 0 ≡ m
    none m = omega arith

-- what is read below the operation's first task is low for a task that is no transport's
plainly : (start t : ℕ) (l : Laid) (work : Work) (y : Layout) → (work ≡ Flow → ⊥) → Each (λ need. need < start) (needs_of y start l work t) → ReadsLow (start + t) (entry_of y start l work t)
plainly start t l work y apart low = record {
  lower = each_more (λ need. need < start) (λ need. need < start + t) (λ need less. omega arith) (needs_of y start l work t) low;
  flow = λ e. absurd (apart e);
}

operation_low : (y : Layout) (start i : ℕ) (l : Laid) (c : Class) → EndBefore (tile_count y.tiling) y.firsts i start → ReadsBefore y i l → AreLow start (entries_for y start l c)
unfolding needs_of
operation_low y start i l class.Local ends before =
    low_tiles (entry_of y start l Local) start (tile_count y.tiling) (λ t below. plainly start t l Local y (λ e. cc) (reads_lower y start i l (t ∷ []) ends before (below, tt)))
operation_low y start i l class.Window ends before =
    low_tiles (entry_of y start l Window) start (tile_count y.tiling) (λ t below. plainly start t l Window y (λ e. cc) (reads_lower y start i l (halo_tiles y.tiling (l.operation.window / 2) t) ends before (halo_each y.tiling (l.operation.window / 2) t below)))
operation_low y start i l class.Near ends before =
    low_tiles (entry_of y start l Near) start (tile_count y.tiling) (λ t below. plainly start t l Near y (λ e. cc) (reads_lower y start i l (halo_tiles y.tiling 1 t) ends before (halo_each y.tiling 1 t below)))
operation_low y start i l class.Flow ends before =
    low_tiles (entry_of y start l Flow) start (tile_count y.tiling)
    (λ t below.
    let low = reads_lower y start i l (t ∷ []) ends before (below, tt) in
    record {
      lower = each_more (λ need. need < start) (λ need. need < start + t) (λ need less. omega arith) (reads_of y l (t ∷ [])) low;
      flow = λ e. each_more (λ need. need < start) (λ need. need + t < start + t) (λ need less. omega arith) (reads_of y l (t ∷ [])) low;
    })
operation_low y start i l class.Area ends before =
    let tiles = tile_count y.tiling in
    let partials = each_tile y start l Partial in
    let count : length partials ≡ tiles = length-map-range_with_len (entry_of y start l Partial) 0 tiles in
    low_append start partials (entry_of y start l Merge 0 ∷ each_tile y start l Spread)
    (low_tiles (entry_of y start l Partial) start tiles (λ t below. plainly start t l Partial y (λ e. cc) (reads_lower y start i l (t ∷ []) ends before (below, tt))))
    (subst (λ (n : ℕ). AreLow (start + n) (entry_of y start l Merge 0 ∷ each_tile y start l Spread)) (sym count) (
      record {
        lower = each_map (λ need. need < start + tiles) (λ partial. start + partial) (range_with_len 0 tiles) (each_range (λ partial. start + partial < start + tiles) 0 tiles (λ k below. omega arith));
        flow = λ e. absurd (cc);
      },
      low_tiles (entry_of y start l Spread) (suc (start + tiles)) tiles
          (λ t below. record {
            lower = (
              omega arith,
              each_more (λ need. need < start) (λ need. need < suc (start + tiles) + t) (λ need less. omega arith) (read_of y l (classes_of l.operation) (t ∷ []))
                  (from_lower tiles start y.firsts i (maker_of y.span y.many l.step (classes_of l.operation)) (t ∷ []) ends (classes_before y i l.step l.operation.op l.operation.a l.operation.b before.a before.b) (below, tt)),
            );
            flow = λ e. absurd (cc);
          }),
    ))

-- ---- how many tasks there are

pub length-entries_for : (y : Layout) (start : ℕ) (l : Laid) (c : Class) → length (entries_for y start l c) ≡ tasks_for (tile_count y.tiling) c
length-entries_for y start l class.Local = length-map-range_with_len (entry_of y start l Local) 0 (tile_count y.tiling)
length-entries_for y start l class.Window = length-map-range_with_len (entry_of y start l Window) 0 (tile_count y.tiling)
length-entries_for y start l class.Near = length-map-range_with_len (entry_of y start l Near) 0 (tile_count y.tiling)
length-entries_for y start l class.Flow = length-map-range_with_len (entry_of y start l Flow) 0 (tile_count y.tiling)
length-entries_for y start l class.Area =
    let tiles = tile_count y.tiling in
    let a : length (each_tile y start l Partial) ≡ tiles = length-map-range_with_len (entry_of y start l Partial) 0 tiles in
    let b : length (each_tile y start l Spread) ≡ tiles = length-map-range_with_len (entry_of y start l Spread) 0 tiles in
    omega (arith, length-append (each_tile y start l Partial) (entry_of y start l Merge 0 ∷ each_tile y start l Spread))

pub length-entries_from : (y : Layout) (start : ℕ) (laid : List Laid) → length (entries_from y start laid) ≡ tasks_in (tile_count y.tiling) laid
length-entries_from y start [] = refl
length-entries_from y start (l ∷ more) =
    let one = length-entries_for y start l (op_class l.operation.op) in
    let rest = length-entries_from y (start + size_for (tile_count y.tiling) l) more in
    omega (arith, length-append (entries_for y start l (op_class l.operation.op)) (entries_from y (start + size_for (tile_count y.tiling) l) more))

-- ---- the tasks of a span

at_drop : (xs : List ℕ) (i x : ℕ) (ys : List ℕ) → drop i xs ≡ x ∷ ys → get_or xs i 0 ≡ x
at_drop [] zero x ys e = absurd (cc)
at_drop [] (suc i) x ys e = absurd (cc)
at_drop (z ∷ xs) zero x ys e = cc
at_drop (z ∷ xs) (suc i) x ys e = at_drop xs i x ys e

rest_drop : (xs : List ℕ) (i x : ℕ) (ys : List ℕ) → drop i xs ≡ x ∷ ys → drop (suc i) xs ≡ ys
rest_drop [] zero x ys e = absurd (cc)
rest_drop [] (suc i) x ys e = absurd (cc)
rest_drop (z ∷ xs) zero x ys e = cc
rest_drop (z ∷ xs) (suc i) x ys e = rest_drop xs i x ys e

in_drop : (xs : List ℕ) (i x : ℕ) (ys : List ℕ) → drop i xs ≡ x ∷ ys → i < length xs
in_drop [] zero x ys e = absurd (cc)
in_drop [] (suc i) x ys e = absurd (cc)
in_drop (z ∷ xs) zero x ys e = omega arith
in_drop (z ∷ xs) (suc i) x ys e = let h = in_drop xs i x ys e in omega arith

value_ends : (tiles : ℕ) (c : Class) → before_value tiles c + tiles ≤ tasks_for tiles c
value_ends tiles class.Local = omega arith
value_ends tiles class.Window = omega arith
value_ends tiles class.Near = omega arith
value_ends tiles class.Flow = omega arith
value_ends tiles class.Area = omega arith

less : (place i : ℕ) → place < suc i → (place ≡ i → ⊥) → place < i
less place i below apart = omega (arith, apart)

-- what ends before the next operation
ends_next : (tiles : ℕ) (firsts : List ℕ) (i start : ℕ) (l : Laid) → get_or firsts i 0 ≡ start + before_value tiles (op_class l.operation.op) → EndBefore tiles firsts i start → EndBefore tiles firsts (suc i) (start + size_for tiles l)
ends_next tiles firsts i start l here ends = λ place below. elim (cases_eq place i) as (λ x. get_or firsts place 0 + tiles ≤ start + size_for tiles l) [
  | inl e ↦ let v = value_ends tiles (op_class l.operation.op) in let f = ap (λ (p : ℕ). get_or firsts p 0) e in omega arith
  | inr e ↦ let v = ends place (less place i below e) in omega arith
]

pub low_from : (y : Layout) (i start : ℕ) (rest : List Laid) → drop i y.firsts ≡ firsts_from (tile_count y.tiling) start rest → EndBefore (tile_count y.tiling) y.firsts i start → AllReadBefore y i rest → AreLow start (entries_from y start rest)
low_from y i start [] firsts ends before = tt
low_from y i start (l ∷ more) firsts ends before =
    let tiles = tile_count y.tiling in
    let c = op_class l.operation.op in
    let here : get_or y.firsts i 0 ≡ start + before_value tiles c = at_drop y.firsts i _ _ firsts in
    let later : drop (suc i) y.firsts ≡ firsts_from tiles (start + size_for tiles l) more = rest_drop y.firsts i _ _ firsts in
    low_append start (entries_for y start l c) (entries_from y (start + size_for tiles l) more)
    (operation_low y start i l c ends before.0)
    (subst (λ (n : ℕ). AreLow (start + n) (entries_from y (start + size_for tiles l) more)) (sym (length-entries_for y start l c))
    (low_from y (suc i) (start + size_for tiles l) more later (ends_next tiles y.firsts i start l here ends) before.1))

-- ---- that a plan can be laid

-- at least as many tasks as tiles
pub tiles_few : (tiles : ℕ) (l : Laid) → tiles ≤ size_for tiles l
tiles_few tiles l = by tiles (op_class l.operation.op)
  where
    by : (n : ℕ) (c : Class) → n ≤ tasks_for n c
    by n class.Local = omega arith
    by n class.Window = omega arith
    by n class.Near = omega arith
    by n class.Flow = omega arith
    by n class.Area = omega arith

among : (y : Layout) (start i : ℕ) (l : Laid) (x : Operand) → EndBefore (tile_count y.tiling) y.firsts i start → i ≤ length y.firsts → start ≤ most_tasks → IsMadeBefore y i l.step x → IsAmong y l x
among y start i l x ends within few before = λ place e. let h = before place e in let k = ends place h in (omega arith, omega arith)

pub can_from : (y : Layout) (i start : ℕ) (rest : List Laid) → drop i y.firsts ≡ firsts_from (tile_count y.tiling) start rest → EndBefore (tile_count y.tiling) y.firsts i start → AllReadBefore y i rest →
    y.many ≤ most_operations → Each (λ l. l.step ≤ most_steps) rest → start + tasks_in (tile_count y.tiling) rest ≤ most_tasks → CanLayAll y start rest
can_from y i start [] firsts ends before many steps few = tt
can_from y i start (l ∷ more) firsts ends before many steps few =
    let tiles = tile_count y.tiling in
    let here : get_or y.firsts i 0 ≡ start + before_value tiles (op_class l.operation.op) = at_drop y.firsts i _ _ firsts in
    let later : drop (suc i) y.firsts ≡ firsts_from tiles (start + size_for tiles l) more = rest_drop y.firsts i _ _ firsts in
    let within : i < length y.firsts = in_drop y.firsts i _ _ firsts in
    let enough = tiles_few tiles l in
    let one = λ (x : Operand) (b : IsMadeBefore y i l.step x). among y start i l x ends (omega arith) (omega arith) b in (
      record {
        reads = record { many = many; step = steps.0; a = one l.operation.a before.0.a; b = one l.operation.b before.0.b; c = one l.operation.c before.0.c; d = one l.operation.d before.0.d };
        few = omega arith;
      },
      can_from y (suc i) (start + size_for tiles l) more later (ends_next tiles y.firsts i start l here ends) before.1 many steps.1 (omega arith),
    )
