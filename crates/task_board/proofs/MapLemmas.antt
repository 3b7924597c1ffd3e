-- The tiles of a map, put together, and the kept maps of a finished board.
use Rattle.std.proofs.Common.{◌≡◌, ℕ, zero, suc, ◌+◌, ◌-◌, ◌*◌, ◌/◌, ◌%◌, ◌<◌, ◌≤◌, Bool, true, false, if◌then◌else◌, List, [], ◌∷◌, ◌++◌, length, take, get_or, Option, Some, None, slice_get}
use Rattle.std.proofs.Common.{inr, refl, sym, ap, ◌∙◌, subst, arith}
use Rattle.std.specs.Option.{IsSomeAnd}
use Rattle.std.specs.Arc.{arc_value}
use Rattle.std.specs.declared.sync.Arc.{Arc}
use Rattle.std.specs.Global.{Global}
use Rattle.std.proofs.lemmas.List.{append_assoc, append-nil, get_or_default, length-take, same_lists}
use Rattle.core_model.specs.Cores.{published}
use Rattle.cell_values.specs.declared.cell.Cell.{Cell}
use Rattle.tile_map.specs.Cuts.{cell_at, cut_of, gathered}
use Rattle.tile_map.specs.Parts.{or_missing}
use Rattle.tile_map.specs.Rects.{IsInMap, place_in}
use Rattle.tile_map.specs.Tiles.{rect_of, tile_count}
use Rattle.tile_map.specs.declared.part.Part.{Part}
use Rattle.tile_map.specs.declared.rect.Rect.{Rect}
use Rattle.tile_map.specs.declared.tiling.Tiling.{Tiling}
use Rattle.tile_map.proofs.Callers.{get_or-cut_of, length-cut_of, length-tabulate, tile_in_map}
use Rattle.tile_map.proofs.CutLemmas.{gathers_the_cut}
use Rattle.tile_cuts.proofs.OverLemmas.{are_cuts}
use Rattle.map_meaning.specs.declared.known.Known.{Known}
use Rattle.map_meaning.specs.declared.known.Span.{Span}
use Rattle.map_meaning.specs.declared.known.StepMap.{StepMap}
use Rattle.map_meaning.specs.declared.program.Operation.{Operation}
use Rattle.map_meaning.specs.declared.program.Program.{Program}
use Rattle.map_meaning.specs.Evaluation.{Done, operation_part, outcome_at, section_maps}
use Rattle.map_meaning.specs.Maps.{WholeMap, nth}
use Rattle.map_meaning.specs.Spans.{first_operation, kept_maps, scene_of, span_operations}
use Rattle.task_graph.specs.declared.class.Class.{Class}
use Rattle.task_graph.specs.declared.class.Class.TheVariants as class
use Rattle.task_graph.specs.declared.task.Task.{Task}
use Rattle.task_graph.specs.Classes.{before_value, op_class, tasks_for}
use Rattle.task_graph.specs.Counts.{tasks_of}
use Rattle.task_graph.specs.Layouts.{tasks_in}
use Rattle.task_graph.specs.Plans.{PlanValue, task_at, value_work}
use Rattle.task_graph.proofs.Callers.{some_tiles}
use Rattle.task_tiles.specs.TaskTiles.{IsPartTile, IsTaskTile, IsWorkTile, onward_done, span_section, tile_part}
use Rattle.task_tiles.specs.declared.tile.Tile.{Tile}
use Rattle.task_tiles.specs.declared.tile.Tile.TheVariants as tile
use Rattle.task_tiles.proofs.Callers.{done_map}
use Rattle.task_board.specs.Tiles.{hands_out, hands_out_map}
use Rattle.task_board.specs.inside.Collected.{AreTilesOfMap, HaveTiles, cells_by, held_cells, span_begin, step_count, with_kept_map}
use Rattle.task_board.specs.inside.Held.{IsBoard, Parts, state_in, tile_for}
use Rattle.task_board.proofs.Lists.{take_snoc}
use Rattle.task_board.proofs.SpanTasks.{laid_before, section_at, step_of, value_task}

-- ---- one map

-- the whole of a map, as a rectangle
abbrev pub whole_of : Tiling → Rect
whole_of g = record { top = 0; left = 0; rows = g.rows; cols = g.cols }

whole_place : (g : Tiling) (k : ℕ) → k < g.rows * g.cols → place_in g.cols (whole_of g) k ≡ k
unfolding place_in
whole_place g k lt =
    let some : 0 < g.cols = some_cols g.rows g.cols k lt in
    let e : g.cols * (k / g.cols) + k % g.cols ≡ k = omega arith in
    let f : (0 + k / g.cols) * g.cols ≡ g.cols * (k / g.cols) = omega arith in
    omega arith
  where
    some_cols : (rows cols n : ℕ) → n < rows * cols → 0 < cols
    some_cols rows zero n less = absurd (let e : rows * 0 ≡ 0 = omega arith in omega arith)
    some_cols rows (suc cols) n less = omega arith

whole_cut : (g : Tiling) (m : List Cell) → length m ≡ g.rows * g.cols → cut_of g.cols m (whole_of g) ≡ m
whole_cut g m size =
    let count = length-cut_of g.cols m (whole_of g) in
    same_lists (cut_of g.cols m (whole_of g)) m (count ∙ sym size)
    (λ k d less.
    let lt : k < g.rows * g.cols = (let c = count in omega arith) in
    get_or-cut_of g.cols m (whole_of g) k d lt ∙ ap (cell_at m) (whole_place g k lt) ∙ get_or_default m k _ d (omega arith))

-- the tiles of a map give the map
pub put_together : (g : Tiling) (tiles : List (Option (Arc Tile Global))) (first : ℕ) (m : WholeMap) → AreTilesOfMap g tiles first m → gathered g (λ n. held_cells (tile_for tiles (first + n))) (whole_of g) ≡ m
put_together g tiles first m are =
    gathers_the_cut g (λ n. held_cells (tile_for tiles (first + n))) (whole_of g) m (record { below = omega arith; right = omega arith }) (λ n below meets. (are.there n below).1)
    ∙ whole_cut g m are.size

-- ---- the maps of a step

-- one operation more
kept_one : (step n : ℕ) (maps : List WholeMap) (o : Operation) → kept_maps step maps n (o ∷ []) ≡ (if o.kept then record { step = step; operation = n; cells = nth maps n } ∷ [] else [])
kept_one step n maps o = refl

kept_snoc : (step : ℕ) (maps : List WholeMap) (n : ℕ) (os : List Operation) (o : Operation) → kept_maps step maps n (os ++ o ∷ []) ≡ kept_maps step maps n os ++ kept_maps step maps (n + length os) (o ∷ [])
kept_snoc step maps n [] o = ap (λ (k : ℕ). kept_maps step maps k (o ∷ [])) (omega arith)
kept_snoc step maps n (x ∷ os) o =
    let e : n + 1 + length os ≡ n + suc (length os) = omega arith in
    by_kept x.kept (kept_maps step maps (n + 1) (os ++ o ∷ [])) (kept_maps step maps (n + 1) os) (kept_maps step maps (n + suc (length os)) (o ∷ [])) (record { step = step; operation = n; cells = nth maps n })
    (kept_snoc step maps (n + 1) os o ∙ ap (λ (k : ℕ). kept_maps step maps (n + 1) os ++ kept_maps step maps k (o ∷ [])) e)
  where
    by_kept : (b : Bool) (a c d : List StepMap) (y : StepMap) → a ≡ c ++ d → (if b then y ∷ a else a) ≡ (if b then y ∷ c else c) ++ d
    by_kept true a c d y e = ap (λ (l : List StepMap). y ∷ l) e
    by_kept false a c d y e = e

pub with_next_map : (step : ℕ) (maps : List WholeMap) (n k : ℕ) (os : List Operation) (d : Operation) (before : List StepMap) → k < length os →
    with_kept_map step (n + k) (get_or os k d) (nth maps (n + k)) (before ++ kept_maps step maps n (take k os)) ≡ before ++ kept_maps step maps n (take (k + 1) os)
with_next_map step maps n k os d before lt =
    let o = get_or os k d in
    let size : length (take k os) ≡ k = (let h = length-take k os in omega arith) in
    by_kept o.kept before (kept_maps step maps n (take k os)) (record { step = step; operation = n + k; cells = nth maps (n + k) })
    ∙ ap (λ (j : ℕ). before ++ (kept_maps step maps n (take k os) ++ kept_maps step maps (n + j) (o ∷ []))) (sym size)
    ∙ ap (λ (l : List StepMap). before ++ l) (sym (kept_snoc step maps n (take k os) o))
    ∙ ap (λ (l : List Operation). before ++ kept_maps step maps n l) (sym (take_snoc os k d lt))
  where
    by_kept : (b : Bool) (xs ys : List StepMap) (y : StepMap) → (if b then (xs ++ ys) ++ y ∷ [] else (xs ++ ys)) ≡ xs ++ (ys ++ (if b then y ∷ [] else []))
    by_kept true xs ys y = append_assoc xs ys (y ∷ [])
    by_kept false xs ys y = ap (λ (l : List StepMap). xs ++ l) (sym (append-nil ys))

-- the tasks of one operation more
pub tasks_next : (tiles : ℕ) (os : List Operation) (k : ℕ) (d : Operation) → k < length os → tasks_of tiles (take (k + 1) os) ≡ tasks_of tiles (take k os) + tasks_for tiles (op_class (get_or os k d).op)
tasks_next tiles os k d lt = ap (tasks_of tiles) (take_snoc os k d lt) ∙ tasks_snoc (take k os) (get_or os k d)
  where
    tasks_snoc : (xs : List Operation) (o : Operation) → tasks_of tiles (xs ++ o ∷ []) ≡ tasks_of tiles xs + tasks_for tiles (op_class o.op)
    tasks_snoc [] o = omega arith
    tasks_snoc (x ∷ xs) o = let h = tasks_snoc xs o in omega arith

-- the first so many have no more than all
pub tasks_fewer : (tiles : ℕ) (os : List Operation) (k : ℕ) → tasks_of tiles (take k os) ≤ tasks_of tiles os
tasks_fewer tiles os zero = (let h = ap (tasks_of tiles) (none' os) in omega arith)
  where
    none' : (xs : List Operation) → take 0 xs ≡ []
    none' [] = refl
    none' (x ∷ xs) = refl
tasks_fewer tiles [] (suc k) = omega arith
tasks_fewer tiles (o ∷ os) (suc k) = let h = tasks_fewer tiles os k in omega arith

pub before_fewer : (tiles : ℕ) (c : Class) → before_value tiles c ≤ tasks_for tiles c
before_fewer tiles class.Local = omega arith
before_fewer tiles class.Window = omega arith
before_fewer tiles class.Near = omega arith
before_fewer tiles class.Area = omega arith
before_fewer tiles class.Flow = omega arith

-- the same by equal parts
pub have_same : (g h : Tiling) (tiles tiles' : List (Option (Arc Tile Global))) (start start' number number' : ℕ) (maps : List WholeMap) (os os' : List Operation) →
    g ≡ h → tiles ≡ tiles' → start ≡ start' → number ≡ number' → os ≡ os' → HaveTiles h tiles' start' number' maps os' → HaveTiles g tiles start number maps os
have_same g h tiles tiles' start start' number number' maps os os' a b c d e have =
    subst (λ (x : Tiling). HaveTiles x tiles start number maps os) (sym a)
    (subst (λ (x : List (Option (Arc Tile Global))). HaveTiles h x start number maps os) (sym b)
    (subst (λ (x : ℕ). HaveTiles h tiles' x number maps os) (sym c)
    (subst (λ (x : ℕ). HaveTiles h tiles' start' x maps os) (sym d)
    (subst (λ (x : List Operation). HaveTiles h tiles' start' number' maps x) (sym e) have))))

-- ---- a finished board

part_cells : (part : Part) (a : Tile) → IsPartTile part a → cells_by a ≡ part.cells
part_cells part (tile.Part p) e = ap (λ (q : Part). q.cells) e
part_cells part (tile.Partial v) e = absurd e

value_cells : (program : Program) (known : Known) (g : Tiling) (step : ℕ) (done : Done) (o : Operation) (c : Class) (n : ℕ) (a : Tile) → IsWorkTile program known g step done o (value_work c) n a → cells_by a ≡ (tile_part program known step done o (rect_of g n)).cells
value_cells program known g step done o class.Local n a e = part_cells _ a e
value_cells program known g step done o class.Window n a e = part_cells _ a e
value_cells program known g step done o class.Near n a e = part_cells _ a e
value_cells program known g step done o class.Area n a e = part_cells _ a e
value_cells program known g step done o class.Flow n a e = part_cells _ a e

value_kept : (program : Program) (s : Span) (c : Class) (n : ℕ) → hands_out program s (value_work c) n ≡ hands_out_map (slice_get (span_section program s) n)
value_kept program s class.Local n = refl
value_kept program s class.Window n = refl
value_kept program s class.Near n = refl
value_kept program s class.Area n = refl
value_kept program s class.Flow n = refl

held_some : (o : Option (Arc Tile Global)) (P : Tile → Type 0) (cells : List Cell) → IsSomeAnd o (λ a. P (arc_value a)) → ((a : Tile) → P a → cells_by a ≡ cells) → held_cells o ≡ cells
held_some None P cells h k = absurd h
held_some (Some a) P cells h k = k (arc_value a) h

-- the part of a tile is the cut of an operation's map
part_cut : (program : Program) (known : Known) (step : ℕ) (done : Done) (o : Operation) (r : Rect) → IsInMap known.rows known.cols r →
    (tile_part program known step done o r).cells ≡ cut_of known.cols (operation_part program (scene_of program.inputs known step) done o).cells r
unfolding operation_part
part_cut program known step done o r in_map = (are_cuts known.rows known.cols r (outcome_at program (scene_of program.inputs known step) done o) in_map).cells

part_size : (program : Program) (known : Known) (step : ℕ) (done : Done) (o : Operation) → length (operation_part program (scene_of program.inputs known step) done o).cells ≡ known.rows * known.cols
unfolding operation_part
part_size program known step done o = length-tabulate (λ place. or_missing (outcome_at program (scene_of program.inputs known step) done o place)) (known.rows * known.cols)

module _ {x : Parts} (b : IsBoard x) (finished : (t : ℕ) → t < x.plan.tasks → (state_in x).status t ≡ published) where
  -- the tiles of a value are those of its map
  pub tiles_of_map : (n k : ℕ) (o : Operation) → n < step_count x.plan.span → slice_get (span_operations x.program x.plan.span) k ≡ Some o → o.kept ≡ true →
      let s = x.plan.span in let g = x.plan.plan.tiling in
      AreTilesOfMap g x.tiles (tasks_in (tile_count g) (laid_before x.program s n) + tasks_of (tile_count g) (take k (span_operations x.program s)) + before_value (tile_count g) (op_class o.op))
      (nth (section_maps s (onward_done x.program s x.known (span_begin s + n))) (first_operation s + k))
  tiles_of_map n k o lt there kept =
      let s : Span = x.plan.span in
      let g : Tiling = x.plan.plan.tiling in
      let program : Program = x.program in
      let known : Known = x.known in
      let planned = b.of.planned in
      let count : ℕ = tile_count g in
      let step : ℕ = span_begin s + n in
      let done = onward_done program s known step in
      let number : ℕ = first_operation s + k in
      let first : ℕ = tasks_in count (laid_before program s n) + tasks_of count (take k (span_operations program s)) + before_value count (op_class o.op) in
      let section = section_at program s k o there in
      let m : WholeMap = nth (section_maps s done) number in
      let is : m ≡ (operation_part program (scene_of program.inputs known step) done o).cells = done_map x.plan.plan s program known step number o planned (step_of s n lt) section.0 section.1 in
      let rows = planned.rows in let cols = planned.cols in
      let places : known.rows * known.cols ≡ g.rows * g.cols = sym (ap (λ (r : ℕ). r * g.cols) rows ∙ ap (λ (c : ℕ). known.rows * c) cols) in
      let all = b.plan.plan_tasks in
      let task = λ (j : ℕ) (below : j < count). subst (λ (q : PlanValue). (first + j < length q.tasks) × (task_at q (first + j) ≡ record { step = step; operation = number; work = value_work (op_class o.op); tile = j })) (sym planned.plans) (value_task program s g n k o j lt there below) in
      record {
        size = ap length is ∙ part_size program known step done o ∙ places;
        within =
            let some = some_tiles g in
            let last = (task (count - 1) (omega arith)).0 in
            let few = b.plan.few_tasks in omega arith;
        there = λ j below.
            let v = task j below in
            let t : ℕ = first + j in
            let lt' = v.0 in
            let t_lt : t < x.plan.tasks = omega arith in
            let many = b.all_tiles in
            let r = rect_of g j in
            let needs : get_or x.kept t false ≡ true =
            b.keeps t t_lt
            ∙ ap (λ (z : Task). hands_out program s z.work z.operation) v.1
            ∙ value_kept program s (op_class o.op) number
            ∙ ap hands_out_map section.1
            ∙ kept in
            let has = b.has t t_lt (finished t t_lt) (inr needs) in
            let in_map : IsInMap known.rows known.cols r = subst (λ (q : ℕ). IsInMap known.rows q r) cols (subst (λ (q : ℕ). IsInMap q g.cols r) rows (tile_in_map g j below).0) in
            let cut : (tile_part program known step done o r).cells ≡ cut_of g.cols m r =
            part_cut program known step done o r in_map ∙ ap (λ (l : List Cell). cut_of known.cols l r) (sym is) ∙ ap (λ (c : ℕ). cut_of c m r) (sym cols) in (
              omega arith,
              held_some (tile_for x.tiles t) (λ a. IsTaskTile x.plan.plan s program known t a) (cut_of g.cols m r) has (λ a own.
                  let same : own.operation ≡ o = let e : Some own.operation ≡ Some o = sym own.there ∙ ap (λ (z : Task). slice_get (span_section program s) z.operation) v.1 ∙ section.1 in cc in
                  let work = subst (λ (z : Operation). IsWorkTile program known g step done z (value_work (op_class o.op)) j a) same
                  (subst (λ (z : Task). IsWorkTile program known g z.step (onward_done program s known z.step) own.operation z.work z.tile a) v.1 own.is) in
                  value_cells program known g step done o (op_class o.op) j a work ∙ cut),
            );
      }

  -- so it is with each kept operation of a step
  pub have_tiles : (n : ℕ) → n < step_count x.plan.span → let s = x.plan.span in let g = x.plan.plan.tiling in
      HaveTiles g x.tiles (tasks_in (tile_count g) (laid_before x.program s n)) (first_operation s) (section_maps s (onward_done x.program s x.known (span_begin s + n))) (span_operations x.program s)
  have_tiles n lt = λ k o there kept. tiles_of_map n k o lt there kept
