-- From the list of what a task reads to the tiles of its operands.
use Rattle.std.proofs.Common.{◌≡◌, ℕ, zero, suc, ◌+◌, ◌-◌, ◌*◌, ◌<◌, ◌≤◌, Bool, true, false, cond, List, [], ◌∷◌, ◌++◌, length, get_or, map, refl, sym, ap, subst, ◌∙◌, arith}
use Rattle.std.specs.Prelude.{◌==◌, Option, None, Some, slice_get}
use Rattle.std.specs.List.{AllZip}
use Rattle.std.proofs.lemmas.Bool.{ne_eqb}
use Rattle.std.proofs.lemmas.Bool.Decides.{nat_tests}
use Rattle.std.proofs.lemmas.Option.{slice_get_within}
use Rattle.std.proofs.lemmas.List.{get_or-append-add, get_or-map, get_or_append_left, length-append, length-map}
use Rattle.tile_map.specs.Rects.{IsInMap}
use Rattle.tile_map.specs.Cuts.{cell_at, cut_of}
use Rattle.tile_map.specs.Tiles.{rect_of, tile_count}
use Rattle.tile_map.specs.declared.part.Part.{Part as PartValue}
use Rattle.tile_map.specs.declared.rect.Rect.{Rect}
use Rattle.tile_map.specs.declared.tiling.Tiling.{Tiling}
use Rattle.tile_map.proofs.Callers.{tile_in_map}
use Rattle.map_meaning.specs.Evaluation.{Done, operand_cell, operation_part, section_maps}
use Rattle.map_meaning.specs.Limits.{most_block}
use Rattle.map_meaning.specs.Maps.{CellAt, WholeMap, nth}
use Rattle.map_meaning.specs.Spans.{IsSpan, scene_of}
use Rattle.map_meaning.specs.declared.known.Known.{Known}
use Rattle.map_meaning.specs.declared.known.Span.{Span}
use Rattle.map_meaning.specs.declared.known.Span.TheVariants as span
use Rattle.map_meaning.specs.declared.program.Operand.{Operand}
use Rattle.map_meaning.specs.declared.program.Operand.TheVariants.{Initial, Now, Last}
use Rattle.map_meaning.specs.declared.program.Operation.{Operation}
use Rattle.map_meaning.specs.declared.program.Program.{Program}
use Rattle.map_meaning.proofs.WholeMaps.{there}
use Rattle.span_operands.specs.Made.{is_made}
use Rattle.task_laws.specs.Laws.{AreCutsOfMaps}
use Rattle.task_graph.specs.declared.class.Class.{Class}
use Rattle.task_graph.specs.declared.class.Class.TheVariants as class
use Rattle.task_graph.specs.declared.layout.Laid.{Laid}
use Rattle.task_graph.specs.declared.task.Task.{Task}
use Rattle.task_graph.specs.declared.task.Work.{Work}
use Rattle.task_graph.specs.Classes.{op_class}
use Rattle.task_graph.specs.declared.layout.Layout.{Layout}
use Rattle.task_graph.specs.Layouts.{laid_in, layout_of, maker_of}
use Rattle.task_graph.specs.Needs.{first_at, read_of, task_for, tiles_from}
use Rattle.task_graph.specs.Plans.{PlanValue, task_at, value_work}
use Rattle.task_graph.proofs.TaskLemmas.{give_the_values}
use Rattle.task_tiles.specs.declared.tile.Tile.{Tile}
use Rattle.task_tiles.specs.declared.tile.Tile.TheVariants.{Part, Partial}
use Rattle.task_tiles.specs.TaskTiles.{IsPartTile, IsPlanned, IsTaskTile, IsWorkTile, onward_done, span_section, tile_part}
use Rattle.task_tiles.proofs.Callers.{done_map}
use Rattle.task_tiles.proofs.OnwardLemmas.{IsReadBefore}
use Rattle.tile_tasks.specs.inside.Tasks.{AreHandedIn, many_for}
use Rattle.tile_tasks.specs.inside.Tiles.{IsCutTile, StandFrom, tile_handed}
use Rattle.tile_tasks.proofs.LaidLemmas.{IsInSpan, laid_at, laid_is, laid_there}
use Rattle.tile_tasks.proofs.DoneKnown.{last_is}

-- ---- the tiles of a list of needs

-- each tile is what its need tells
pub record AreTold (Tells : ℕ → Tile → Type 0) (needs : List ℕ) (ts : List Tile) : Type 0 where
  pub count : length ts ≡ length needs
  pub each : (i : ℕ) → i < length needs → Tells (get_or needs i 0) (tile_handed ts i)

one_more : (Tells : ℕ → Tile → Type 0) (n : ℕ) (t : Tile) (needs : List ℕ) (ts : List Tile) → Tells n t → AreTold Tells needs ts → AreTold Tells (n ∷ needs) (t ∷ ts)
one_more Tells n t needs ts first rest = record { count = ap suc rest.count; each = one }
  where
    one : (i : ℕ) → i < length (n ∷ needs) → Tells (get_or (n ∷ needs) i 0) (tile_handed (t ∷ ts) i)
    one zero below = first
    one (suc i) below = rest.each i (omega arith)

pub are_told : {A : Type 0} (f : A → Tile) (Tells : ℕ → Tile → Type 0) (xs : List A) (needs : List ℕ) → AllZip (λ a n. Tells n (f a)) xs needs → AreTold Tells needs (map f xs)
are_told f Tells [] [] all = record { count = refl; each = λ i below. absurd (omega arith) }
are_told f Tells [] (n ∷ needs) all = absurd all
are_told f Tells (x ∷ xs) [] all = absurd all
are_told f Tells (x ∷ xs) (n ∷ needs) all = one_more Tells n (f x) needs (map f xs) all.0 (are_told f Tells xs needs all.1)

-- tiles that are told of a stretch of the needs stand in the list
pub stand_from : (Tells : ℕ → Tile → Type 0) (g : Tiling) (f : CellAt) (first : ℕ) (numbers front back needs : List ℕ) (ts : List Tile) → needs ≡ front ++ (map (λ tile. first + tile) numbers ++ back) → AreTold Tells needs ts →
    ((i : ℕ) → i < length numbers → (t : Tile) → Tells (first + get_or numbers i 0) t → IsCutTile g.cols (rect_of g (get_or numbers i 0)) f t) → StandFrom g f numbers (length front) ts
stand_from Tells g f first numbers front back needs ts are told cuts =
    let read = map (λ tile. first + tile) numbers in
    let many : length read ≡ length numbers = length-map numbers (λ tile. first + tile) in
    let size = ap length are in
    let sum = length-append front (read ++ back) in
    let part = length-append read back in
    let count = told.count in
    record {
      within = omega arith;
      each = λ i below.
          let there : get_or needs (length front + i) 0 ≡ first + get_or numbers i 0 =
          ap (λ (ns : List ℕ). get_or ns (length front + i) 0) are
          ∙ (get_or-append-add front (read ++ back) i 0
          ∙ (get_or_append_left read back 0 i (omega arith) ∙ get_or-map (λ tile. first + tile) numbers i 0 0 below)) in
          cuts i below (tile_handed ts (length front + i)) (subst (λ (n : ℕ). Tells n (tile_handed ts (length front + i))) there (told.each (length front + i) (omega arith)));
    }

-- ---- tiles of values

-- a part that has the cells of a map's cut is its tile
part_cut : (cols : ℕ) (r : Rect) (part : PartValue) (m : WholeMap) (t : Tile) → IsPartTile part t → part.cells ≡ cut_of cols m r → IsCutTile cols r (cell_at m) t
part_cut cols r part m (Part p) is same = record { part = tt; cells = ap (λ (x : PartValue). x.cells) is ∙ same }
part_cut cols r part m (Partial v) is same = absurd is

-- a task that gives a value publishes a part
value_part : (program : Program) (known : Known) (g : Tiling) (step : ℕ) (done : Done) (o : Operation) (c : Class) (n : ℕ) (t : Tile) → IsWorkTile program known g step done o (value_work c) n t → IsPartTile (tile_part program known step done o (rect_of g n)) t
value_part program known g step done o class.Local n t is = is
value_part program known g step done o class.Window n t is = is
value_part program known g step done o class.Near n t is = is
value_part program known g step done o class.Area n t is = is
value_part program known g step done o class.Flow n t is = is

-- what stands at a number of a list is one
pub one_there : (os : List Operation) (k n : ℕ) (o p : Operation) → k ≡ n → slice_get os k ≡ Some o → slice_get os n ≡ Some p → o ≡ p
one_there os k n o p same a b = let two : Some o ≡ Some p = sym a ∙ (ap (slice_get os) same ∙ b) in cc

-- ---- what makes an operand

-- the operation of the span that makes it
record IsMadeBy (program : Program) (s : Span) (known : Known) (l : Laid) (x : Operand) : Type 0 where
  place : ℕ
  maker : Laid
  there : slice_get (laid_in program s) place ≡ Some maker
  is : maker_of s (length program.dynamic) l.step x ≡ Some place
  cell : operand_cell (scene_of program.inputs known l.step) (onward_done program s known l.step) x ≡ cell_at (nth (section_maps s (onward_done program s known maker.step)) maker.number)

made_by : (program : Program) (s : Span) (known : Known) (l : Laid) (x : Operand) → IsSpan program s most_block → IsInSpan program s l → IsReadBefore program s l.number x → is_made s l.step x ≡ true → IsMadeBy program s known l x
made_by program (span.Initial first end) known l (Initial n) is_span in_span read made =
    let s : Span = span.Initial first end in
    let below : n < l.number = read in
    let from : first ≤ n = grind (arith, made, nat_tests) in
    let within = slice_get_within program.initial l.number l.operation in_span.there in
    let found = there program.initial n (omega arith) in
    record {
      place = n - first;
      maker = laid_at 0 n found.0;
      there = laid_there program s 0 n found.0 is_span refl (from, omega (arith, below, in_span.among.1)) found.1;
      is = ap (λ (b : Bool). cond b (Some (n - first)) None) made;
      cell = ap (λ (step : ℕ). cell_at (nth (onward_done program s known step).initial n)) in_span.at_step;
    }
made_by program (span.Steps first last) known l (Now n) is_span in_span read made =
    let s : Span = span.Steps first last in
    let below : n < l.number = read in
    let within = slice_get_within program.dynamic l.number l.operation in_span.there in
    let found = there program.dynamic n (omega arith) in
    record {
      place = (l.step - first) * length program.dynamic + n;
      maker = laid_at l.step n found.0;
      there = laid_there program s l.step n found.0 is_span in_span.at_step tt found.1;
      is = refl;
      cell = refl;
    }
made_by program (span.Steps first last) known l (Last d i) is_span in_span read made =
    let s : Span = span.Steps first last in
    let from : first < l.step = grind (arith, made, nat_tests) in
    let to : l.step ≤ last = in_span.at_step.1 in
    let found = there program.dynamic d read.of_dynamic in
    let done = onward_done program s known l.step in
    let some = is_span.some in
    let later : (l.step == 1) ≡ false = ne_eqb l.step 1 (λ same. omega (arith, same, from, some)) in
    record {
      place = (l.step - 1 - first) * length program.dynamic + d;
      maker = laid_at (l.step - 1) d found.0;
      there = laid_there program s (l.step - 1) d found.0 is_span (omega (arith, from), omega (arith, from, to)) tt found.1;
      is = ap (λ (b : Bool). cond b (Some ((l.step - 1 - first) * length program.dynamic + d)) None) made;
      cell = ap (λ (b : Bool). cell_at (cond b (nth done.initial i) (nth done.last d))) later ∙ ap (λ (maps : List WholeMap). cell_at (nth maps d)) (last_is program first last known l.step from to);
    }
made_by program (span.Initial first end) known l x is_span in_span read made = absurd (cc)
made_by program (span.Steps first last) known l x is_span in_span read made = absurd (cc)

-- what the span does not make none of its operations makes
not_made : (s : Span) (many step : ℕ) (x : Operand) → is_made s step x ≡ false → maker_of s many step x ≡ None
not_made (span.Initial first end) many step (Initial n) made = ap (λ (b : Bool). cond b (Some (n - first)) None) made
not_made (span.Steps first last) many step (Now n) made = absurd (cc)
not_made (span.Steps first last) many step (Last d i) made = ap (λ (b : Bool). cond b (Some ((step - 1 - first) * many + d)) None) made
not_made (span.Initial first end) many step x made = refl
not_made (span.Steps first last) many step x made = refl

module _ (plan : PlanValue) (s : Span) (program : Program) (known : Known) (planned : IsPlanned plan s program known) where
  abbrev g : Tiling
  g = plan.tiling

  abbrev laid : List Laid
  laid = laid_in program s

  abbrev y : Layout
  y = layout_of program s g

  abbrev Tells : ℕ → Tile → Type 0
  Tells = IsTaskTile plan s program known

  -- a tile lies in the maps that are known
  pub in_known : (tile : ℕ) → tile < tile_count g → IsInMap known.rows known.cols (rect_of g tile)
  in_known tile below = subst (λ (k : ℕ). IsInMap k known.cols (rect_of g tile)) planned.rows (subst (λ (k : ℕ). IsInMap g.rows k (rect_of g tile)) planned.cols (tile_in_map g tile below).0)

  -- what is told of a task of the span's operation
  pub tells_work : (l : Laid) (n tile : ℕ) (w : Work) (t : Tile) → IsInSpan program s l → task_at plan n ≡ task_for l w tile → Tells n t → IsWorkTile program known g l.step (onward_done program s known l.step) l.operation w tile t
  tells_work l n tile w t in_span task is =
      let same : is.operation ≡ l.operation = one_there (span_section program s) (task_at plan n).operation l.number is.operation l.operation (ap (λ (k : Task). k.operation) task) is.there in_span.there in
      let of = λ (k : Task) (p : Operation). IsWorkTile program known g k.step (onward_done program s known k.step) p k.work k.tile t in
      subst (λ (p : Operation). of (task_for l w tile) p) same (subst (λ (k : Task). of k is.operation) task is.is)

  -- the tile that a value's task publishes is the cut of its map
  value_cut : AreCutsOfMaps → (place : ℕ) (l : Laid) (tile : ℕ) (t : Tile) → slice_get laid place ≡ Some l → tile < tile_count g → Tells (get_or y.firsts place 0 + tile) t →
      IsCutTile g.cols (rect_of g tile) (cell_at (nth (section_maps s (onward_done program s known l.step)) l.number)) t
  value_cut law place l tile t there below is =
      let n = get_or y.firsts place 0 + tile in
      let r = rect_of g tile in
      let o = l.operation in
      let scene = scene_of program.inputs known l.step in
      let done = onward_done program s known l.step in
      let work = value_work (op_class o.op) in
      let task : task_at plan n ≡ task_for l work tile = ap (λ (p : PlanValue). task_at p n) planned.plans ∙ (give_the_values program s g place l tile there below).1 in
      let in_span = laid_is program s place l planned.spans there in
      let part = value_part program known g l.step done o (op_class o.op) tile t (tells_work l n tile work t in_span task is) in
      let whole = (operation_part program scene done o).cells in
      let map_is : nth (section_maps s done) l.number ≡ whole = done_map plan s program known l.step l.number o planned in_span.at_step in_span.among in_span.there in
      part_cut g.cols r (tile_part program known l.step done o r) (nth (section_maps s done) l.number) t part
      ((law program scene done o r (in_known tile below)).cells
      ∙ (ap (λ (m : WholeMap). cut_of known.cols m r) (sym map_is) ∙ ap (λ (k : ℕ). cut_of k (nth (section_maps s done) l.number) r) (sym planned.cols)))

  -- ---- operands

  -- the tasks of an operand that the span makes
  read_is : (l : Laid) (x : Operand) (numbers : List ℕ) (by : IsMadeBy program s known l x) → read_of y l x numbers ≡ map (λ tile. get_or y.firsts by.place 0 + tile) numbers
  read_is l x numbers by = ap (λ (m : Option ℕ). tiles_from (first_at y.firsts m) numbers) by.is

  -- as many as its tiles; none of one that it does not make
  pub read_count : (l : Laid) (x : Operand) (numbers : List ℕ) → IsInSpan program s l → IsReadBefore program s l.number x → length (read_of y l x numbers) ≡ many_for s l.step (length numbers) x
  read_count l x numbers in_span read = by_test (is_made s l.step x) refl
    where
      by_test : (b : Bool) → is_made s l.step x ≡ b → length (read_of y l x numbers) ≡ cond b (length numbers) 0
      by_test true made = let by = made_by program s known l x planned.spans in_span read made in ap length (read_is l x numbers by) ∙ length-map numbers (λ tile. get_or y.firsts by.place 0 + tile)
      by_test false made = ap (λ (m : Option ℕ). length (tiles_from (first_at y.firsts m) numbers)) (not_made s (length program.dynamic) l.step x made)

  -- the tiles of an operand stand where its tasks stand among the needs
  pub operand_in : AreCutsOfMaps → (l : Laid) (x : Operand) (numbers front back needs : List ℕ) (start : ℕ) (ts : List Tile) → IsInSpan program s l → IsReadBefore program s l.number x → ((i : ℕ) → i < length numbers → get_or numbers i 0 < tile_count g) →
      needs ≡ front ++ (read_of y l x numbers ++ back) → length front ≡ start → AreTold Tells needs ts → AreHandedIn program s known g l.step (onward_done program s known l.step) numbers x start ts
  operand_in law l x numbers front back needs start ts in_span read below are size told = λ made.
      let by = made_by program s known l x planned.spans in_span read made in
      let first = get_or y.firsts by.place 0 in
      let m = by.maker in
      let f = cell_at (nth (section_maps s (onward_done program s known m.step)) m.number) in
      let handed = stand_from Tells g f first numbers front back needs ts (are ∙ ap (λ (ns : List ℕ). front ++ (ns ++ back)) (read_is l x numbers by)) told
      (λ i few t tells. value_cut law by.place m (get_or numbers i 0) t by.there (below i few) tells) in
      subst (λ (n : ℕ). StandFrom g (operand_cell (scene_of program.inputs known l.step) (onward_done program s known l.step) x) numbers n ts) size
      (subst (λ (h : CellAt). StandFrom g h numbers (length front) ts) (sym by.cell) handed)
