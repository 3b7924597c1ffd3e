-- What a work on an operation of the span is asked, and what it reads.
use Rattle.std.proofs.Common.{◌≡◌, ℕ, zero, suc, ◌+◌, ◌<◌, ◌≤◌, ◌/◌, true, false, List, [], ◌∷◌, ◌++◌, length, get_or, map, take, refl, sym, ap, subst, ◌∙◌, arith, append_assoc, append-nil, length-append}
use Rattle.std.specs.Prelude.{Option, Some, pos, slice_get}
use Rattle.std.specs.List.{range_with_len}
use Rattle.std.proofs.lemmas.List.FromFn.{get_or-range_with_len, length-range_with_len}
use Rattle.std.proofs.lemmas.List.{get_or-map, length-map}
use Rattle.cell_values.specs.declared.kind.Kind.{Kind}
use Rattle.cell_values.specs.declared.kind.Kind.TheVariants as kind
use Rattle.cell_values.specs.declared.cell.Cell.{Cell}
use Rattle.cell_values.specs.declared.cell.Cell.TheVariants.{Val}
use Rattle.region_meaning.specs.declared.area.AreaOp.{AreaOp}
use Rattle.tile_map.specs.Tiles.{rect_of, tile_count}
use Rattle.tile_map.specs.declared.tiling.Tiling.{Tiling}
use Rattle.map_meaning.specs.Evaluation.{Done}
use Rattle.map_meaning.specs.Programs.{IsOperation, IsStepOperation, IsWellFormed, kinds_of}
use Rattle.map_meaning.specs.Rules.{reach_of}
use Rattle.map_meaning.specs.Spans.{scene_of}
use Rattle.map_meaning.specs.Table.{HasKinds, goes_along_drains, map_row, row_of}
use Rattle.map_meaning.specs.declared.known.Known.{Known}
use Rattle.map_meaning.specs.declared.known.Span.{Span}
use Rattle.map_meaning.specs.declared.known.Span.TheVariants as span
use Rattle.map_meaning.specs.declared.program.Operand.{Operand}
use Rattle.map_meaning.specs.declared.program.Operand.TheVariants.{Literal}
use Rattle.map_meaning.specs.declared.program.Operation.{Operation}
use Rattle.map_meaning.specs.declared.program.Program.{Program}
use Rattle.map_meaning.proofs.WholeMaps.{operation_of, step_operation_of}
use Rattle.plan_graph.specs.Graphs.{is_flow_work}
use Rattle.span_operands.specs.Made.{AgreesWith, is_made, span_start}
use Rattle.span_operands.specs.declared.scope.Scope.{Scope}
use Rattle.span_operands.specs.declared.scope.Scope.TheVariants as scope
use Rattle.span_operands.specs.inside.Held.{HasDrainMap}
use Rattle.span_operands.specs.inside.Scopes.{IsScopeOf}
use Rattle.task_laws.specs.Laws.{AreCutsOfMaps}
use Rattle.task_laws.specs.Zones.{tile_zones, zones_in}
use Rattle.task_graph.specs.declared.class.Class.{Class}
use Rattle.task_graph.specs.declared.layout.Laid.{Laid}
use Rattle.task_graph.specs.declared.layout.Layout.{Layout}
use Rattle.task_graph.specs.declared.task.Work.{Work}
use Rattle.task_graph.specs.declared.task.Work.TheVariants as work
use Rattle.task_graph.specs.Classes.{classes_of, op_class}
use Rattle.task_graph.specs.Layouts.{laid_in, layout_of, tasks_in}
use Rattle.task_graph.specs.Needs.{halo_tiles, needs_of, read_of, reads_of, task_for}
use Rattle.task_graph.specs.Plans.{PlanValue, task_at}
use Rattle.task_graph.proofs.ReadLemmas.{halo_are_tiles}
use Rattle.task_tiles.specs.declared.tile.Tile.{Tile}
use Rattle.task_tiles.specs.TaskTiles.{IsPartialTile, IsPlanned, IsTaskTile, classes_at, onward_done, values_at}
use Rattle.task_tiles.proofs.Callers.{IsStepOf}
use Rattle.task_tiles.proofs.OnwardLemmas.{IsReadBefore}
use Rattle.tile_tasks.specs.inside.Areas.{ArePartials, IsZone, ReadsTotal, ReadsZones, class_operand, value_operand, zone_op}
use Rattle.tile_tasks.specs.inside.Flows.{HasScalars, ReadsFlow}
use Rattle.tile_tasks.specs.inside.Tasks.{AreHandedIn, IsTaskAt, ReadsAround, ReadsEach, many_for}
use Rattle.tile_tasks.specs.inside.Tiles.{tile_handed}
use Rattle.tile_tasks.specs.inside.Runs.{CanRun, ReadsFor, SuitsScope, halo_numbers}
use Rattle.tile_tasks.proofs.DoneKnown.{agrees}
use Rattle.tile_tasks.proofs.KnownLemmas.{OperationIs, drain_known, operation_is}
use Rattle.tile_tasks.proofs.LaidLemmas.{IsInSpan}
use Rattle.tile_tasks.proofs.NeedTiles.{AreTold, operand_in, read_count, tells_work}
use Rattle.tile_tasks.proofs.PlanTasks.{SuitsClass, merge_at, partial_at}
use Rattle.tile_tasks.proofs.ScalarLemmas.{operand_scalars}
use Rattle.tile_tasks.proofs.WorkLemmas.{area_class, classes_first, classes_second, half_window, partial_for, scope_class, suits_by}
use Rattle.tile_tasks.proofs.ZoneMeanings.{zone_is}

-- ---- the span's operations

-- the operands of an operation of the span stand before it
record ReadBefore (program : Program) (s : Span) (l : Laid) : Type 0 where
  a : IsReadBefore program s l.number l.operation.a
  b : IsReadBefore program s l.number l.operation.b
  c : IsReadBefore program s l.number l.operation.c
  d : IsReadBefore program s l.number l.operation.d

reads_before : (program : Program) (s : Span) (l : Laid) → IsWellFormed program → IsInSpan program s l → ReadBefore program s l
reads_before program (span.Initial first end) l formed in_span =
    let same : 0 + l.number ≡ l.number = omega arith in
    let is = subst (λ (k : ℕ). IsOperation program k l.operation) same (operation_of program 0 l.number program.initial l.operation formed.operations in_span.there) in
    record { a = is.a; b = is.b; c = is.c; d = is.d }
reads_before program (span.Steps first last) l formed in_span =
    let same : 0 + l.number ≡ l.number = omega arith in
    let is = subst (λ (k : ℕ). IsStepOperation program k l.operation) same (step_operation_of program 0 l.number program.dynamic l.operation formed.step_operations in_span.there) in
    record { a = is.a; b = is.b; c = is.c; d = is.d }

-- the steps of a span begin at its first one
starts : (s : Span) (step : ℕ) → IsStepOf s step → span_start s ≤ step
starts (span.Initial first end) step at = omega (arith, at)
starts (span.Steps first last) step at = at.0

-- no operation of a span makes a number
literal_not : (s : Span) (step : ℕ) (k : Kind) (c : Cell) → is_made s step (Literal k c) ≡ true → ⊥
literal_not (span.Initial first end) step k c made = cc
literal_not (span.Steps first last) step k c made = cc

literal_none : (s : Span) (step : ℕ) (k : Kind) (c : Cell) → many_for s step 1 (Literal k c) ≡ 0
literal_none (span.Initial first end) step k c = refl
literal_none (span.Steps first last) step k c = refl

module _ (law : AreCutsOfMaps) (plan : PlanValue) (s : Span) (program : Program) (known : Known) (planned : IsPlanned plan s program known) (l : Laid) (in_span : IsInSpan program s l) (tile : ℕ) (below : tile < tile_count plan.tiling) where
  abbrev g : Tiling
  g = plan.tiling

  abbrev y : Layout
  y = layout_of program s g

  abbrev o : Operation
  o = l.operation

  abbrev done : Done
  done = onward_done program s known l.step

  abbrev Tells : ℕ → Tile → Type 0
  Tells = IsTaskTile plan s program known

  agree : AgreesWith program s known l.step done
  agree = agrees program s known l.step in_span.at_step

  is : OperationIs program s known l.step o
  is = operation_is program s known l.step l.number o planned.well_formed planned.spans planned.knows in_span.at_step in_span.among in_span.there

  before : ReadBefore program s l
  before = reads_before program s l planned.well_formed in_span

  -- one tile
  own : (i : ℕ) → i < length (tile ∷ []) → get_or (tile ∷ []) i 0 < tile_count g
  own zero few = below
  own (suc i) few = absurd (omega arith)

  -- ---- operands one after the other

  each_read : (numbers needs : List ℕ) (ts : List Tile) → ((i : ℕ) → i < length numbers → get_or numbers i 0 < tile_count g) → needs ≡ reads_of y l numbers → AreTold Tells needs ts → ReadsEach program s known g l.step numbers o ts done
  each_read numbers needs ts inside are told =
      let a = read_of y l o.a numbers in
      let b = read_of y l o.b numbers in
      let c = read_of y l o.c numbers in
      let d = read_of y l o.d numbers in
      let many_a = read_count plan s program known planned l o.a numbers in_span before.a in
      let many_b = read_count plan s program known planned l o.b numbers in_span before.b in
      let many_c = read_count plan s program known planned l o.c numbers in_span before.c in
      let two = length-append a b in
      let three = length-append (a ++ b) c in
      record {
        agrees = agree;
        a = operand_in plan s program known planned law l o.a numbers [] (b ++ (c ++ d)) needs 0 ts in_span before.a inside are refl told;
        b = operand_in plan s program known planned law l o.b numbers a (c ++ d) needs (many_for s l.step (length numbers) o.a) ts in_span before.b inside are many_a told;
        c = operand_in plan s program known planned law l o.c numbers (a ++ b) d needs (many_for s l.step (length numbers) o.a + many_for s l.step (length numbers) o.b) ts in_span before.c inside (are ∙ sym (append_assoc a b (c ++ d))) (omega arith) told;
        d = operand_in plan s program known planned law l o.d numbers ((a ++ b) ++ c) [] needs (many_for s l.step (length numbers) o.a + many_for s l.step (length numbers) o.b + many_for s l.step (length numbers) o.c) ts in_span before.d inside
            (are ∙ (sym (append_assoc a b (c ++ d)) ∙ (sym (append_assoc (a ++ b) c d) ∙ ap (λ (ns : List ℕ). ((a ++ b) ++ c) ++ ns) (sym (append-nil d))))) (omega arith) told;
      }

  -- ---- by work

  -- the values and the classes stand among the operands
  zones_read : (sc : Scope) (ts : List Tile) → IsZone sc → ReadsEach program s known g l.step (tile ∷ []) o ts done → ReadsZones program s known g l.step tile (value_operand sc o) (class_operand sc o) ts done
  zones_read (scope.Zonal a) ts zone each = record { agrees = agree; of_values = each.a; of_classes = each.b }
  zones_read scope.ZoneSize ts zone each = record {
    agrees = agree;
    of_values = λ made. absurd (literal_not s l.step kind.Scalar (Val (pos 0)) made);
    of_classes = subst (λ (n : ℕ). AreHandedIn program s known g l.step done (tile ∷ []) o.a n ts) (sym (literal_none s l.step kind.Scalar (Val (pos 0)))) each.a;
  }
  zones_read (scope.Global a) ts zone each = record { agrees = agree; of_values = each.a; of_classes = λ made. absurd (literal_not s l.step kind.Nominal (Val (pos 1)) made) }
  zones_read _ ts zone each = absurd zone

  -- the partials of all tiles
  partials_read : (sc : Scope) (start : ℕ) (needs : List ℕ) (ts : List Tile) → IsZone sc → IsScopeOf sc o.op → ((i : ℕ) → i < tile_count g → task_at plan (start + i) ≡ task_for l work.Partial i) →
      needs ≡ map (λ partial. start + partial) (range_with_len 0 (tile_count g)) → AreTold Tells needs ts → ArePartials (zone_op sc) g ts (values_at program known l.step done o) (classes_at program known l.step done o)
  partials_read sc start needs ts zone scope_is tasks are told =
      let tiles = tile_count g in
      let range = range_with_len 0 tiles in
      let size : length needs ≡ tiles = ap length are ∙ (length-map range (λ partial. start + partial) ∙ length-range_with_len 0 tiles) in
      let count = told.count in
      let values = values_at program known l.step done o in
      let classes = classes_at program known l.step done o in
      record {
        count = count ∙ size;
        each = λ i few.
            let none : 0 + i ≡ i = omega arith in
            let there : get_or needs i 0 ≡ start + i =
            ap (λ (ns : List ℕ). get_or ns i 0) are
            ∙ (get_or-map (λ partial. start + partial) range i 0 0 (let n = length-range_with_len 0 tiles in omega arith)
            ∙ ap (λ (n : ℕ). start + n) (get_or-range_with_len 0 tiles i 0 few ∙ none)) in
            let is_partial = tells_work plan s program known planned l (start + i) i work.Partial (tile_handed ts i) in_span (tasks i few) (subst (λ (n : ℕ). Tells n (tile_handed ts i)) there (told.each i (omega arith))) in
            partial_for (zone_op sc) (zones_in g.cols (rect_of g i) values classes) (tile_handed ts i)
            (subst (λ (a : Option AreaOp). IsPartialTile a (zones_in g.cols (rect_of g i) values classes) (tile_handed ts i)) (zone_is sc o zone scope_is) is_partial);
      }

  -- the classes of a tile, behind the merge
  classes_read : (sc : Scope) (merge : ℕ) (needs : List ℕ) (ts : List Tile) → IsZone sc → IsScopeOf sc o.op → needs ≡ merge ∷ read_of y l (classes_of o) (tile ∷ []) → AreTold Tells needs ts →
      AreHandedIn program s known g l.step done (tile ∷ []) (class_operand sc o) 1 ts
  classes_read (scope.Zonal a) merge needs ts zone scope_is are told =
      let read = read_of y l o.b (tile ∷ []) in
      operand_in plan s program known planned law l o.b (tile ∷ []) (merge ∷ []) [] needs 1 ts in_span before.b own
      (are ∙ (ap (λ (x : Operand). merge ∷ read_of y l x (tile ∷ [])) (classes_second o.op o.a o.b a scope_is.0) ∙ ap (λ (ns : List ℕ). merge ∷ ns) (sym (append-nil read)))) refl told
  classes_read scope.ZoneSize merge needs ts zone scope_is are told =
      let read = read_of y l o.a (tile ∷ []) in
      operand_in plan s program known planned law l o.a (tile ∷ []) (merge ∷ []) [] needs 1 ts in_span before.a own
      (are ∙ (ap (λ (x : Operand). merge ∷ read_of y l x (tile ∷ [])) (classes_first o.op o.a o.b scope_is.0) ∙ ap (λ (ns : List ℕ). merge ∷ ns) (sym (append-nil read)))) refl told
  classes_read (scope.Global a) merge needs ts zone scope_is are told = λ made. absurd (literal_not s l.step kind.Nominal (Val (pos 1)) made)
  classes_read _ merge needs ts zone scope_is are told = absurd zone

  -- the merge, and then these classes
  total_read : (sc : Scope) (merge : ℕ) (needs : List ℕ) (ts : List Tile) → IsZone sc → IsScopeOf sc o.op → task_at plan merge ≡ task_for l work.Merge 0 → needs ≡ merge ∷ read_of y l (classes_of o) (tile ∷ []) → AreTold Tells needs ts →
      ReadsTotal program s known g l.step tile (zone_op sc) o (class_operand sc o) ts done
  total_read sc merge needs ts zone scope_is task are told =
      let values = values_at program known l.step done o in
      let classes = classes_at program known l.step done o in
      let zones = tile_zones g values classes (tile_count g) in
      let some : 0 < length needs = (let size = ap length are in omega arith) in
      let first : get_or needs 0 0 ≡ merge = ap (λ (ns : List ℕ). get_or ns 0 0) are in
      let is_total = tells_work plan s program known planned l merge 0 work.Merge (tile_handed ts 0) in_span task (subst (λ (n : ℕ). Tells n (tile_handed ts 0)) first (told.each 0 some)) in
      let count = told.count in
      record {
        agrees = agree;
        within = omega arith;
        total = partial_for (zone_op sc) zones (tile_handed ts 0) (subst (λ (a : Option AreaOp). IsPartialTile a zones (tile_handed ts 0)) (zone_is sc o zone scope_is) is_total);
        of_classes = classes_read sc merge needs ts zone scope_is are told;
      }

  -- the operation is one of the program's, at a step of the span
  pub task_is : IsTaskAt program s known g l.step tile o
  task_is = record {
    rows = planned.rows;
    cols = planned.cols;
    in_tiling = below;
    order = starts s l.step in_span.at_step;
    one = is.one;
    a = is.a;
    b = is.b;
    c = is.c;
    d = is.d;
  }

  -- what a task of the operation is asked
  pub run_is : (w : Work) (sc : Scope) → SuitsClass (op_class o.op) w → is_flow_work w ≡ false → IsScopeOf sc o.op → CanRun program s known g l.step tile o w sc
  run_is w sc suits plain scope_is = record {
    task = task_is;
    scope_is = scope_is;
    suits = suits_by sc w (subst (λ (c : Class). SuitsClass c w) (scope_class sc o.op scope_is) suits) plain;
    window = is.sound.window;
    drain = λ along. drain_known program s known l.step o.drain (is.drain along);
  }

  -- the operands of a transport's task are scalars
  pub flow_scalars : HasScalars program known l.step done o.a × HasScalars program known l.step done o.b
  flow_scalars =
      let scene = scene_of program.inputs known l.step in
      (operand_scalars program scene done o.a is.sound.a, operand_scalars program scene done o.b is.sound.b)

  -- its kinds are those of its row
  pub operation_kinds : HasKinds (map_row (row_of o.op)) (kinds_of program o) o.kind
  operation_kinds = is.one.kinds

  -- what a task of a transport reads
  pub flow_reads : (needs : List ℕ) (ts : List Tile) → needs ≡ reads_of y l (tile ∷ []) → AreTold Tells needs ts → ReadsFlow program s known g l.step tile o ts done
  flow_reads needs ts are told = record { each = each_read (tile ∷ []) needs ts own are told; a = flow_scalars.0; b = flow_scalars.1 }

  -- the drain map of one that goes along drains
  pub flow_drain : goes_along_drains o.op ≡ true → HasDrainMap known o.drain
  flow_drain along = drain_known program s known l.step o.drain (is.drain along)

  -- what it reads
  pub reads_are : (w : Work) (sc : Scope) (place : ℕ) (needs : List ℕ) (ts : List Tile) → slice_get (laid_in program s) place ≡ Some l → IsScopeOf sc o.op → SuitsScope w sc →
      needs ≡ needs_of y (tasks_in (tile_count g) (take place (laid_in program s))) l w tile → AreTold Tells needs ts → ReadsFor w sc program s known g l.step tile o ts done
  unfolding needs_of
  reads_are work.Local sc place needs ts there scope_is suits are told = each_read (tile ∷ []) needs ts own are told
  reads_are work.Window (scope.Focal w) place needs ts there scope_is suits are told =
      let k = o.window / 2 in
      let each = each_read (halo_tiles g k tile) needs ts (halo_are_tiles g k tile below) are told in
      let half : k ≡ reach_of o.window = half_window o.window (is.sound.window scope_is.2) in
      subst (λ (n : ℕ). ReadsAround program s known g l.step (halo_numbers g n tile) o.a ts done) half (record { agrees = agree; handed = each.a })
  reads_are work.Near sc place needs ts there scope_is suits are told =
      let each = each_read (halo_tiles g 1 tile) needs ts (halo_are_tiles g 1 tile below) are told in
      record { around = record { agrees = agree; handed = each.a }; scalars = operand_scalars program (scene_of program.inputs known l.step) done o.a is.sound.a }
  reads_are work.Partial sc place needs ts there scope_is suits are told = zones_read sc ts suits (each_read (tile ∷ []) needs ts own are told)
  reads_are work.Merge sc place needs ts there scope_is suits are told =
      let start = tasks_in (tile_count g) (take place (laid_in program s)) in
      let area = area_class sc o.op suits scope_is in
      partials_read sc start needs ts suits scope_is (λ i few. ap (λ (p : PlanValue). task_at p (start + i)) planned.plans ∙ partial_at program s g place l there area i few) are told
  reads_are work.Spread sc place needs ts there scope_is suits are told =
      let start = tasks_in (tile_count g) (take place (laid_in program s)) in
      let area = area_class sc o.op suits scope_is in
      total_read sc (start + tile_count g) needs ts suits scope_is (ap (λ (p : PlanValue). task_at p (start + tile_count g)) planned.plans ∙ merge_at program s g place l there area) are told
  reads_are w sc place needs ts there scope_is suits are told = absurd suits
