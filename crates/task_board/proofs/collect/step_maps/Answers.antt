use Rattle.std.proofs.Common.{◌≡◌, ℕ, ◌+◌, ◌<◌, false, List, length, take, get_or, ap, ◌∙◌, subst, arith, w64, Fits}
use Rattle.std.proofs.lemmas.Option.{slice_get-get_or}
use Rattle.tile_map.specs.declared.tiling.Tiling.{Tiling}
use Rattle.tile_map.specs.Tiles.{tile_count}
use Rattle.cell_values.specs.declared.kind.Kind.TheVariants.{Boolean}
use Rattle.map_meaning.specs.declared.op.Op.TheVariants.{CopyOf}
use Rattle.map_meaning.specs.declared.program.Operand.TheVariants.{Unused}
use Rattle.map_meaning.specs.declared.program.Operation.{Operation}
use Rattle.map_meaning.specs.Maps.{WholeMap, nth}
use Rattle.task_graph.specs.Classes.{before_value, op_class, tasks_for}
use Rattle.task_graph.specs.Counts.{tasks_of}
use Rattle.task_board.specs.inside.Collected.{AreTilesOfMap, with_kept_map}
use Rattle.task_board.proofs.MapLemmas.{before_fewer, tasks_fewer, tasks_next, with_next_map}
use Rattle.task_board.proofs.collect.step_maps.Goals as goal

-- in the place of an operation where there is none
abbrev none' : Operation
none' = record {
  op = CopyOf;
  kind = Boolean;
  a = Unused;
  b = Unused;
  c = Unused;
  d = Unused;
  drain = 0;
  file = 0;
  window = 0;
  statement = 0;
  number = 0;
  kept = false;
}

fits : (n : ℕ) → n < 2305843009213693952 → Fits w64 n
fits n lt = grind arith

pub overflow_add-first : goal.overflow_add-first
overflow_add-first c =
    let os : List Operation = c.args.operations.now in
    let tiles : ℕ = tile_count c.args.tiling.now in
    let k : ℕ = c.loop-k.k in
    let o : Operation = get_or os k none' in
    let count = c.count-count.ensures in
    let is : c.before-in-loop-k.result ≡ before_value tiles (op_class o.op) = c.before-in-loop-k.ensures ∙ ap (λ (n : ℕ). before_value n (op_class o.op)) count in
    let next = tasks_next tiles os k none' (omega arith) in
    let few = tasks_fewer tiles os (k + 1) in
    let less = before_fewer tiles (op_class o.op) in
    let at = c.loop-k.invariant.next in
    let all = c.requires.tasks in
    fits (c.loop-k.task + c.before-in-loop-k.result) (omega arith)

pub overflow_add-task : goal.overflow_add-task
overflow_add-task c =
    let os : List Operation = c.args.operations.now in
    let tiles : ℕ = tile_count c.args.tiling.now in
    let k : ℕ = c.loop-k.k in
    let o : Operation = get_or os k none' in
    let count = c.count-count.ensures in
    let is : c.size-task.result ≡ tasks_for tiles (op_class o.op) = c.size-task.ensures ∙ ap (λ (n : ℕ). tasks_for n (op_class o.op)) count in
    let next = tasks_next tiles os k none' (omega arith) in
    let few = tasks_fewer tiles os (k + 1) in
    let at = c.loop-k.invariant.next in
    let all = c.requires.tasks in
    fits (c.loop-k.task + c.size-task.result) (omega arith)

pub keep_map-requires : goal.keep_map-requires
keep_map-requires c = λ kept.
    let os : List Operation = c.args.operations.now in
    let g : Tiling = c.args.tiling.now in
    let tiles : ℕ = tile_count g in
    let k : ℕ = c.loop-k.k in
    let o : Operation = get_or os k none' in
    let count = c.count-count.ensures in
    let is : c.before-in-loop-k.result ≡ before_value tiles (op_class o.op) = c.before-in-loop-k.ensures ∙ ap (λ (n : ℕ). before_value n (op_class o.op)) count in
    let at = c.loop-k.invariant.next in
    let first : c.args.start + tasks_of tiles (take k os) + before_value tiles (op_class o.op) ≡ c.loop-k.task + c.before-in-loop-k.result = omega arith in
    let there = c.requires.there in
    let m : WholeMap = nth there.0 (c.args.number + k) in
    (m, subst (λ (n : ℕ). AreTilesOfMap g c.args.tiles.now n m) first (there.1 k o (slice_get-get_or os k none' (omega arith)) kept))

pub loop-k-preserved : goal.loop-k-preserved
loop-k-preserved c =
    let os : List Operation = c.args.operations.now in
    let g : Tiling = c.args.tiling.now in
    let tiles : ℕ = tile_count g in
    let k : ℕ = c.loop-k.k in
    let o : Operation = get_or os k none' in
    let k_lt : k < length os = omega arith in
    let count = c.count-count.ensures in
    let is : c.before-in-loop-k.result ≡ before_value tiles (op_class o.op) = c.before-in-loop-k.ensures ∙ ap (λ (n : ℕ). before_value n (op_class o.op)) count in
    let size : c.size-task.result ≡ tasks_for tiles (op_class o.op) = c.size-task.ensures ∙ ap (λ (n : ℕ). tasks_for n (op_class o.op)) count in
    let next = tasks_next tiles os k none' k_lt in
    let at = c.loop-k.invariant.next in
    let first : c.args.start + tasks_of tiles (take k os) + before_value tiles (op_class o.op) ≡ c.loop-k.task + c.before-in-loop-k.result = omega arith in
    record {
      next = omega arith;
      maps = λ maps have.
          let m : WholeMap = nth maps (c.args.number + k) in
          c.in_ok-keep_map.ensures m (λ kept. subst (λ (n : ℕ). AreTilesOfMap g c.args.tiles.now n m) first (have k o (slice_get-get_or os k none' k_lt) kept))
          ∙ ap (with_kept_map c.args.step (c.args.number + k) o m) (c.loop-k.invariant.maps maps have)
          ∙ with_next_map c.args.step maps c.args.number k os none' c.args.into.now k_lt;
    }
