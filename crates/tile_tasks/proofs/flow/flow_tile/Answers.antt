-- The drain map and the operands are those of the definition.
use Rattle.std.proofs.Common.{◌∙◌, ℕ, List, map, ap, subst, sym}
use Rattle.std.specs.Arc.{arc_value}
use Rattle.map_meaning.specs.Evaluation.{Done}
use Rattle.map_meaning.specs.Programs.{kinds_of}
use Rattle.map_meaning.specs.Rules.{kind_at}
use Rattle.tile_map.proofs.Callers.{length-tabulate}
use Rattle.tile_map.specs.Args.{arg_cell}
use Rattle.tile_map.specs.Parts.{tabulate}
use Rattle.span_operands.proofs.Callers.{carried_kind}
use Rattle.task_tiles.specs.FlowTiles.{operand_tile}
use Rattle.task_tiles.specs.declared.tile.Tile.{Tile}
use Rattle.tile_tasks.specs.inside.Own.{IsShownFor, own_cell}
use Rattle.tile_tasks.specs.inside.Tasks.{many_for}
use Rattle.tile_tasks.specs.inside.Tiles.{tile_handed}
use Rattle.tile_tasks.proofs.FlowLemmas.{begun_is, has_word, known_drain, operand_is, operand_ranges}
use Rattle.tile_tasks.proofs.OwnLemmas.{own_shown}
use Rattle.tile_tasks.proofs.flow.flow_tile.Goals as goal

pub shown-a-requires : goal.shown-a-requires
shown-a-requires g c =
    let ts : List Tile = map arc_value c.args.tiles.now in
    own_shown c.args.program.now c.args.span c.args.known.now c.args.tiling.now c.args.step c.args.tile c.args.operation.a c.in_ok-own_a.own_a 0 ts c.requires.reads.0 c.in_ok-own_a.ensures c.requires.reads.1.each.a c.tile_size-size.result c.tile_size-size.ensures.value

pub shown-b-requires : goal.shown-b-requires
shown-b-requires g c =
    let ts : List Tile = map arc_value c.args.tiles.now in
    subst (λ (n : ℕ). IsShownFor c.in_ok-own_b.own_b ts n c.tile_size-size.result) (sym c.many-index.ensures.value)
    (own_shown c.args.program.now c.args.span c.args.known.now c.args.tiling.now c.args.step c.args.tile c.args.operation.b c.in_ok-own_b.own_b (many_for c.args.span c.args.step 1 c.args.operation.a) ts c.requires.reads.0 c.in_ok-own_b.ensures c.requires.reads.1.each.b c.tile_size-size.result c.tile_size-size.ensures.value)

pub begun-requires-clause-known : goal.begun-requires-clause-known
begun-requires-clause-known g c =
    let o = c.args.operation in
    c.requires.kit c.args.op (has_word c.args.op o.op (kinds_of c.args.program.now o) o.kind c.requires.scope.0 c.requires.task.one.kinds)

pub begun-requires-clause-can : goal.begun-requires-clause-can
begun-requires-clause-can g c =
    let o = c.args.operation in
    let program = c.args.program.now in
    let s = c.args.span in
    let known = c.args.known.now in
    let tiling = c.args.tiling.now in
    let ts : List Tile = map arc_value c.args.tiles.now in
    let task = c.requires.task in
    let drain = c.drain_map-drain.ensures in
    let m = c.drain_map-drain.result.now in
    let size = c.tile_size-size.result in
    let many = c.tile_size-size.ensures.value in
    let done : Done = c.requires.reads.0 in
    let reads = c.requires.reads.1 in
    let at_b = c.shown-b.ensures.cell ∙ ap (λ (n : ℕ). own_cell c.in_ok-own_b.own_b (tile_handed ts n)) c.many-index.ensures.value in
    record {
      size = record { rows = drain.rows ∙ sym task.rows; cols = drain.cols ∙ sym task.cols };
      tile_in = task.in_tiling;
      edges_are = c.requires.edges.edges_are m (known_drain known o.drain m c.requires.drain drain.rows drain.cols drain.codes);
      into_are = c.requires.edges.into_are;
      out_are = c.requires.edges.out_are;
      a_many = length-tabulate (arg_cell c.shown-a.result) size ∙ many;
      b_many = length-tabulate (arg_cell c.shown-b.result) size ∙ many;
      a_range = operand_ranges program s known tiling c.args.step c.args.tile o.a c.in_ok-own_a.own_a 0 ts done (arg_cell c.shown-a.result) size c.in_ok-own_a.ensures reads.each.a reads.each.agrees c.shown-a.ensures.cell many task.rows task.cols task.in_tiling reads.a;
      b_range = operand_ranges program s known tiling c.args.step c.args.tile o.b c.in_ok-own_b.own_b (many_for s c.args.step 1 o.a) ts done (arg_cell c.shown-b.result) size c.in_ok-own_b.ensures reads.each.b reads.each.agrees at_b many task.rows task.cols task.in_tiling
          reads.b;
    }

pub returns-clause-work : goal.returns-clause-work
returns-clause-work g c = λ done reads.
    let o = c.args.operation in
    let program = c.args.program.now in
    let s = c.args.span in
    let known = c.args.known.now in
    let tiling = c.args.tiling.now in
    let ts : List Tile = map arc_value c.args.tiles.now in
    let drain = c.drain_map-drain.ensures in
    let m = c.drain_map-drain.result.now in
    let size = c.tile_size-size.result in
    let many = c.tile_size-size.ensures.value in
    let along = known_drain known o.drain m c.requires.drain drain.rows drain.cols drain.codes in
    let at_b = c.shown-b.ensures.cell ∙ ap (λ (n : ℕ). own_cell c.in_ok-own_b.own_b (tile_handed ts n)) c.many-index.ensures.value in
    let carried = c.kind_or_scalar-kind.ensures ∙ carried_kind program known o c.requires.task.one c.requires.scope.1 in
    record {
      drain = m;
      along = along;
      is = begun_is (g.K.FlowKit.work_of c.in_ok-work.work) c.args.op c.kind_or_scalar-kind.result (kind_at (kinds_of program o) 1) m tiling c.args.tile c.args.edges.now
          (tabulate (arg_cell c.shown-a.result) size) (tabulate (arg_cell c.shown-b.result) size)
          (operand_tile program known tiling c.args.step done o.a c.args.tile) (operand_tile program known tiling c.args.step done o.b c.args.tile)
          c.in_ok-work.ensures carried (c.requires.edges.edges_are m along)
          (operand_is program s known tiling c.args.step c.args.tile o.a c.in_ok-own_a.own_a 0 ts done (arg_cell c.shown-a.result) size c.in_ok-own_a.ensures reads.each.a reads.each.agrees c.shown-a.ensures.cell many)
          (operand_is program s known tiling c.args.step c.args.tile o.b c.in_ok-own_b.own_b (many_for s c.args.step 1 o.a) ts done (arg_cell c.shown-b.result) size c.in_ok-own_b.ensures reads.each.b reads.each.agrees at_b many);
    }
