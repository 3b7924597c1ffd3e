-- What a transport's work over one tile gives: the tile of the whole map's values.
use Rattle.std.proofs.Common.{◌≡◌, ◌∙◌, ℕ, ◌*◌, ◌<◌, true, List, length, refl, sym, ap, subst}
use Rattle.std.specs.Prelude.{Option}
use Rattle.cell_values.specs.declared.cell.Cell.{Cell}
use Rattle.drain_meaning.specs.declared.op.FlowOp.{FlowOp}
use Rattle.drain_meaning.specs.Drains.{DrainMap}
use Rattle.drain_meaning.specs.Equations.{orient_of, transport_of}
use Rattle.drain_meaning.specs.Sound.{IsDrain}
use Rattle.drain_meaning.specs.Transports.{transport_outcome}
use Rattle.drain_meaning.proofs.Callers.{outcomes_alike}
use Rattle.border_channel.specs.Laws.{PartsAreRight, StandsForWhole}
use Rattle.border_channel.specs.Locals.{local_part}
use Rattle.border_channel.specs.Settled.{all_settled}
use Rattle.border_channel.specs.TileFlows.{TileFlow, with_taken}
use Rattle.flow_task.specs.Works.{TileWork}
use Rattle.tile_map.specs.Cuts.{cell_at}
use Rattle.tile_map.specs.Parts.{part_of, tabulate}
use Rattle.tile_map.specs.Rects.{cell_count, place_in}
use Rattle.tile_map.specs.Tiles.{rect_of, tile_count}
use Rattle.tile_map.specs.declared.part.Part.{Part}
use Rattle.tile_map.specs.declared.rect.Rect.{Rect}
use Rattle.tile_map.specs.declared.tiling.Tiling.{Tiling}
use Rattle.tile_map.proofs.Callers.{part_of-same, tile_in_map}
use Rattle.tile_map.proofs.RectLemmas.{place_below}
use Rattle.map_meaning.specs.Evaluation.{Done, operand_cell}
use Rattle.map_meaning.specs.Maps.{CellAt, WholeMap, nth}
use Rattle.map_meaning.specs.Programs.{kinds_of}
use Rattle.map_meaning.specs.Rules as rule
use Rattle.map_meaning.specs.Rules.{drain_by, kind_at, rule_of}
use Rattle.map_meaning.specs.Spans.{scene_of}
use Rattle.map_meaning.specs.Table.{goes_along_drains}
use Rattle.map_meaning.specs.declared.known.Known.{Known}
use Rattle.map_meaning.specs.declared.program.Operand.{Operand}
use Rattle.map_meaning.specs.declared.program.Operation.{Operation}
use Rattle.map_meaning.specs.declared.program.Program.{Program}
use Rattle.span_operands.proofs.Tables.{cell_at-tabulate}
use Rattle.map_meaning.specs.Spans.{IsDrainOf}
use Rattle.map_meaning.specs.declared.op.Op.TheVariants as op
use Rattle.border_channel.specs.Edges.{border_edges_of}
use Rattle.flow_task.specs.Works.{flow_begun}
use Rattle.span_operands.specs.inside.Held.{HasDrainMap}
use Rattle.task_graph.specs.declared.task.Task.{Task}
use Rattle.task_graph.specs.declared.task.Work.{Work}
use Rattle.task_graph.specs.Plans.{task_at}
use Rattle.task_laws.specs.Laws.{AreCutsOfMaps}
use Rattle.task_tiles.specs.FlowTiles.{operand_tile}
use Rattle.task_tiles.proofs.Callers.{IsStepOf}
use Rattle.task_tiles.specs.TaskTiles.{IsWorkTile, onward_done, span_section, tile_part}
use Rattle.task_tiles.specs.declared.tile.Tile.TheVariants as published
use Rattle.task_tiles.specs.FlowTiles.{task_operand}
use Rattle.tile_tasks.specs.FlowLaws.{GiveTheirTiles}
use Rattle.tile_tasks.proofs.DoneKnown.{agrees}
use Rattle.tile_tasks.proofs.FlowLemmas.{known_codes_are}
use Rattle.tile_tasks.proofs.FlowTasks.{flow_task_is, flow_work}
use Rattle.tile_tasks.proofs.HaloMeanings.{along_part, drain_is}
use Rattle.tile_tasks.proofs.NeedTiles.{one_there}
use Rattle.tile_tasks.proofs.RunLemmas.{flow_drain}

module _ (program : Program) (known : Known) (g : Tiling) (step tile : ℕ) (done : Done) (o : Operation) (q : FlowOp) (m : DrainMap) (rows : g.rows ≡ known.rows) (cols : g.cols ≡ known.cols) (below : tile < tile_count g)
    (is : rule_of o.op ≡ rule.Along q) (along : goes_along_drains o.op ≡ true) (sound : IsDrain m) (high : m.rows ≡ known.rows) (wide : m.cols ≡ known.cols) (codes : m.codes ≡ nth done.drains o.drain) where
  abbrev cell : Operand → CellAt
  cell = operand_cell (scene_of program.inputs known step) done

  abbrev r : Rect
  r = rect_of g tile

  abbrev places : ℕ
  places = known.rows * known.cols

  -- the part of a rectangle that a transport gives, along a drain map of so many columns
  along_rect : DrainMap → CellAt → CellAt → ℕ → Part
  along_rect d a b wide_by = part_of (λ i. transport_outcome (transport_of q) (kind_at (kinds_of program o) 1) d a b (place_in wide_by r i)) (cell_count r)

  -- the results over a tile's places are the tile of the operation's map
  pub flow_part : part_of (λ i. transport_outcome (transport_of q) (kind_at (kinds_of program o) 1) m (cell o.a) (cell o.b) (place_in g.cols r i)) (cell_count r) ≡ tile_part program known step done o r
  unfolding along_rect
  flow_part =
      let t = transport_of q in
      let kind = kind_at (kinds_of program o) 1 in
      let a = cell_at (tabulate (cell o.a) places) in
      let b = cell_at (tabulate (cell o.b) places) in
      let size : length m.codes ≡ places = sound.map.size ∙ (ap (λ (n : ℕ). n * m.cols) high ∙ ap (λ (n : ℕ). known.rows * n) wide) in
      let all : g.rows * g.cols ≡ places = ap (λ (n : ℕ). n * g.cols) rows ∙ ap (λ (n : ℕ). known.rows * n) cols in
      let same = drain_is program known step done o m high wide codes size in
      part_of-same (λ i. transport_outcome t kind m (cell o.a) (cell o.b) (place_in g.cols r i)) (λ i. transport_outcome t kind m a b (place_in g.cols r i)) (cell_count r)
      (λ i less.
      let place : place_in g.cols r i < g.rows * g.cols = place_below g.rows g.cols r i (tile_in_map g tile below).0 less in
      outcomes_alike t kind m (cell o.a) (cell o.b) a b sound.map (λ inflows d within.
      let inside : d < places = subst (λ (n : ℕ). d < n) size within in
      ap (λ (x : Cell). t.equation inflows x (cell o.b d)) (sym (cell_at-tabulate (cell o.a) places d inside))
      ∙ ap (λ (x : Cell). t.equation inflows (a d) x) (sym (cell_at-tabulate (cell o.b) places d inside)))
      (place_in g.cols r i) (subst (λ (n : ℕ). place_in g.cols r i < n) (all ∙ sym size) place))
      ∙ (ap (λ (n : ℕ). along_rect m a b n) cols
      ∙ (ap (λ (d : DrainMap). along_rect d a b known.cols) same
      ∙ along_part program known step done o (rule.Along q) r is along))

-- ---- the law

pub flow_rule : (q : FlowOp) → rule_of (op.Flow q) ≡ rule.Along q
unfolding rule_of
flow_rule q = refl

pub give_their_tiles : AreCutsOfMaps → PartsAreRight → GiveTheirTiles
give_their_tiles law right plan s program known t w taken planned below flows begun whole settled =
    let g = plan.tiling in
    let k = task_at plan t in
    let step = k.step in
    let done = onward_done program s known step in
    let o = begun.operation in
    let q = w.which in
    let on = begun.is in
    let m = on.drain in
    let a = task_operand plan s program known t o.a in
    let b = task_operand plan s program known t o.b in
    let is = flow_task_is plan s program known t planned below flows in
    let l = is.of in
    let same : l.operation ≡ o = one_there (span_section program s) l.number k.operation l.operation o (sym (ap (λ (x : Task). x.operation) is.task)) is.in_span.there begun.there in
    let along : goes_along_drains o.op ≡ true = ap goes_along_drains begun.transport in
    let has : HasDrainMap known o.drain = subst (λ (p : Operation). HasDrainMap known p.drain) same
    (flow_drain law plan s program known planned l is.in_span is.tile is.below (ap (λ (p : Operation). goes_along_drains p.op) same ∙ along)) in
    let sound = subst (λ (x : Option DrainMap). IsDrainOf known.rows known.cols x) on.along has in
    let at_step = subst (λ (x : Task). IsStepOf s x.step) (sym is.task) is.in_span.at_step in
    let codes : m.codes ≡ nth done.drains o.drain = sym (known_codes_are known o.drain m on.along) ∙ ap (λ (ms : List WholeMap). nth ms o.drain) (sym (agrees program s known step at_step).drains) in
    let tile_below : k.tile < tile_count g = subst (λ (x : Task). x.tile < tile_count g) (sym is.task) is.below in
    let first : TileFlow = flow_begun (kind_at (kinds_of program o) 1) m g k.tile (border_edges_of m g (orient_of q)) (operand_tile program known g step done o.a k.tile) (operand_tile program known g step done o.b k.tile) in
    let of_is : w.of ≡ first = ap (λ (x : TileWork FlowOp). x.of) on.is in
    let part : local_part (transport_of q) (with_taken w.of taken) ≡ tile_part program known step done o (rect_of g k.tile) =
    ap (λ (f : TileFlow). local_part (transport_of q) (with_taken f taken)) of_is
    ∙ (right (transport_of q) (with_taken first taken) a b
    (record { drain = sound.0; size = record { rows = sound.1 ∙ sym planned.rows; cols = sound.2 ∙ sym planned.cols }; tile = tile_below })
    (subst (λ (f : TileFlow). StandsForWhole (transport_of q) (with_taken f taken) a b) of_is whole)
    (subst (λ (f : TileFlow). all_settled (orient_of q) (with_taken f taken) ≡ true) of_is settled)
    ∙ flow_part program known g step k.tile done o q m planned.rows planned.cols tile_below (ap rule_of begun.transport ∙ flow_rule q) along sound.0 sound.1 sound.2 codes) in
    record {
      operation = o;
      there = begun.there;
      is = subst (λ (v : Work). IsWorkTile program known g step done o v k.tile (published.Part (local_part (transport_of q) (with_taken w.of taken)))) (sym (flow_work k.work flows)) part;
    }
