-- What flows over a border edge fits the load of its source.
use Rattle.std.proofs.Common.{◌≡◌, ◌∙◌, ℕ, ◌*◌, ◌<◌, true, List, length, refl, sym, ap, subst, inl, inr}
use Rattle.std.specs.Prelude.{Option}
use Rattle.cell_values.specs.declared.cell.Cell.{Cell}
use Rattle.tile_map.specs.Cuts.{cell_at}
use Rattle.tile_map.specs.Parts.{tabulate}
use Rattle.tile_map.specs.declared.tiling.Tiling.{Tiling}
use Rattle.drain_meaning.specs.declared.end.FlowEnd.{FlowEnd}
use Rattle.drain_meaning.specs.declared.flow.Flow.{Flow}
use Rattle.drain_meaning.specs.declared.op.FlowOp.{FlowOp}
use Rattle.drain_meaning.specs.declared.op.FlowOp.TheVariants as flow
use Rattle.drain_meaning.specs.declared.op.Orient.{Orient}
use Rattle.drain_meaning.specs.Drains.{DrainMap, IsDrainMap}
use Rattle.drain_meaning.specs.Equations.{orient_of, transport_of}
use Rattle.drain_meaning.specs.Flows.{FlowFits}
use Rattle.drain_meaning.specs.Paths.{IsDirected}
use Rattle.drain_meaning.specs.Sound.{IsDrain}
use Rattle.drain_meaning.specs.Transports.{Transport, end_of}
use Rattle.drain_meaning.proofs.Callers.{cases_directed, directed_within, feeder_feeds}
use Rattle.drain_meaning.proofs.EndLemmas.{ends_alike}
use Rattle.border_channel.specs.Edges.{HasSizeOf, border_edges_of, edge_at}
use Rattle.border_channel.specs.Laws.{FlowsFitLoads}
use Rattle.border_channel.specs.Loads.{load_of}
use Rattle.border_channel.proofs.Callers.{edges_listed, no_feeders}
use Rattle.map_meaning.specs.Maps.{CellAt}
use Rattle.map_meaning.specs.Programs.{kinds_of}
use Rattle.map_meaning.specs.Rules.{rule_of}
use Rattle.map_meaning.specs.Spans.{IsDrainOf}
use Rattle.map_meaning.specs.Table.{HasKinds, goes_along_drains, is_transport, map_row, row_of}
use Rattle.map_meaning.specs.declared.program.Operation.{Operation}
use Rattle.span_operands.specs.inside.Held.{HasDrainMap}
use Rattle.span_operands.proofs.Tables.{cell_at-tabulate, tabulate-scalars}
use Rattle.task_graph.specs.declared.task.Task.{Task}
use Rattle.task_graph.specs.Plans.{task_at}
use Rattle.task_laws.specs.Laws.{AreCutsOfMaps}
use Rattle.task_tiles.specs.FlowTiles.{task_operand}
use Rattle.task_tiles.specs.TaskTiles.{onward_done, span_section}
use Rattle.tile_tasks.specs.FlowLaws.{MessagesFit}
use Rattle.tile_tasks.specs.inside.Flows.{HasScalars}
use Rattle.tile_tasks.proofs.FlowLemmas.{has_word}
use Rattle.tile_tasks.proofs.FlowMeanings.{flow_rule}
use Rattle.tile_tasks.proofs.FlowTasks.{flow_task_is}
use Rattle.tile_tasks.proofs.NeedTiles.{one_there}
use Rattle.tile_tasks.proofs.RunLemmas.{flow_drain, flow_scalars, operation_kinds}

-- flows of the transports that have a word
fits_by : FlowsFitLoads (transport_of flow.Accuflux) → FlowsFitLoads (transport_of flow.ThresholdFlux) → FlowsFitLoads (transport_of flow.ThresholdState) → FlowsFitLoads (transport_of flow.Catchment) →
    (q : FlowOp) → is_transport q ≡ true → FlowsFitLoads (transport_of q)
fits_by accu flux state point flow.Accuflux is = accu
fits_by accu flux state point flow.ThresholdFlux is = flux
fits_by accu flux state point flow.ThresholdState is = state
fits_by accu flux state point flow.Catchment is = point
fits_by accu flux state point _ is = absurd (cc)

-- the source of a border edge has a direction
source_directed : (o : Orient) (m : DrainMap) (g : Tiling) → IsDrain m → HasSizeOf m g → (e : ℕ) → e < length (border_edges_of m g o) → IsDirected m (edge_at (border_edges_of m g o) e).source
source_directed o m g drain size e within =
    let edge = edge_at (border_edges_of m g o) e in
    let feeds = ((edges_listed m g o drain size).only e within).feeds in
    elim (cases_directed m edge.target) as (λ _. IsDirected m edge.source) [
      | inl directed ↦ (feeder_feeds o m drain.sound edge.target edge.source directed feeds).directed
      | inr missing ↦ absurd (no_feeders o m drain.sound edge.target edge.source missing feeds)
    ]

-- what flows out of a cell depends on the operands within the map alone
outflow_alike : (t : Transport) (m : DrainMap) (a b : CellAt) (places c : ℕ) → IsDrainMap m → length m.codes ≡ places → c < length m.codes →
    (end_of t m a b c).out ≡ (end_of t m (cell_at (tabulate a places)) (cell_at (tabulate b places)) c).out
unfolding end_of
outflow_alike t m a b places c is size within =
    let x = cell_at (tabulate a places) in
    let y = cell_at (tabulate b places) in
    ap (λ (e : FlowEnd). e.out) (ends_alike t m a b x y is (λ inflows d low.
    let inside : d < places = subst (λ (n : ℕ). d < n) size low in
    ap (λ (z : Cell). t.equation inflows z (b d)) (sym (cell_at-tabulate a places d inside)) ∙ ap (λ (z : Cell). t.equation inflows (x d) z) (sym (cell_at-tabulate b places d inside)))
    (length m.codes) c within)

pub messages_fit : AreCutsOfMaps → FlowsFitLoads (transport_of flow.Accuflux) → FlowsFitLoads (transport_of flow.ThresholdFlux) → FlowsFitLoads (transport_of flow.ThresholdState) → FlowsFitLoads (transport_of flow.Catchment) → MessagesFit
messages_fit law accu flux state point plan s program known t x planned below flows stands =
    let g = plan.tiling in
    let k = task_at plan t in
    let o = stands.operation in
    let q = stands.op in
    let m = stands.drain in
    let a = task_operand plan s program known t o.a in
    let b = task_operand plan s program known t o.b in
    let is = flow_task_is plan s program known t planned below flows in
    let l = is.of in
    let same : l.operation ≡ o = one_there (span_section program s) l.number k.operation l.operation o (sym (ap (λ (z : Task). z.operation) is.task)) is.in_span.there stands.there in
    let along : goes_along_drains o.op ≡ true = ap goes_along_drains stands.transport in
    let has : HasDrainMap known o.drain = subst (λ (p : Operation). HasDrainMap known p.drain) same
    (flow_drain law plan s program known planned l is.in_span is.tile is.below (ap (λ (p : Operation). goes_along_drains p.op) same ∙ along)) in
    let sound = subst (λ (z : Option DrainMap). IsDrainOf known.rows known.cols z) stands.along has in
    let kinds : HasKinds (map_row (row_of o.op)) (kinds_of program o) o.kind = subst (λ (p : Operation). HasKinds (map_row (row_of p.op)) (kinds_of program p) p.kind) same
    (operation_kinds law plan s program known planned l is.in_span is.tile is.below) in
    let word : is_transport q ≡ true = has_word q o.op (kinds_of program o) o.kind (ap rule_of stands.transport ∙ flow_rule q) kinds in
    let step : l.step ≡ k.step = sym (ap (λ (z : Task). z.step) is.task) in
    let scalars = flow_scalars law plan s program known planned l is.in_span is.tile is.below in
    let both = λ (n : ℕ) (p : Operation). HasScalars program known n (onward_done program s known n) p.a × HasScalars program known n (onward_done program s known n) p.b in
    let own : both k.step o = subst (λ (n : ℕ). both n o) step (subst (both l.step) same scalars) in
    let places = known.rows * known.cols in
    let size : length m.codes ≡ places = sound.0.map.size ∙ (ap (λ (n : ℕ). n * m.cols) sound.1 ∙ ap (λ (n : ℕ). known.rows * n) sound.2) in
    let fitting : HasSizeOf m g = record { rows = sound.1 ∙ sym planned.rows; cols = sound.2 ∙ sym planned.cols } in
    let source = (edge_at (border_edges_of m g (orient_of q)) x.edge).source in
    let directed : IsDirected m source = source_directed (orient_of q) m g sound.0 fitting x.edge stands.within in
    let fits : FlowFits (end_of (transport_of q) m (cell_at (tabulate a places)) (cell_at (tabulate b places)) source).out (load_of (orient_of q) m source) =
    fits_by accu flux state point q word m (cell_at (tabulate a places)) (cell_at (tabulate b places)) sound.0 (tabulate-scalars a places own.0) (tabulate-scalars b places own.1) source directed in
    subst (λ (f : Flow). FlowFits f (load_of (orient_of q) m source)) (sym (stands.brings ∙ outflow_alike (transport_of q) m a b places source sound.0.map size (directed_within m source directed))) fits
