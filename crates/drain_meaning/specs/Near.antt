-- Values one step up and down stream.
use Rattle.std.specs.Prelude.{ℕ, map}
use Rattle.cell_values.specs.declared.cell.Cell.{Cell}
use Rattle.cell_values.specs.declared.kind.Kind.TheVariants.{Scalar}
use Rattle.tile_map.specs.Parts.{Outcome}
use Rattle.drain_meaning.specs.declared.flow.Flow.{Flow}
use Rattle.drain_meaning.specs.declared.next.Next.{Next}
use Rattle.drain_meaning.specs.declared.next.Next.TheVariants as next
use Rattle.drain_meaning.specs.declared.op.NearOp.{NearOp}
use Rattle.drain_meaning.specs.declared.op.NearOp.TheVariants.{Upstream, Downstream}
use Rattle.drain_meaning.specs.Drains.{DrainMap, next_at}
use Rattle.drain_meaning.specs.Flows.{flow_outcome, material, total_flow}
use Rattle.drain_meaning.specs.Transports.{tributaries, where_directed}

-- `upstream`: the values of the cells that drain directly into c, together
abbrev pub upstream_of : DrainMap → (ℕ → Cell) → ℕ → Flow
upstream_of m values c = total_flow (map (λ u. material (values u)) (tributaries m c))

-- the place that a cell drains into; at a pit its own
abbrev pub drained_place : ℕ → Next → ℕ
drained_place c (next.Cell d) = d
drained_place c next.Pit = c
drained_place c next.Outside = c
drained_place c next.Missing = c

-- `downstream`: the value of the cell drained into; at a pit its own
abbrev pub downstream_of : DrainMap → (ℕ → Cell) → ℕ → Flow
downstream_of m values c = material (values (drained_place c (next_at m c)))

-- the value of an operation that looks one step up or down
abbrev pub near_flow : NearOp → DrainMap → (ℕ → Cell) → ℕ → Flow
near_flow Upstream = upstream_of
near_flow Downstream = downstream_of

-- what such an operation gives at a place: missing where the drain map is, else a scalar, or Over
unfoldable pub near_outcome : NearOp → DrainMap → (ℕ → Cell) → ℕ → Outcome
near_outcome o m values c = flow_outcome Scalar (where_directed (next_at m c) (near_flow o m values c))
