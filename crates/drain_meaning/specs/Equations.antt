-- The equation of each transport.
use Rattle.std.specs.Prelude.{pos, ◌-ℤ◌, int_lt, Bool, List, if◌then◌else◌}
use Rattle.std.specs.Ordering.{int_eq}
use Rattle.cell_values.specs.declared.cell.Cell.{Cell}
use Rattle.drain_meaning.specs.declared.end.FlowEnd.{FlowEnd}
use Rattle.drain_meaning.specs.declared.flow.Flow.{Flow}
use Rattle.drain_meaning.specs.declared.flow.Flow.TheVariants as flow
use Rattle.drain_meaning.specs.declared.op.FlowOp.{FlowOp}
use Rattle.drain_meaning.specs.declared.op.FlowOp.TheVariants as op
use Rattle.drain_meaning.specs.declared.op.Orient.{Orient}
use Rattle.drain_meaning.specs.declared.op.Orient.TheVariants.{Down, Up}
use Rattle.drain_meaning.specs.Flows.{at_flows, material, together, total_flow}
use Rattle.drain_meaning.specs.Transports.{Transport}

-- an end whose outflow is its result
abbrev pub passing : Flow → FlowEnd
passing f = record { out = f; result = f }

-- an end with this outflow, whose result is what is kept of a total
abbrev pub keeping : Flow → Flow → FlowEnd
keeping total out = record { out = out; result = at_flows (λ x y. x -ℤ y) total out }

-- what is above a threshold, or nothing
abbrev pub above_threshold : Flow → Flow → Flow
above_threshold = at_flows (λ total threshold. if int_lt (total -ℤ threshold) (pos 0) then pos 0 else (total -ℤ threshold))

-- the farthest point down a path: what comes up from below, or the cell's own point where that is 0
abbrev pub farthest : Flow → Flow → Flow
farthest = at_flows (λ below own. if int_eq below (pos 0) then own else below)

-- the material of a cell and what flows into it
abbrev pub gathered_material : List Flow → Cell → Flow
gathered_material inflows a = together (total_flow inflows) (material a)

-- The equation of a transport: what the inflows of a cell and its two operands come to. A transport without a line of its
-- own is not built yet, and gives missing values.
unfoldable pub equation_of : FlowOp → List Flow → Cell → Cell → FlowEnd
equation_of op.Accuflux inflows a b = passing (gathered_material inflows a)
equation_of op.ThresholdFlux inflows a b = passing (above_threshold (gathered_material inflows a) (material b))
equation_of op.ThresholdState inflows a b =
    let total = gathered_material inflows a in keeping total (above_threshold total (material b))
equation_of op.Catchment inflows a b = passing (farthest (total_flow inflows) (material a))
equation_of _ inflows a b = passing flow.Mv

-- which cells feed a cell in a transport
abbrev pub orient_of : FlowOp → Orient
orient_of op.Catchment = Up
orient_of op.Subcatchment = Up
orient_of _ = Down

-- the transport of an operation
abbrev pub transport_of : FlowOp → Transport
transport_of o = record { orient = orient_of o; equation = equation_of o }

-- the operation with a threshold whose result is what the threshold keeps, or what flows on
abbrev pub threshold_op : Bool → FlowOp
threshold_op state = if state then op.ThresholdState else op.ThresholdFlux
