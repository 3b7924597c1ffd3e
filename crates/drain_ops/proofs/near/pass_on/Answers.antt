use Rattle.std.proofs.Common.{sym, arith}
use Rattle.tile_map.specs.Cuts.{cell_at}
use Rattle.drain_meaning.proofs.Callers.{next_inside}
use Rattle.drain_ops.proofs.FedLemmas.{came_set, fits_more, material_one}
use Rattle.drain_ops.specs.inside.Cutout.{cutout}
use Rattle.drain_ops.proofs.near.pass_on.Goals as goal

pub receive-requires-clause-within : goal.receive-requires-clause-within
receive-requires-clause-within c = let low = next_inside _ c.requires.cutout.map c.args.number c.in-Cell.down (sym c.in-Cell.ensures) in omega (arith, low, c.requires.many)

pub receive-requires-clause-fit : goal.receive-requires-clause-fit
receive-requires-clause-fit c = (c.args.number, 1, omega (arith, c.requires.number, c.requires.cutout.map.size, c.requires.cutout.map.few), c.requires.fit _, rw c.flow_of.ensures (material_one _ (c.requires.cutout.scalars c.args.number)))

pub returns-in-Cell-clause-came : goal.returns-in-Cell-clause-came
returns-in-Cell-clause-came c =
    let low = next_inside _ c.requires.cutout.map c.args.number c.in-Cell.down (sym c.in-Cell.ensures) in
    rw c.receive.ensures (came_set _ (cell_at c.args.cells.now) c.args.flows.now c.args.number c.in-Cell.down c.flow_of.result (omega (arith, low, c.requires.many)) (sym c.in-Cell.ensures) c.flow_of.ensures)

pub returns-in-Cell-clause-fit : goal.returns-in-Cell-clause-fit
returns-in-Cell-clause-fit c =
    let low = next_inside _ c.requires.cutout.map c.args.number c.in-Cell.down (sym c.in-Cell.ensures) in
    rw c.receive.ensures (λ d. fits_more (cutout c.args.around c.args.codes.now) (cell_at c.args.cells.now) d c.args.number _ _ (c.requires.cutout.scalars c.args.number) (c.requires.fit d) (came_set _ (cell_at c.args.cells.now) c.args.flows.now c.args.number c.in-Cell.down c.flow_of.result (omega (arith, low, c.requires.many)) (sym c.in-Cell.ensures) c.flow_of.ensures d))
