use Rattle.std.proofs.Common.{arith}
use Rattle.std.proofs.lemmas.List.{length_push}
use Rattle.tile_map.specs.Cuts.{cell_at}
use Rattle.drain_meaning.specs.Near.{downstream_of}
use Rattle.drain_ops.specs.inside.Cutout.{cutout}
use Rattle.drain_ops.proofs.FedLemmas.{each_more}
use Rattle.drain_ops.proofs.near.downstream_flows.Goals as goal

pub loop-number-preserved : goal.loop-number-preserved
loop-number-preserved c = rw c.in_ok-push.ensures.items (record {
  many = omega (arith, length_push c.loop-number.flows.items c.downstream_flow.result, c.loop-number.invariant.many);
  each = each_more c.loop-number.flows.items c.downstream_flow.result (downstream_of (cutout c.args.around c.args.codes.now) (cell_at c.args.cells.now)) c.loop-number.number c.loop-number.invariant.many c.loop-number.invariant.each c.downstream_flow.ensures;
})
