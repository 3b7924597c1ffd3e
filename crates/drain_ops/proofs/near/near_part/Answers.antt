use Rattle.std.proofs.Common.{List, subst, sym}
use Rattle.drain_meaning.specs.declared.flow.Flow.{Flow}
use Rattle.drain_ops.proofs.NearLemmas.{AreFlows, part_result}
use Rattle.drain_ops.proofs.SurroundingLemmas.{around_cutout, inner_within}
use Rattle.drain_ops.proofs.near.near_part.Goals as goal

pub near_flows-requires : goal.near_flows-requires
near_flows-requires c = record { cutout = around_cutout _ _ _ _ _ _ c.requires.around_it }

pub inner_part-requires-clause-cutout : goal.inner_part-requires-clause-cutout
inner_part-requires-clause-cutout c = around_cutout _ _ _ _ _ _ c.requires.around_it

pub inner_part-requires-clause-within : goal.inner_part-requires-clause-within
inner_part-requires-clause-within c = inner_within _ _ _ _ _ _ c.requires.around_it

pub returns : goal.returns
returns c = part_result c.inner_part.result c.args.op c.args.codes.now c.args.cells.now c.args.around c.args.inner c.as_slice.result.now
    (subst (λ (flows : List Flow). AreFlows c.args.op c.args.around c.args.codes.now c.args.cells.now flows) (sym c.as_slice.ensures.value) (record { each = c.in_ok-flows.ensures.each }))
    c.inner_part.ensures
