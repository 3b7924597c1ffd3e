use Rattle.tile_map.specs.Cuts.{cell_at}
use Rattle.drain_ops.specs.inside.Cutout.{cutout}
use Rattle.drain_ops.proofs.FedLemmas.{HasCome}
use Rattle.drain_ops.proofs.near.upstream_flows.Given as goal

-- what has come to the cells so far
abbrev pub invariant-loop-number : goal.invariant-loop-number
invariant-loop-number l = HasCome (cutout l.around l.codes) (cell_at l.cells) l.flows.items l.number
