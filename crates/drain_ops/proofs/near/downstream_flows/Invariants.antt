use Rattle.std.proofs.Common.{◌≡◌, ◌<◌, ℕ, length}
use Rattle.tile_map.specs.Cuts.{cell_at}
use Rattle.drain_meaning.specs.Near.{downstream_of}
use Rattle.drain_ops.specs.inside.Cutout.{cutout, flow_or_nothing}
use Rattle.drain_ops.proofs.near.downstream_flows.Given as goal

-- the flows so far
abbrev pub invariant-loop-number : goal.invariant-loop-number
invariant-loop-number l = record {
  many : length l.flows.items ≡ l.number;
  each : (d : ℕ) → d < l.number → flow_or_nothing l.flows.items d ≡ downstream_of (cutout l.around l.codes) (cell_at l.cells) d;
}
