use Rattle.std.proofs.Common.{◌≡◌, ℕ, ◌<◌, get_or, length, take}
use Rattle.std.specs.List.{flat_map}
use Rattle.plan_graph.specs.inside.Channels.{channels_before, receivers_for, rooms_for}
use Rattle.plan_graph.proofs.channels.channels_of.Given as goal

-- the channels of the transports so far
abbrev pub invariant-loop-flow : goal.invariant-loop-flow
invariant-loop-flow l = record {
  many : length l.firsts.items ≡ l.flow-index;
  firsts : (f : ℕ) → f < l.flow-index → get_or l.firsts.items f 0 ≡ channels_before l.joints l.flows f;
  receivers : l.receivers.items ≡ flat_map (receivers_for l.joints) (take l.flow-index l.flows);
  rooms : l.rooms.items ≡ flat_map (rooms_for l.joints) (take l.flow-index l.flows);
}
