-- What a transport over one tile gives: local flows, and the results of the tile.
use Rattle.std.specs.Prelude.{◌≡◌, ℕ, zero, suc, length, map, Option, Some, None, if◌then◌else◌}
use Rattle.tile_map.specs.Parts.{Outcome, part_of}
use Rattle.tile_map.specs.Rects.{cell_count, place_in}
use Rattle.tile_map.specs.declared.part.Part.{Part}
use Rattle.drain_meaning.specs.declared.end.FlowEnd.{FlowEnd}
use Rattle.drain_meaning.specs.declared.flow.Flow.{Flow}
use Rattle.drain_meaning.specs.declared.flow.Flow.TheVariants as flow
use Rattle.drain_meaning.specs.Drains.{next_at}
use Rattle.drain_meaning.specs.Flows.{flow_outcome}
use Rattle.drain_meaning.specs.Paths.{IsDirected}
use Rattle.drain_meaning.specs.Transports.{Transport, feeders, where_directed}
use Rattle.border_channel.specs.TileFlows.{TileFlow, came_over, in_tile, operand_in, tile_rect}

-- the flow that came, missing as long as none has
abbrev pub flow_that_came : Option Flow → Flow
flow_that_came (Some f) = f
flow_that_came None = flow.Mv

-- what flows from u into c: the outflow of u in the tile, or what was brought from another tile
abbrev pub local_inflow : TileFlow → (ℕ → FlowEnd) → ℕ → ℕ → Flow
local_inflow w ends c u = if in_tile w u then (ends u).out else flow_that_came (came_over w u c)

-- The ends are those of the tile: at each cell with a direction the equation of the transport over the tile's operands, the
-- ends of its cells and the messages that were taken.
abbrev pub AreLocalEnds : Transport → TileFlow → (ℕ → FlowEnd) → Type 0
AreLocalEnds t w ends =
    (c : ℕ) → IsDirected w.drain c →
    ends c ≡ t.equation (map (local_inflow w ends c) (feeders t.orient w.drain c)) (operand_in w w.a c) (operand_in w w.b c)

-- the end of a cell where flow has come over so many steps at most
abbrev pub local_after : Transport → TileFlow → ℕ → ℕ → FlowEnd
local_after t w zero c = record { out = flow.Mv; result = flow.Mv }
local_after t w (suc steps) c =
    t.equation (map (local_inflow w (local_after t w steps) c) (feeders t.orient w.drain c)) (operand_in w w.a c) (operand_in w w.b c)

-- the local end of a cell of the tile: its local flow is what flows out of it
unfoldable pub local_end : Transport → TileFlow → ℕ → FlowEnd
local_end t w c = local_after t w (length w.drain.codes) c

-- what the tile has at a place: missing where the drain map is
abbrev pub local_outcome : Transport → TileFlow → ℕ → Outcome
local_outcome t w c = flow_outcome w.kind (where_directed (next_at w.drain c) (local_end t w c).result)

-- the part of the tile
abbrev pub local_part : Transport → TileFlow → Part
local_part t w = part_of (λ i. local_outcome t w (place_in w.tiling.cols (tile_rect w) i)) (cell_count (tile_rect w))
