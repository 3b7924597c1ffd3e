-- The messages of a tile for others.
use Rattle.std.specs.Prelude.{ℕ, Bool, not, ◌&&◌, ◌==◌, List, length, Option, Some, None}
use Rattle.std.specs.List.{filter, find, list_all, list_any, range_with_len}
use Rattle.drain_meaning.specs.declared.op.Orient.{Orient}
use Rattle.drain_meaning.specs.Transports.{Transport}
use Rattle.border_channel.specs.declared.edge.Message.{Message}
use Rattle.border_channel.specs.Edges.{edge_at}
use Rattle.border_channel.specs.Locals.{local_end}
use Rattle.border_channel.specs.Settled.{is_settled}
use Rattle.border_channel.specs.TileFlows.{TileFlow, in_tile}

-- an edge leaves the tile
abbrev pub leaves : TileFlow → ℕ → Bool
leaves w e = in_tile w (edge_at w.edges e).source

-- an edge is among those that were sent
abbrev pub was_sent : List ℕ → ℕ → Bool
was_sent sent e = list_any (λ s. s == e) sent

-- an edge can be sent: it leaves the tile, its source is settled, and it was not sent
abbrev pub is_due : Orient → TileFlow → List ℕ → ℕ → Bool
is_due o w sent e = leaves w e && is_settled o w (edge_at w.edges e).source && not (was_sent sent e)

-- the least edge that can be sent
abbrev pub next_due : Orient → TileFlow → List ℕ → Option ℕ
next_due o w sent = find (is_due o w sent) (range_with_len 0 (length w.edges))

-- the message of an edge that leaves the tile: the local flow of its source
abbrev pub message_of : Transport → TileFlow → ℕ → Message
message_of t w e = record { edge = e; flow = (local_end t w (edge_at w.edges e).source).out }

-- the message of an edge, where there is one
abbrev pub message_for : Transport → TileFlow → Option ℕ → Option Message
message_for t w None = None
message_for t w (Some e) = Some (message_of t w e)

-- the next message, for the least edge that can be sent
abbrev pub next_message : Transport → TileFlow → List ℕ → Option Message
next_message t w sent = message_for t w (next_due t.orient w sent)

-- all edges that leave the tile were sent
abbrev pub all_sent : TileFlow → List ℕ → Bool
all_sent w sent = list_all (was_sent sent) (filter (leaves w) (range_with_len 0 (length w.edges)))
