-- What a transport over a tile keeps. Words of private contracts.
use Rattle.std.specs.Prelude.{◌≡◌, ℕ, ◌+◌, ◌<◌, ◌≤◌, true, false, not, ◌||◌, ◌==◌, List, [], ◌∷◌, length, map, get_or, Bool}
use Rattle.std.specs.List.{Contains}
use Rattle.drain_meaning.specs.Rules.{Accumulator}
use Rattle.drain_meaning.specs.Transports.{Transport}
use Rattle.border_channel.specs.declared.edge.Message.{Message}
use Rattle.border_channel.specs.Edges.{border_edges_of, edge_at}
use Rattle.border_channel.specs.Outbound.{was_sent}
use Rattle.border_channel.specs.TileFlows.{TileFlow, in_tile}
use Rattle.flow_task.specs.declared.link.Link.{Link}
use Rattle.flow_task.specs.inside.States.{State}
use Rattle.flow_task.specs.inside.Underway.{IsWorkBegun, IsUnderway, one_if, cell_place, passing_many, tile_size}

-- the link of a place in a list
abbrev pub link_at : List Link → ℕ → Link
link_at links k = get_or links k (record { edge = 0; cell = 0 })

-- the edge has a link in a list, that of this cell
pub record IsLinked (links : List Link) (e cell : ℕ) : Type 0 where
  pub at : ℕ
  pub within : at < length links
  pub edge_is : (link_at links at).edge ≡ e
  pub cell_is : (link_at links at).cell ≡ cell

-- the link of the edge stands at a place of a list
pub record IsLinkAt (links : List Link) (e at : ℕ) : Type 0 where
  pub within : at < length links
  pub edge_is : (link_at links at).edge ≡ e

-- the numbers of their edges ascend
abbrev pub Ascend : List Link → Type 0
Ascend links = (i j : ℕ) → i < j → j < length links → (link_at links i).edge < (link_at links j).edge

-- an edge has a link
pub record HasLink (links : List Link) (e : ℕ) : Type 0 where
  pub at : ℕ
  pub within : at < length links
  pub edge_is : (link_at links at).edge ≡ e

-- the list has the edges into the tile, ascending, with the numbers of their targets
pub record AreInbound (w : TileFlow) (links : List Link) : Type 0 where
  pub within : (k : ℕ) → k < length links → (link_at links k).edge < length w.edges
  pub cell_in : (k : ℕ) → k < length links → (link_at links k).cell < tile_size w
  pub target : (k : ℕ) → k < length links → cell_place w (link_at links k).cell ≡ (edge_at w.edges (link_at links k).edge).target
  pub each : (e : ℕ) → e < length w.edges → in_tile w (edge_at w.edges e).target ≡ true → HasLink links e
  pub ascends : Ascend links

-- the list has the edges that leave the tile, ascending, with the numbers of their sources
pub record AreOutbound (w : TileFlow) (links : List Link) : Type 0 where
  pub within : (k : ℕ) → k < length links → (link_at links k).edge < length w.edges
  pub cell_in : (k : ℕ) → k < length links → (link_at links k).cell < tile_size w
  pub source : (k : ℕ) → k < length links → cell_place w (link_at links k).cell ≡ (edge_at w.edges (link_at links k).edge).source
  pub each : (e : ℕ) → e < length w.edges → in_tile w (edge_at w.edges e).source ≡ true → HasLink links e
  pub ascends : Ascend links

-- the numbers of the edges
abbrev pub numbers : List Link → List ℕ
numbers links = map (λ link. link.edge) links

-- the message of an edge was taken
abbrev pub was_taken : List Message → ℕ → Bool
was_taken [] e = false
was_taken (x ∷ taken) e = (x.edge == e) || was_taken taken e

-- how many messages are still to come
abbrev pub still_to_come : TileFlow → List Link → ℕ
still_to_come w inbound = passing_many (λ e. not (was_taken w.taken e)) (numbers inbound)

-- all queued cells have had their turn, and there is room for all that can come
pub record IsWorkKept {A : Type 0} (t : Transport) (rule : Accumulator A) (w : TileFlow) (fed : List (List ℕ)) (s : State A)
    (inbound outbound : List Link) (queue_room taken_room : ℕ) : Type 0 where
  pub begun : IsWorkBegun t w fed w.a w.b
  pub edges_are : w.edges ≡ border_edges_of w.drain w.tiling t.orient
  pub underway : IsUnderway t rule w s (length s.queue)
  pub inbound_are : AreInbound w inbound
  pub outbound_are : AreOutbound w outbound
  pub taken_within : (x : Message) → Contains w.taken x → x.edge < length w.edges
  pub room : tile_size w ≤ queue_room
  pub room_to_take : still_to_come w inbound + length w.taken ≤ taken_room

-- how many of a list are true
abbrev pub how_many : List Bool → ℕ
how_many [] = 0
how_many (x ∷ xs) = one_if x + how_many xs

-- of each edge that leaves the tile it is kept whether it is still to be sent, with room for all
pub record AreUnsent (outbound : List Link) (unsent : List Bool) (sent : List ℕ) (room : ℕ) : Type 0 where
  pub many : length unsent ≡ length outbound
  pub is : (k : ℕ) → k < length outbound → get_or unsent k false ≡ not (was_sent sent (link_at outbound k).edge)
  pub to_send : how_many unsent + length sent ≡ length outbound
  pub wide : length outbound ≤ room
