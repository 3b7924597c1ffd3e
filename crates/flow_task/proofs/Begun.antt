-- A transport over a tile keeps what it promises when it begins.
use Rattle.std.proofs.Common.{◌≡◌, ℕ, ◌<◌, ◌≤◌, List, [], length, map, refl, sym, ap, subst, ◌∙◌, arith, true, false, get_or}
use Rattle.std.proofs.lemmas.List.{length-map}
use Rattle.cell_values.specs.declared.cell.Cell.{Cell}
use Rattle.cell_values.specs.declared.kind.Kind.{Kind}
use Rattle.tile_map.specs.Rects.{cell_count}
use Rattle.tile_map.specs.Tiles.{rect_of}
use Rattle.tile_map.specs.declared.rect.Rect.{Rect}
use Rattle.tile_map.specs.declared.tiling.Tiling.{Tiling}
use Rattle.drain_meaning.specs.declared.op.Orient.{Orient}
use Rattle.drain_meaning.specs.Drains.{DrainMap}
use Rattle.drain_meaning.specs.Rules.{Accumulator, RuleLaws}
use Rattle.drain_meaning.specs.Sound.{IsDrain}
use Rattle.drain_meaning.specs.Transports.{Transport}
use Rattle.border_channel.specs.declared.edge.Edge.{Edge}
use Rattle.border_channel.specs.Edges.{border_edges_of}
use Rattle.border_channel.specs.Laws.{IsTileOf}
use Rattle.border_channel.specs.TileFlows.{TileFlow}
use Rattle.flow_task.specs.declared.about.About.{About}
use Rattle.flow_task.specs.declared.link.Link.{Link}
use Rattle.flow_task.specs.Works.{CanBegin, flow_begun}
use Rattle.flow_task.specs.inside.Abouts.{flow_of}
use Rattle.flow_task.specs.inside.Begins.{CanLink, fed_in_tile, missing_first, none_missing, over_cells, tile_link}
use Rattle.flow_task.specs.inside.Kept.{AreOutbound, IsWorkKept}
use Rattle.flow_task.specs.inside.States.{State, state}
use Rattle.flow_task.specs.inside.Underway.{IsWorkBegun, IsUnderway}
use Rattle.flow_task.proofs.Beginning.{come_few, inbound_begin, links_begin, outbound_begin, side_at, side_links, underway_begin}

-- what the code keeps is what the transport begins with
pub flow_same : (o : Orient) (about : About) (a b c d : List Cell) (m : DrainMap) (edges : List Edge) → about.drain.value ≡ m → edges ≡ border_edges_of m about.tiling o → about.taken.items ≡ [] → a ≡ c → b ≡ d →
    flow_of o about a b ≡ flow_begun about.kind m about.tiling about.tile edges c d
flow_same o about a b c d m edges drain are none one two =
    let all : border_edges_of about.drain.value about.tiling o ≡ edges = ap (λ (y : DrainMap). border_edges_of y about.tiling o) drain ∙ sym are in
    cc

-- the tile of a transport that begins
begun_tile : (o : Orient) (kind : Kind) (m : DrainMap) (g : Tiling) (tile : ℕ) (edges : List Edge) (into out : List ℕ) (a b : List Cell) → CanBegin o m g tile edges into out a b → IsDrain m → IsTileOf (flow_begun kind m g tile edges a b)
begun_tile o kind m g tile edges into out a b can drain = record { drain = drain; size = can.size; tile = can.tile_in }

-- its edges can have links
pub into_linked : (o : Orient) (kind : Kind) (m : DrainMap) (g : Tiling) (tile : ℕ) (edges : List Edge) (into out : List ℕ) (a b : List Cell) → CanBegin o m g tile edges into out a b → IsDrain m → (k : ℕ) → k < length into → CanLink g tile edges true (get_or into k 0)
into_linked o kind m g tile edges into out a b can drain k low =
    let w = flow_begun kind m g tile edges a b in
    let side = side_at w o true (begun_tile o kind m g tile edges into out a b can drain) can.edges_are k (subst (λ (y : List ℕ). k < length y) can.into_are low) in
    subst (λ (y : List ℕ). CanLink g tile edges true (get_or y k 0)) (sym can.into_are) (record { within = side.below; holds = side.held })

pub out_linked : (o : Orient) (kind : Kind) (m : DrainMap) (g : Tiling) (tile : ℕ) (edges : List Edge) (into out : List ℕ) (a b : List Cell) → CanBegin o m g tile edges into out a b → IsDrain m → (k : ℕ) → k < length out → CanLink g tile edges false (get_or out k 0)
out_linked o kind m g tile edges into out a b can drain k low =
    let w = flow_begun kind m g tile edges a b in
    let side = side_at w o false (begun_tile o kind m g tile edges into out a b can drain) can.edges_are k (subst (λ (y : List ℕ). k < length y) can.out_are low) in
    subst (λ (y : List ℕ). CanLink g tile edges false (get_or y k 0)) (sym can.out_are) (record { within = side.below; holds = side.held })

-- the links of the edges that leave the tile
pub outbound_of : (o : Orient) (kind : Kind) (m : DrainMap) (g : Tiling) (tile : ℕ) (edges : List Edge) (into out : List ℕ) (a b : List Cell) → CanBegin o m g tile edges into out a b → IsDrain m → (links : List Link) → links ≡ map (tile_link g tile edges false) out → AreOutbound (flow_begun kind m g tile edges a b) links
outbound_of o kind m g tile edges into out a b can drain links made =
    let w = flow_begun kind m g tile edges a b in
    outbound_begin w links (side_links w o false (begun_tile o kind m g tile edges into out a b can drain) can.edges_are links (made ∙ ap (map (tile_link g tile edges false)) can.out_are))

-- what was made of the tile's cells
pub record Made {A : Type 0} (t : Transport) (rule : Accumulator A) (m : DrainMap) (g : Tiling) (tile : ℕ) (fed : List (List ℕ)) (missing queue : List ℕ) (inflows : List A) : Type 0 where
  pub rect : Rect
  pub rect_is : rect ≡ rect_of g tile
  pub fed_is : fed ≡ over_cells (fed_in_tile t.orient m g tile) (cell_count rect)
  pub missing_is : missing ≡ over_cells (missing_first t.orient m g tile) (cell_count rect)
  pub queue_is : queue ≡ none_missing missing
  pub inflows_are : inflows ≡ over_cells (λ i. rule.none) (cell_count rect)

pub begun_of : {A : Type 0} (t : Transport) (rule : Accumulator A) (kind : Kind) (m : DrainMap) (g : Tiling) (tile : ℕ) (edges : List Edge) (into out : List ℕ) (a b : List Cell) → CanBegin t.orient m g tile edges into out a b → IsDrain m → (fed : List (List ℕ)) (missing queue : List ℕ) (inflows : List A) → Made t rule m g tile fed missing queue inflows →
    IsWorkBegun t (flow_begun kind m g tile edges a b) fed a b
begun_of t rule kind m g tile edges into out a b can drain fed missing queue inflows made =
    let w = flow_begun kind m g tile edges a b in
    let is = begun_tile t.orient kind m g tile edges into out a b can drain in
    record {
      tile = is;
      a_is = refl;
      b_is = refl;
      a_many = can.a_many;
      b_many = can.b_many;
      a_range = can.a_range;
      b_range = can.b_range;
      links = links_begin t.orient w fed is (made.fed_is ∙ ap (λ (r : Rect). over_cells (fed_in_tile t.orient m g tile) (cell_count r)) made.rect_is);
    }

pub begun_moved : (t : Transport) (v w : TileFlow) (fed : List (List ℕ)) (a b c d : List Cell) → v ≡ w → c ≡ a → d ≡ b → IsWorkBegun t w fed a b → IsWorkBegun t v fed c d
begun_moved t v w fed a b c d same one two begun =
    subst (λ (y : TileFlow). IsWorkBegun t y fed c d) (sym same) (subst (λ (y : List Cell). IsWorkBegun t w fed y d) (sym one) (subst (λ (y : List Cell). IsWorkBegun t w fed a y) (sym two) begun))

pub underway_of : {A : Type 0} (t : Transport) (rule : Accumulator A) → RuleLaws t rule → (kind : Kind) (m : DrainMap) (g : Tiling) (tile : ℕ) (edges : List Edge) (a b : List Cell) (fed : List (List ℕ)) (missing queue : List ℕ) (inflows : List A) → Made t rule m g tile fed missing queue inflows →
    IsUnderway t rule (flow_begun kind m g tile edges a b) (state inflows missing queue) 0
underway_of t rule laws kind m g tile edges a b fed missing queue inflows made =
    underway_begin t rule laws (flow_begun kind m g tile edges a b) refl (state inflows missing queue)
    (record {
      missing = made.missing_is ∙ ap (λ (r : Rect). over_cells (missing_first t.orient m g tile) (cell_count r)) made.rect_is;
      queue = made.queue_is;
      inflows = made.inflows_are ∙ ap (λ (r : Rect). over_cells (λ i. rule.none) (cell_count r)) made.rect_is;
    })

-- What is kept when all that can settle has.
pub kept_of : {A : Type 0} (t : Transport) (rule : Accumulator A) (kind : Kind) (m : DrainMap) (g : Tiling) (tile : ℕ) (edges : List Edge) (into out : List ℕ) (a b : List Cell) → CanBegin t.orient m g tile edges into out a b → IsDrain m → (fed : List (List ℕ)) → IsWorkBegun t (flow_begun kind m g tile edges a b) fed a b →
    (s : State A) → IsUnderway t rule (flow_begun kind m g tile edges a b) s (length s.queue) → (inbound outbound : List Link) → inbound ≡ map (tile_link g tile edges true) into → outbound ≡ map (tile_link g tile edges false) out → (queue_room taken_room : ℕ) → cell_count (rect_of g tile) ≤ queue_room → length into ≤ taken_room →
    IsWorkKept t rule (flow_begun kind m g tile edges a b) fed s inbound outbound queue_room taken_room
kept_of t rule kind m g tile edges into out a b can drain fed begun s under inbound outbound one two queue_room taken_room wide_queue wide_taken =
    let w = flow_begun kind m g tile edges a b in
    let is = begun_tile t.orient kind m g tile edges into out a b can drain in
    let few = come_few w inbound in
    let many : length inbound ≡ length into = ap length one ∙ length-map into (tile_link g tile edges true) in
    record {
      begun = begun;
      edges_are = can.edges_are;
      underway = under;
      inbound_are = inbound_begin w inbound (side_links w t.orient true is can.edges_are inbound (one ∙ ap (map (tile_link g tile edges true)) can.into_are));
      outbound_are = outbound_begin w outbound (side_links w t.orient false is can.edges_are outbound (two ∙ ap (map (tile_link g tile edges false)) can.out_are));
      taken_within = λ x h. absurd (omega (arith, h.1));
      room = wide_queue;
      room_to_take = omega (arith, few, many, wide_taken);
    }
