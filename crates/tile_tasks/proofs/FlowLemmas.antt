-- Transports over one tile: the drain map, the operands, and what the work begins with.
use Rattle.std.proofs.Common.{◌≡◌, ℕ, ◌*◌, ◌<◌, true, List, [], ◌∷◌, length, refl, sym, ap, subst, ◌∙◌, arith}
use Rattle.std.specs.Prelude.{Option, Some, None, nat_le, slice_get}
use Rattle.std.proofs.lemmas.Bool.{and_parts}
use Rattle.std.proofs.lemmas.List.{get_or-map, same_lists}
use Rattle.std.proofs.lemmas.Option.{get_or_from_slice_get, slice_get_within}
use Rattle.cell_values.specs.declared.cell.Cell.{Cell}
use Rattle.cell_values.specs.declared.kind.Kind.{Kind}
use Rattle.cell_values.specs.declared.kind.Kind.TheVariants.{Scalar}
use Rattle.cell_values.specs.Kinds.{IsCell}
use Rattle.drain_meaning.specs.declared.op.FlowOp.{FlowOp}
use Rattle.drain_meaning.specs.declared.op.FlowOp.TheVariants as flow
use Rattle.drain_meaning.specs.Drains.{DrainMap}
use Rattle.drain_meaning.specs.Equations.{orient_of}
use Rattle.border_channel.specs.declared.edge.Edge.{Edge}
use Rattle.border_channel.specs.Edges.{border_edges_of}
use Rattle.flow_task.specs.Works.{TileWork, flow_begun, tile_work}
use Rattle.tile_map.specs.Cuts.{cell_at}
use Rattle.tile_map.specs.Parts.{tabulate}
use Rattle.tile_map.specs.Rects.{cell_count, place_in}
use Rattle.tile_map.specs.Tiles.{rect_of, tile_count}
use Rattle.tile_map.specs.declared.tiling.Tiling.{Tiling}
use Rattle.tile_map.proofs.Callers.{get_or-over, get_or-tabulate, length-over, length-tabulate, tile_in_map}
use Rattle.tile_map.proofs.RectLemmas.{place_below}
use Rattle.map_meaning.specs.declared.known.Known.{Known}
use Rattle.map_meaning.specs.declared.known.Span.{Span}
use Rattle.map_meaning.specs.declared.op.Op.{Op}
use Rattle.map_meaning.specs.declared.op.Op.TheVariants as op
use Rattle.map_meaning.specs.declared.program.Operand.{Operand}
use Rattle.map_meaning.specs.declared.program.Program.{Program}
use Rattle.map_meaning.specs.Evaluation.{Done, operand_cell}
use Rattle.map_meaning.specs.Maps.{CellAt, WholeMap, nth}
use Rattle.map_meaning.specs.Rules as rule
use Rattle.map_meaning.specs.Rules.{rule_of}
use Rattle.map_meaning.specs.Spans.{IsDrainOf, known_codes, scene_of}
use Rattle.map_meaning.specs.Table.{HasKinds, is_transport, map_row, row_of}
use Rattle.span_operands.specs.Made.{AgreesWith}
use Rattle.span_operands.specs.inside.Held.{HasDrainMap}
use Rattle.span_operands.proofs.Tables.{tabulate-scalars}
use Rattle.task_tiles.specs.FlowTiles.{operand_tile}
use Rattle.task_tiles.specs.declared.tile.Tile.{Tile}
use Rattle.tile_tasks.specs.declared.own.Own.{Own}
use Rattle.tile_tasks.specs.inside.Flows.{HasScalars}
use Rattle.tile_tasks.specs.inside.Own.{IsOwnOf, own_cell}
use Rattle.tile_tasks.specs.inside.Tasks.{AreHandedIn}
use Rattle.tile_tasks.specs.inside.Tiles.{tile_handed}
use Rattle.tile_tasks.proofs.OwnLemmas.{own_shows}

-- ---- operations

-- an operation with the rule of a transport is that transport
pub transport_is : (f : FlowOp) (o : Op) → rule_of o ≡ rule.Along f → o ≡ op.Flow f
unfolding rule_of
transport_is f (op.Flow g) is = let same : g ≡ f = cc in ap op.Flow same
transport_is f o is = absurd (cc)

-- a transport whose operands have kinds of its row has a word
worded : (f : FlowOp) (kinds : List Kind) (kind : Kind) → HasKinds (map_row (row_of (op.Flow f))) kinds kind → is_transport f ≡ true
unfolding row_of
worded flow.Accuflux kinds kind h = refl
worded flow.ThresholdFlux kinds kind h = refl
worded flow.ThresholdState kinds kind h = refl
worded flow.Catchment kinds kind h = refl
worded f kinds kind h = let parts = and_parts (nat_le 1 (length kinds)) (nat_le (length kinds) 0) h.count in absurd (grind (arith, parts.0, parts.1))

pub has_word : (f : FlowOp) (o : Op) (kinds : List Kind) (kind : Kind) → rule_of o ≡ rule.Along f → HasKinds (map_row (row_of o)) kinds kind → is_transport f ≡ true
has_word f o kinds kind is h = worded f kinds kind (subst (λ (x : Op). HasKinds (map_row (row_of x)) kinds kind) (transport_is f o is) h)

-- ---- the drain map

-- the codes of a known one
pub known_codes_are : (known : Known) (n : ℕ) (m : DrainMap) → slice_get known.drains n ≡ Some m → nth (known_codes known) n ≡ m.codes
known_codes_are known n m is =
    get_or-map (λ (x : DrainMap). x.codes) known.drains n m [] (slice_get_within known.drains n m is) ∙ ap (λ (x : DrainMap). x.codes) (get_or_from_slice_get known.drains n m m is)

-- a drain map with the size and the codes of a known one is that
pub known_drain : (known : Known) (n : ℕ) (m : DrainMap) → HasDrainMap known n → m.rows ≡ known.rows → m.cols ≡ known.cols → m.codes ≡ nth (known_codes known) n → slice_get known.drains n ≡ Some m
known_drain known n m has rows cols codes = by_case (slice_get known.drains n) refl
  where
    of : ℕ → ℕ → WholeMap → DrainMap
    of r c x = record { rows = r; cols = c; codes = x }

    by_case : (x : Option DrainMap) → slice_get known.drains n ≡ x → slice_get known.drains n ≡ Some m
    by_case None is = let none = subst (IsDrainOf known.rows known.cols) is has in absurd none
    by_case (Some d) is =
        let sound = subst (IsDrainOf known.rows known.cols) is has in
        let there = known_codes_are known n d is in
        is
        ∙ (ap (λ (r : ℕ). Some (of r d.cols d.codes)) (sound.1 ∙ sym rows)
        ∙ (ap (λ (c : ℕ). Some (of m.rows c d.codes)) (sound.2 ∙ sym cols)
        ∙ ap (λ (x : WholeMap). Some (of m.rows m.cols x)) (sym there ∙ sym codes)))

-- ---- operands

module _ (program : Program) (s : Span) (known : Known) (g : Tiling) (step tile : ℕ) (operand : Operand) (own : Own) (start : ℕ) (ts : List Tile) (done : Done) (h : CellAt) (size : ℕ) (is : IsOwnOf program s known g step tile operand own)
    (handed : AreHandedIn program s known g step done (tile ∷ []) operand start ts) (agrees : AgreesWith program s known step done) (cells : h ≡ own_cell own (tile_handed ts start)) (many : size ≡ cell_count (rect_of g tile)) where
  abbrev f : CellAt
  f = operand_cell (scene_of program.inputs known step) done operand

  shows : (i : ℕ) → i < cell_count (rect_of g tile) → h i ≡ f (place_in g.cols (rect_of g tile) i)
  shows i below = ap (λ (x : CellAt). x i) cells ∙ own_shows program s known g step tile operand own start ts done is handed agrees i below

  -- they are those of the operand's map at the tile's places
  pub operand_is : tabulate h size ≡ operand_tile program known g step done operand tile
  operand_is =
      let r = rect_of g tile in
      let long : length (tabulate h size) ≡ cell_count r = length-tabulate h size ∙ many in
      same_lists (tabulate h size) (operand_tile program known g step done operand tile) (long ∙ sym (length-over g.cols r f)) (λ k d less.
      let below : k < cell_count r = subst (λ (n : ℕ). k < n) long less in
      get_or-tabulate h size k d (omega (arith, many, below)) ∙ (shows k below ∙ sym (get_or-over g.cols r f k d below)))

  -- and so within the range of scalars
  pub operand_ranges : g.rows ≡ known.rows → g.cols ≡ known.cols → tile < tile_count g → HasScalars program known step done operand → (i : ℕ) → IsCell Scalar (cell_at (tabulate h size) i)
  operand_ranges rows cols below scalars =
      tabulate-scalars h size (λ i less.
      let r = rect_of g tile in
      let inside : i < cell_count r = subst (λ (n : ℕ). i < n) many less in
      let place : place_in g.cols r i < g.rows * g.cols = place_below g.rows g.cols r i (tile_in_map g tile below).0 inside in
      let same : g.rows * g.cols ≡ known.rows * known.cols = ap (λ (n : ℕ). n * g.cols) rows ∙ ap (λ (n : ℕ). known.rows * n) cols in
      subst (IsCell Scalar) (sym (shows i inside)) (scalars (place_in g.cols r i) (subst (λ (n : ℕ). place_in g.cols r i < n) same place)))

-- ---- the work

-- a work that is begun with what is equal
pub begun_is : (w : TileWork FlowOp) (q : FlowOp) (kind carried : Kind) (m : DrainMap) (g : Tiling) (tile : ℕ) (edges : List Edge) (a b xs ys : List Cell) → w ≡ tile_work q (flow_begun kind m g tile edges a b) [] → kind ≡ carried →
    edges ≡ border_edges_of m g (orient_of q) → a ≡ xs → b ≡ ys → w ≡ tile_work w.which (flow_begun carried m g tile (border_edges_of m g (orient_of w.which)) xs ys) []
begun_is w q kind carried m g tile edges a b xs ys is same_kind same_edges same_a same_b =
    let which : q ≡ w.which = sym (ap (λ (x : TileWork FlowOp). x.which) is) in
    is
    ∙ (ap (λ (k : Kind). tile_work q (flow_begun k m g tile edges a b) []) same_kind
    ∙ (ap (λ (es : List Edge). tile_work q (flow_begun carried m g tile es a b) []) same_edges
    ∙ (ap (λ (cs : List Cell). tile_work q (flow_begun carried m g tile (border_edges_of m g (orient_of q)) cs b) []) same_a
    ∙ (ap (λ (cs : List Cell). tile_work q (flow_begun carried m g tile (border_edges_of m g (orient_of q)) xs cs) []) same_b
    ∙ ap (λ (p : FlowOp). tile_work p (flow_begun carried m g tile (border_edges_of m g (orient_of p)) xs ys) []) which))))
