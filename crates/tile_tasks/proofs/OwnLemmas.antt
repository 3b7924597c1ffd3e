-- The cells of operands at a tile's places.
use Rattle.std.proofs.Common.{◌≡◌, ℕ, ◌+◌, ◌*◌, ◌<◌, ◌≤◌, Bool, true, false, List, [], ◌∷◌, length, refl, sym, ap, subst, ◌∙◌, arith}
use Rattle.std.proofs.lemmas.Nat.{mul-le}
use Rattle.text_base.specs.Limits.{most_cells}
use Rattle.cell_values.specs.declared.cell.Cell.{Cell}
use Rattle.cell_values.specs.declared.cell.Cell.TheVariants.{Mv}
use Rattle.tile_map.specs.declared.tiling.Tiling.{Tiling}
use Rattle.tile_map.specs.Cuts.{cell_at, cut_of}
use Rattle.tile_map.specs.Rects.{cell_count, place_in}
use Rattle.tile_map.specs.Tiles.{rect_of, tile_count}
use Rattle.tile_map.proofs.Callers.{get_or-cut_of, length-cut_of, tile_in_map}
use Rattle.tile_map.proofs.CutLemmas.{get_or-over, length-over}
use Rattle.map_meaning.specs.declared.known.Known.{Known}
use Rattle.map_meaning.specs.declared.known.Span.{Span}
use Rattle.map_meaning.specs.declared.program.Operand.{Operand}
use Rattle.map_meaning.specs.declared.program.Program.{Program}
use Rattle.map_meaning.specs.Evaluation.{Done, operand_cell}
use Rattle.map_meaning.specs.Maps.{CellAt}
use Rattle.map_meaning.specs.Spans.{scene_of}
use Rattle.span_operands.specs.Made.{AgreesWith, is_made}
use Rattle.map_meaning.specs.declared.program.Operation.{Operation}
use Rattle.tile_tasks.specs.declared.own.Operands.{Operands}
use Rattle.tile_tasks.specs.declared.own.Own.{Own}
use Rattle.tile_tasks.specs.declared.own.Own.TheVariants.{Cut, Handed}
use Rattle.task_tiles.specs.declared.tile.Tile.{Tile}
use Rattle.tile_tasks.specs.inside.Tasks.{AreHandedIn, ReadsEach, many_for}
use Rattle.tile_tasks.specs.inside.Tiles.{IsCutTile, StandFrom, tile_handed}
use Rattle.tile_tasks.specs.inside.Own.{AreOwnOf, AreShown, IsOwnOf, IsShownFor, OwnSpans, own_cell}

-- a rectangle of a tile has few cells
pub tile_few : (g : Tiling) (tile : ℕ) → tile < tile_count g → cell_count (rect_of g tile) ≤ most_cells
tile_few g tile below =
    let r = rect_of g tile in
    let is = (tile_in_map g tile below).0 in
    let a = is.below in
    let b = is.right in
    let low : r.rows * r.cols ≤ g.rows * g.cols = mul-le r.rows r.cols g.rows g.cols (omega arith) (omega arith) in
    let few = g.sides.few_cells in
    omega (arith, low, few)

-- what was cut from a known map
pub cut_own : (program : Program) (s : Span) (known : Known) (g : Tiling) (step tile : ℕ) (operand : Operand) (whole cut : List Cell) → is_made s step operand ≡ false → cut ≡ cut_of g.cols whole (rect_of g tile) →
    ((done : Done) → AgreesWith program s known step done → cell_at whole ≡ operand_cell (scene_of program.inputs known step) done operand) → IsOwnOf program s known g step tile operand (Cut cut)
cut_own program s known g step tile operand whole cut not_made is same = record {
  handed = λ made. absurd (cc (made, not_made));
  alone = λ not t. record {
    alone = λ e. cc e;
    spans = ap length is ∙ length-cut_of g.cols whole (rect_of g tile);
    cells = λ done agrees i below.
        ap (λ (xs : List Cell). cell_at xs i) is
        ∙ (get_or-cut_of g.cols whole (rect_of g tile) i Mv below
        ∙ ap (λ (f : CellAt). f (place_in g.cols (rect_of g tile) i)) (same done agrees));
  };
}

-- ---- a tile that is handed in

-- the only tile of an operand
one_handed : (g : Tiling) (f : CellAt) (tile start : ℕ) (ts : List Tile) → StandFrom g f (tile ∷ []) start ts → IsCutTile g.cols (rect_of g tile) f (tile_handed ts start)
one_handed g f tile start ts stand =
    let same : start + 0 ≡ start = omega arith in
    subst (λ (k : ℕ). IsCutTile g.cols (rect_of g tile) f (tile_handed ts k)) same (stand.each 0 (omega arith))

module _ (program : Program) (s : Span) (known : Known) (g : Tiling) (step tile : ℕ) (operand : Operand) (own : Own) (start : ℕ) (ts : List Tile) (done : Done) (is : IsOwnOf program s known g step tile operand own) (handed : AreHandedIn program s known g step done (tile ∷ []) operand start ts) where
  abbrev here : Tile
  here = tile_handed ts start

  abbrev f : CellAt
  f = operand_cell (scene_of program.inputs known step) done operand

  -- the cells are those of the operand's map
  pub own_shows : AgreesWith program s known step done → (i : ℕ) → i < cell_count (rect_of g tile) → own_cell own here i ≡ f (place_in g.cols (rect_of g tile) i)
  own_shows agrees i below = by_made (is_made s step operand) refl
    where
      by_made : (b : Bool) → is_made s step operand ≡ b → own_cell own here i ≡ f (place_in g.cols (rect_of g tile) i)
      by_made true made =
          let cut = one_handed g f tile start ts (handed made) in
          ap (λ (o : Own). own_cell o here i) (is.handed made)
          ∙ (ap (λ (xs : List Cell). cell_at xs i) cut.cells ∙ get_or-over g.cols (rect_of g tile) f i Mv below)
      by_made false made = (is.alone made here).cells done agrees i below

  -- there is one for each place of the tile
  pub own_spans : OwnSpans own here (cell_count (rect_of g tile))
  own_spans = by_made (is_made s step operand) refl
    where
      by_made : (b : Bool) → is_made s step operand ≡ b → OwnSpans own here (cell_count (rect_of g tile))
      by_made true made =
          let cut = one_handed g f tile start ts (handed made) in
          subst (λ (o : Own). OwnSpans o here (cell_count (rect_of g tile))) (sym (is.handed made)) (cut.part, ap length cut.cells ∙ length-over g.cols (rect_of g tile) f)
      by_made false made = (is.alone made here).spans

  -- a tile that is handed in is there
  pub own_below : own ≡ Handed → start < length ts
  own_below e = by_made (is_made s step operand) refl
    where
      by_made : (b : Bool) → is_made s step operand ≡ b → start < length ts
      by_made true made = let w = (handed made).within in omega (arith, w)
      by_made false made = absurd ((is.alone made here).alone e)

  -- the cells of the operand are there
  pub own_shown : (size : ℕ) → size ≡ cell_count (rect_of g tile) → IsShownFor own ts start size
  own_shown size same = record { below = own_below; spans = subst (λ (n : ℕ). OwnSpans own here n) (sym same) own_spans }

-- so are those of all operands
pub all_shown : (program : Program) (s : Span) (known : Known) (g : Tiling) (step tile : ℕ) (o : Operation) (xs : Operands) (ts : List Tile) (done : Done) (size : ℕ) → AreOwnOf program s known g step tile o xs → ReadsEach program s known g step (tile ∷ []) o ts done → size ≡ cell_count (rect_of g tile) → AreShown s step o xs ts size
all_shown program s known g step tile o xs ts done size own reads same = record {
  a = own_shown program s known g step tile o.a xs.a 0 ts done own.a reads.a size same;
  b = own_shown program s known g step tile o.b xs.b (many_for s step 1 o.a) ts done own.b reads.b size same;
  c = own_shown program s known g step tile o.c xs.c (many_for s step 1 o.a + many_for s step 1 o.b) ts done own.c reads.c size same;
  d = own_shown program s known g step tile o.d xs.d (many_for s step 1 o.a + many_for s step 1 o.b + many_for s step 1 o.c) ts done own.d reads.d size same;
}
