-- What operations that look at what is near give at the places of a tile.
use Rattle.std.proofs.Common.{◌≡◌, ℕ, ◌*◌, ◌<◌, false, true, Bool, cond, List, ◌∷◌, length, map, sym, ap, subst, ◌∙◌}
use Rattle.cell_values.specs.declared.cell.Cell.{Cell}
use Rattle.cell_values.specs.declared.kind.Kind.TheVariants.{Scalar}
use Rattle.cell_values.specs.Kinds.{IsCell}
use Rattle.drain_meaning.specs.declared.op.NearOp.{NearOp}
use Rattle.drain_meaning.specs.Drains.{DrainMap}
use Rattle.drain_meaning.specs.Near.{near_outcome}
use Rattle.drain_meaning.specs.Sound.{IsDrain}
use Rattle.drain_ops.specs.Surroundings.{AreSurroundings}
use Rattle.region_meaning.specs.declared.window.WindowOp.{WindowOp}
use Rattle.region_meaning.specs.Windows.{window_outcome}
use Rattle.tile_map.specs.declared.part.Part.{Part}
use Rattle.tile_map.specs.declared.rect.Rect.{Rect}
use Rattle.tile_map.specs.declared.tiling.Tiling.{Tiling}
use Rattle.tile_map.specs.Cuts.{cell_at, cut_of}
use Rattle.tile_map.specs.Parts.{part_of, tabulate}
use Rattle.tile_map.specs.Rects.{IsInMap, cell_count, grown, place_in}
use Rattle.tile_map.specs.Tiles.{rect_of, tile_count}
use Rattle.tile_map.proofs.Callers.{tile_in_map}
use Rattle.window_ops.specs.Surroundings.{AreAround, IsInside}
use Rattle.map_meaning.specs.declared.known.Known.{Known}
use Rattle.map_meaning.specs.declared.program.Operand.{Operand}
use Rattle.map_meaning.specs.declared.program.Operand.TheVariants.{Drain}
use Rattle.map_meaning.specs.declared.program.Operation.{Operation}
use Rattle.map_meaning.specs.declared.program.Program.{Program}
use Rattle.map_meaning.specs.Evaluation.{Done, operand_cell}
use Rattle.map_meaning.specs.Maps.{CellAt, WholeMap, nth}
use Rattle.map_meaning.specs.Programs.{all_operands, kinds_of, operands_of}
use Rattle.map_meaning.specs.Rules as rule
use Rattle.map_meaning.specs.Rules.{Rule, Setting, by_rule, drain_by, outcome_of, reach_of, rule_of, whole_by}
use Rattle.map_meaning.specs.Scenes.{Scene, setting_at}
use Rattle.map_meaning.specs.Spans.{scene_of}
use Rattle.map_meaning.specs.Table.{goes_along_drains}
use Rattle.span_operands.proofs.Tables.{tabulate-cell_at, tabulate-scalars}
use Rattle.task_laws.proofs.HaloLemmas.{grown_in, inside_itself}
use Rattle.tile_cuts.specs.TileParts.{part_in}
use Rattle.task_tiles.specs.TaskTiles.{tile_part}
use Rattle.tile_tasks.specs.inside.Tiles.{cells_in}
use Rattle.tile_tasks.proofs.HaloTiles.{cut_tabulated}

module _ (program : Program) (known : Known) (step : ℕ) (done : Done) (o : Operation) where
  abbrev scene : Scene
  scene = scene_of program.inputs known step

  abbrev cell : Operand → CellAt
  cell = operand_cell scene done

  abbrev setting : Setting
  setting = setting_at scene o.file o.window (kinds_of program o)

  -- the part of an operation that goes along no drain map, by its rule
  pub alone_part : (q : Rule) (r : Rect) → rule_of o.op ≡ q → goes_along_drains o.op ≡ false → part_of (λ i. by_rule q setting (map cell (operands_of o)) (place_in known.cols r i)) (cell_count r) ≡ tile_part program known step done o r
  unfolding part_in
  alone_part q r is alone =
      ap (λ (along : Bool). part_of (λ i. by_rule q setting (map cell (cond along (Drain o.drain ∷ operands_of o) (operands_of o))) (place_in known.cols r i)) (cell_count r)) (sym alone)
      ∙ ap (λ (x : Rule). part_of (λ i. by_rule x setting (map cell (all_operands o)) (place_in known.cols r i)) (cell_count r)) (sym is)

  -- that of one which goes along a drain map
  pub along_part : (q : Rule) (r : Rect) → rule_of o.op ≡ q → goes_along_drains o.op ≡ true → part_of (λ i. by_rule q setting (cell (Drain o.drain) ∷ map cell (operands_of o)) (place_in known.cols r i)) (cell_count r) ≡ tile_part program known step done o r
  unfolding part_in
  along_part q r is along =
      ap (λ (b : Bool). part_of (λ i. by_rule q setting (map cell (cond b (Drain o.drain ∷ operands_of o) (operands_of o))) (place_in known.cols r i)) (cell_count r)) (sym along)
      ∙ ap (λ (x : Rule). part_of (λ i. by_rule x setting (map cell (all_operands o)) (place_in known.cols r i)) (cell_count r)) (sym is)

-- a map of the size of a tiling, in the words of what is known
window_part_of : WindowOp → ℕ → CellAt → Rect → ℕ → ℕ → Part
window_part_of w k f r rows cols = part_of (λ i. window_outcome w rows cols k (tabulate f (rows * cols)) (place_in cols r i)) (cell_count r)

-- the part that is made of the cells of a halo is the operation's
pub window_is : (program : Program) (known : Known) (g : Tiling) (step tile : ℕ) (done : Done) (o : Operation) (w : WindowOp) (cells : List Cell) (inner around : Rect) (part : Part) → g.rows ≡ known.rows → g.cols ≡ known.cols →
    rule_of o.op ≡ rule.Focal w → goes_along_drains o.op ≡ false → tile < tile_count g → inner ≡ rect_of g tile → around ≡ grown g.rows g.cols (reach_of o.window) (rect_of g tile) →
    cells ≡ cells_in g.cols around (operand_cell (scene_of program.inputs known step) done o.a) →
    ((rows cols : ℕ) (m : List Cell) → AreAround rows cols (reach_of o.window) m cells inner around → part ≡ part_of (λ i. window_outcome w rows cols (reach_of o.window) m (place_in cols inner i)) (cell_count inner)) →
    part ≡ tile_part program known step done o (rect_of g tile)
unfolding window_part_of
window_is program known g step tile done o w cells inner around part rows cols is alone below inner_is around_is cells_are gives =
    let k = reach_of o.window in
    let r = rect_of g tile in
    let f = operand_cell (scene_of program.inputs known step) done o.a in
    let m = tabulate f (g.rows * g.cols) in
    let in_map = (tile_in_map g tile below).0 in
    let inner_in : IsInMap g.rows g.cols inner = subst (λ (x : Rect). IsInMap g.rows g.cols x) (sym inner_is) in_map in
    let around_in : IsInMap g.rows g.cols around = subst (λ (x : Rect). IsInMap g.rows g.cols x) (sym around_is) (grown_in g.rows g.cols k r in_map) in
    let are : AreAround g.rows g.cols k m cells inner around = record {
      inner_in = inner_in;
      around_in = around_in;
      reach = subst (λ (x : Rect). IsInside (grown g.rows g.cols k x) around) (sym inner_is) (subst (λ (y : Rect). IsInside (grown g.rows g.cols k r) y) (sym around_is) (inside_itself (grown g.rows g.cols k r)));
      cells_are = cells_are ∙ sym (cut_tabulated g.rows g.cols around f around_in);
    } in
    gives g.rows g.cols m are
    ∙ (ap (λ (x : Rect). window_part_of w k f x g.rows g.cols) inner_is
    ∙ (ap (λ (n : ℕ). window_part_of w k f r n g.cols) rows
    ∙ (ap (λ (n : ℕ). window_part_of w k f r known.rows n) cols
    ∙ alone_part program known step done o (rule.Focal w) r is alone)))

-- ---- one step up or down stream

-- a drain map is that of the operand
pub drain_is : (program : Program) (known : Known) (step : ℕ) (done : Done) (o : Operation) (m : DrainMap) → m.rows ≡ known.rows → m.cols ≡ known.cols → m.codes ≡ nth done.drains o.drain → length m.codes ≡ known.rows * known.cols →
    m ≡ drain_by (setting_at (scene_of program.inputs known step) o.file o.window (kinds_of program o)) (operand_cell (scene_of program.inputs known step) done (Drain o.drain))
drain_is program known step done o m high wide codes size =
    let of = λ (r c : ℕ) (x : WholeMap). let d : DrainMap = record { rows = r; cols = c; codes = x } in d in
    ap (λ (r : ℕ). of r m.cols m.codes) high
    ∙ (ap (λ (c : ℕ). of known.rows c m.codes) wide
    ∙ ap (λ (x : WholeMap). of known.rows known.cols x) (codes ∙ sym (tabulate-cell_at (nth done.drains o.drain) (known.rows * known.cols) (sym (ap length codes) ∙ size))))

-- the part of one step up or down stream, of values that are told place by place
near_part_of : NearOp → DrainMap → CellAt → ℕ → ℕ → Rect → Part
near_part_of n m f size cols r = part_of (λ i. near_outcome n m (cell_at (tabulate f size)) (place_in cols r i)) (cell_count r)

-- it is the operation's
pub near_is : (program : Program) (known : Known) (step : ℕ) (done : Done) (o : Operation) (n : NearOp) (m : DrainMap) (inner r : Rect) → rule_of o.op ≡ rule.Near n → goes_along_drains o.op ≡ true → IsDrain m →
    m.rows ≡ known.rows → m.cols ≡ known.cols → m.codes ≡ nth done.drains o.drain → inner ≡ r →
    part_of (λ i. near_outcome n m (cell_at (tabulate (operand_cell (scene_of program.inputs known step) done o.a) (m.rows * m.cols))) (place_in m.cols inner i)) (cell_count inner) ≡ tile_part program known step done o r
unfolding near_part_of
near_is program known step done o n m inner r is along sound rows cols codes inner_is =
    let f = operand_cell (scene_of program.inputs known step) done o.a in
    let size : m.rows * m.cols ≡ known.rows * known.cols = ap (λ (k : ℕ). k * m.cols) rows ∙ ap (λ (k : ℕ). known.rows * k) cols in
    let same = drain_is program known step done o m rows cols codes (sound.map.size ∙ size) in
    ap (λ (x : Rect). near_part_of n m f (m.rows * m.cols) m.cols x) inner_is
    ∙ (ap (λ (k : ℕ). near_part_of n m f k m.cols r) size
    ∙ (ap (λ (k : ℕ). near_part_of n m f (known.rows * known.cols) k r) cols
    ∙ (ap (λ (d : DrainMap). near_part_of n d f (known.rows * known.cols) known.cols r) same
    ∙ along_part program known step done o (rule.Near n) r is along)))

-- the codes and the values of a halo are those around the tile
pub near_surrounded : (g : Tiling) (known : Known) (tile : ℕ) (f : CellAt) (m : DrainMap) (codes cells : List Cell) (inner around : Rect) → IsDrain m → m.rows ≡ known.rows → m.cols ≡ known.cols → g.rows ≡ known.rows → g.cols ≡ known.cols →
    tile < tile_count g → inner ≡ rect_of g tile → around ≡ grown g.rows g.cols 1 (rect_of g tile) → codes ≡ cut_of g.cols m.codes around → cells ≡ cells_in g.cols around f →
    ((place : ℕ) → place < known.rows * known.cols → IsCell Scalar (f place)) → AreSurroundings m (tabulate f (m.rows * m.cols)) codes cells around inner
near_surrounded g known tile f m codes cells inner around sound rows cols g_rows g_cols below inner_is around_is codes_are cells_are scalars =
    let r = rect_of g tile in
    let high : g.rows ≡ m.rows = g_rows ∙ sym rows in
    let wide : g.cols ≡ m.cols = g_cols ∙ sym cols in
    let size : m.rows * m.cols ≡ known.rows * known.cols = ap (λ (k : ℕ). k * m.cols) rows ∙ ap (λ (k : ℕ). known.rows * k) cols in
    let in_map = (tile_in_map g tile below).0 in
    let in_g : IsInMap g.rows g.cols inner = subst (λ (x : Rect). IsInMap g.rows g.cols x) (sym inner_is) in_map in
    let in_m : IsInMap m.rows m.cols inner = subst (λ (k : ℕ). IsInMap m.rows k inner) wide (subst (λ (k : ℕ). IsInMap k g.cols inner) high in_g) in
    let grown_m : around ≡ grown m.rows m.cols 1 inner = around_is ∙ (ap (λ (x : Rect). grown g.rows g.cols 1 x) (sym inner_is) ∙ (ap (λ (k : ℕ). grown k g.cols 1 inner) high ∙ ap (λ (k : ℕ). grown m.rows k 1 inner) wide)) in
    let around_in : IsInMap m.rows m.cols around = subst (λ (x : Rect). IsInMap m.rows m.cols x) (sym grown_m) (grown_in m.rows m.cols 1 inner in_m) in
    record {
      map = sound.map;
      scalars = tabulate-scalars f (m.rows * m.cols) (λ place less. scalars place (subst (λ (k : ℕ). place < k) size less));
      inner_in_map = in_m;
      grown_by_one = grown_m;
      codes_cut = codes_are ∙ ap (λ (k : ℕ). cut_of k m.codes around) wide;
      cells_cut = cells_are ∙ (ap (λ (k : ℕ). cells_in k around f) wide ∙ sym (cut_tabulated m.rows m.cols around f around_in));
    }
