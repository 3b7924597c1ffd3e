-- Cells inside a tile feed only cells of their tile.
use Rattle.std.proofs.Common.{◌≡◌, ℕ, ◌+◌, ◌-◌, ◌*◌, ◌/◌, ◌%◌, ◌<◌, ◌≤◌, List, [], ◌∷◌, ◌++◌, length, refl, sym, ap, subst, ◌∙◌, arith, suc, zero, false}
use Rattle.std.specs.Prelude.{not}
use Rattle.std.specs.List.{Contains}
use Rattle.std.proofs.lemmas.Bool.{eq-eqb}
use Rattle.std.proofs.lemmas.List.{append-nil}
use Rattle.std.proofs.lemmas.Nat.{div-add-mod', div-mul-add, mod-mul-add}
use Rattle.tile_map.specs.Tiles.{across, tile_at}
use Rattle.tile_map.specs.declared.tiling.Tiling.{Tiling}
use Rattle.drain_meaning.specs.declared.op.Orient.{Orient}
use Rattle.drain_meaning.specs.declared.op.Orient.TheVariants.{Down, Up}
use Rattle.drain_meaning.specs.Drains.{DrainMap, next_at}
use Rattle.drain_meaning.specs.Sound.{IsDrain}
use Rattle.drain_meaning.proofs.Callers.{contains_first, contains_later, neighbours, outlet_is, tributary_drains}
use Rattle.border_channel.specs.declared.edge.Edge.{Edge}
use Rattle.border_channel.specs.Edges.{HasSizeOf, crosses, crossing, edges_below, edges_from, fed_by}
use Rattle.border_channel.specs.inside.Inside.{NoneBetween}

-- ---- cells that are near

-- two cells are at most a row and a column apart
pub record AreNear (cols u c : ℕ) : Type 0 where
  pub above : u / cols ≤ c / cols + 1
  pub below : c / cols ≤ u / cols + 1
  pub left : u % cols ≤ c % cols + 1
  pub right : c % cols ≤ u % cols + 1

-- a cell and one that it feeds are
pub fed_near : (o : Orient) (m : DrainMap) (u c : ℕ) → Contains (fed_by o m u) c → AreNear m.cols u c
unfolding fed_by
fed_near Down m u c h =
    let n = neighbours m u c (outlet_is (next_at m u) c h) in
    record { above = n.above; below = n.below; left = n.left; right = n.right }
fed_near Up m u c h =
    let n = neighbours m c u (tributary_drains m u c h) in
    record { above = n.below; below = n.above; left = n.right; right = n.left }

-- ---- bands

-- the band of a number, by the numbers of the band
band_of : (x t k : ℕ) → k * t ≤ x → x < k * t + t → x / t ≡ k
band_of x t k low high =
    let same : k * t + (x - k * t) ≡ x = omega arith in
    subst (λ (y : ℕ). y / t ≡ k) same (div-mul-add k t (x - k * t) (omega arith))

-- numbers next to one that is neither the first nor the last of its band are of the band
near_band : (x y t : ℕ) → 0 < x % t → x % t + 1 < t → x ≤ y + 1 → y ≤ x + 1 → y / t ≡ x / t
near_band x y t low high one two =
    let whole = div-add-mod' x t in
    band_of y t (x / t) (omega (arith, whole, low, one)) (omega (arith, whole, high, two))

-- ---- cells inside a tile

-- the cells that are near to one inside a tile lie in the tile
same_tile : (g : Tiling) (u c : ℕ) → AreNear g.cols u c → 0 < u / g.cols % g.tile_rows → u / g.cols % g.tile_rows + 1 < g.tile_rows → c % g.cols / g.tile_cols ≡ u % g.cols / g.tile_cols → tile_at g u ≡ tile_at g c
unfolding tile_at
same_tile g u c near low high cols =
    let rows = near_band (u / g.cols) (c / g.cols) g.tile_rows low high near.above near.below in
    ap (λ (y : ℕ). y * across g + u % g.cols / g.tile_cols) (sym rows) ∙ ap (λ (y : ℕ). c / g.cols / g.tile_rows * across g + y) (sym cols)

-- no edge goes to cells of the same tile
pub none_cross : (g : Tiling) (u : ℕ) (cells : List ℕ) → ((c : ℕ) → Contains cells c → tile_at g u ≡ tile_at g c) → crossing g u cells ≡ []
none_cross g u [] same = refl
none_cross g u (c ∷ cells) same =
    let stays : crosses g u c ≡ false = ap not (eq-eqb (tile_at g u) (tile_at g c) (same c (contains_first c cells))) in
    rw stays (none_cross g u cells (λ d h. same d (contains_later c cells d h)))

-- a cell inside a tile has no border edge
inside_none : (m : DrainMap) (g : Tiling) (o : Orient) (row left right col : ℕ) → m.cols ≡ g.cols → 0 < row % g.tile_rows → row % g.tile_rows + 1 < g.tile_rows →
    left % g.tile_cols ≡ 0 → right ≤ left + g.tile_cols → right ≤ g.cols → left < col → col + 1 < right → edges_from m g o (row * g.cols + col) ≡ []
inside_none m g o row left right col same low high starts few in_map from to =
    let u : ℕ = row * g.cols + col in
    let u_row : u / g.cols ≡ row = div-mul-add row g.cols col (omega (arith, to, in_map)) in
    let u_col : u % g.cols ≡ col = mod-mul-add row g.cols col (omega (arith, to, in_map)) in
    none_cross g u (fed_by o m u) (λ c h.
    let near : AreNear g.cols u c = subst (λ (k : ℕ). AreNear k u c) same (fed_near o m u c h) in
    let whole = div-add-mod' left g.tile_cols in
    let band = left / g.tile_cols in
    let here : u % g.cols / g.tile_cols ≡ band = ap (λ (y : ℕ). y / g.tile_cols) u_col ∙ band_of col g.tile_cols band (omega (arith, whole, starts, from)) (omega (arith, whole, starts, to, few)) in
    let there : c % g.cols / g.tile_cols ≡ band = band_of (c % g.cols) g.tile_cols band (omega (arith, whole, starts, near.left, u_col, from)) (omega (arith, whole, starts, near.right, u_col, to, few)) in
    same_tile g u c near (subst (λ (y : ℕ). 0 < y % g.tile_rows) (sym u_row) low) (subst (λ (y : ℕ). y % g.tile_rows + 1 < g.tile_rows) (sym u_row) high) (there ∙ sym here))

-- nor have those between the first and the last of a row of a tile
pub none_between : (m : DrainMap) (g : Tiling) (o : Orient) (row left right : ℕ) → HasSizeOf m g → 0 < row % g.tile_rows → row % g.tile_rows + 1 < g.tile_rows →
    left % g.tile_cols ≡ 0 → right ≤ left + g.tile_cols → right ≤ g.cols → NoneBetween m g o (row * g.cols + left) (row * g.cols + right)
none_between m g o row left right size low high starts few in_map u from to =
    let at : row * g.cols + (u - row * g.cols) ≡ u = omega arith in
    subst (λ (y : ℕ). edges_from m g o y ≡ []) at (inside_none m g o row left right (u - row * g.cols) size.cols low high starts few in_map (omega arith) (omega arith))

-- ---- places that are passed over

-- the border edges from the places before one, and before a later one, where those between have none
skip : (m : DrainMap) (g : Tiling) (o : Orient) (from many : ℕ) → ((u : ℕ) → from ≤ u → u < from + many → edges_from m g o u ≡ []) → edges_below m g o (many + from) ≡ edges_below m g o from
skip m g o from zero none = ap (edges_below m g o) (let e : 0 + from ≡ from = omega arith in e)
skip m g o from (suc many) none =
    let next : suc many + from ≡ suc (many + from) = omega arith in
    ap (edges_below m g o) next
    ∙ (ap (λ (y : List Edge). edges_below m g o (many + from) ++ y) (none (many + from) (omega arith) (omega arith))
    ∙ (append-nil (edges_below m g o (many + from)) ∙ skip m g o from many (λ u low high. none u low (omega arith))))

-- the places behind the first of a stretch, up to its last
pub skip_between : (m : DrainMap) (g : Tiling) (o : Orient) (from to : ℕ) → from + 1 < to → NoneBetween m g o from to → edges_below m g o (to - 1) ≡ edges_below m g o (from + 1)
skip_between m g o from to some none =
    let many : (to - 1 - (from + 1)) + (from + 1) ≡ to - 1 = omega arith in
    ap (edges_below m g o) (sym many) ∙ skip m g o (from + 1) (to - 1 - (from + 1)) (λ u low high. none u (omega arith) (omega arith))

-- the next tile begins a band
pub next_starts : (left t : ℕ) → 0 < t → left % t ≡ 0 → (left + t) % t ≡ 0
next_starts left t some starts =
    let whole = div-add-mod' left t in
    let at : (left / t + 1) * t + 0 ≡ left + t = omega (arith, whole, starts) in
    subst (λ (y : ℕ). y % t ≡ 0) at (mod-mul-add (left / t + 1) t 0 some)

-- the rows together are the map
pub all_rows : (m : DrainMap) (g : Tiling) → IsDrain m → HasSizeOf m g → 0 < g.cols → (length m.codes / g.cols ≡ g.rows) × (g.rows * g.cols ≡ length m.codes)
all_rows m g drain size some =
    let all : length m.codes ≡ g.rows * g.cols = drain.map.size ∙ (ap (λ (r : ℕ). r * m.cols) size.rows ∙ ap (λ (k : ℕ). g.rows * k) size.cols) in
    let whole : g.rows * g.cols + 0 ≡ length m.codes = omega (arith, all) in
    (subst (λ (y : ℕ). y / g.cols ≡ g.rows) whole (div-mul-add g.rows g.cols 0 some), sym all)
