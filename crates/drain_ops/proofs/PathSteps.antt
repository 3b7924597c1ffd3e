-- Steps along the paths of a sound map.
use Rattle.std.proofs.Common.{◌≡◌, ◌≢◌, ℕ, ◌+◌, ◌<◌, ◌≤◌, ◌∷◌, length, ap, subst, arith, suc, zero}
use Rattle.drain_meaning.specs.declared.next.Next.TheVariants as next
use Rattle.drain_meaning.specs.Drains.{DrainMap, next_at}
use Rattle.drain_meaning.specs.Paths.{IsDirected, IsSound, path_of}
use Rattle.drain_meaning.proofs.Callers.{next_directed, path_of-is, path_short}

-- the path of a cell with a direction has the cell, and no more cells than the map
pub path_bounds : (m : DrainMap) → IsSound m → (c : ℕ) → IsDirected m c → (0 < length (path_of m c)) × (length (path_of m c) ≤ length m.codes)
path_bounds m sound c directed =
    let p = sound c directed in
    let same : length (path_of m c) ≡ suc (length p.behind) = ap length (path_of-is m c p.behind p.followed) in
    let short = path_short m c p.behind p.followed in
    (omega (arith, same), omega (arith, same, short))

-- that of a cell that drains into it has one cell more
pub path_longer : (m : DrainMap) → IsSound m → (u c : ℕ) → IsDirected m c → next_at m u ≡ next.Cell c → length (path_of m u) ≡ length (path_of m c) + 1
path_longer m sound u c directed e =
    let p = sound c directed in
    let one : length (path_of m c) ≡ suc (length p.behind) = ap length (path_of-is m c p.behind p.followed) in
    let two : length (path_of m u) ≡ suc (suc (length p.behind)) = ap length (path_of-is m u (c ∷ p.behind) (e, p.followed)) in
    omega (arith, one, two)

-- that of the cell that it drains into is shorter
pub path_shorter : (m : DrainMap) → IsSound m → (c d : ℕ) → IsDirected m c → next_at m c ≡ next.Cell d → length (path_of m d) < length (path_of m c)
path_shorter m sound c d directed e =
    let more = path_longer m sound c d (next_directed m c d (sound c directed) e) e in
    omega (arith, more)

-- no cell drains into itself
pub no_loop : (m : DrainMap) (c d : ℕ) → IsSound m → IsDirected m c → next_at m c ≡ next.Cell d → d ≢ c
no_loop m c d sound directed e same =
    let more = path_longer m sound c c directed (subst (λ (y : ℕ). next_at m c ≡ next.Cell y) same e) in
    omega (arith, more)

-- What comes to each cell from those that drain into it comes to all cells.
comes_down : (m : DrainMap) (P : ℕ → Type 0) → IsSound m → ((c : ℕ) → IsDirected m c → ((u : ℕ) → next_at m u ≡ next.Cell c → P u) → P c) → (n c : ℕ) → IsDirected m c → length m.codes < length (path_of m c) + n → P c
comes_down m P sound step zero c directed h = let few = path_bounds m sound c directed in absurd (omega (arith, few.1, h))
comes_down m P sound step (suc n) c directed h = step c directed (λ u e.
    let there : IsDirected m u = λ k. cc (k, e) in
    let more = path_longer m sound u c directed e in
    comes_down m P sound step n u there (omega (arith, more, h)))

pub comes_to_all : (m : DrainMap) (P : ℕ → Type 0) → IsSound m → ((c : ℕ) → IsDirected m c → ((u : ℕ) → next_at m u ≡ next.Cell c → P u) → P c) → (c : ℕ) → IsDirected m c → P c
comes_to_all m P sound step c directed =
    let some = path_bounds m sound c directed in
    comes_down m P sound step (length m.codes) c directed (omega (arith, some.0))
