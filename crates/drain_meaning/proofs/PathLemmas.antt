-- Laws of paths and of the ways along them.
use Rattle.std.proofs.Common.{◌≡◌, ◌⊎◌, inl, inr, ℕ, ◌<◌, List, [], ◌∷◌, ◌++◌, length, refl, sym, ap, subst, ◌∙◌, arith, suc, zero, get_or, false}
use Rattle.std.specs.List.{Contains, IsDistinct, AllByRecursion}
use Rattle.std.proofs.lemmas.Bool.{eqb-true}
use Rattle.std.proofs.lemmas.Bool.Decides.{eqb_tells}
use Rattle.std.proofs.lemmas.Map.Steps.{length-le_from_distinct_below}
use Rattle.std.proofs.lemmas.Map.Views.{Contains-from_any}
use Rattle.std.proofs.Math.Dec.{eqb}
use Rattle.drain_meaning.specs.declared.next.Next.{Next}
use Rattle.drain_meaning.specs.declared.next.Next.TheVariants as next
use Rattle.drain_meaning.specs.Drains.{DrainMap, next_at}
use Rattle.drain_meaning.specs.Paths.{HasPath, IsDirected, IsFollowedBy, behind_next, first_of_path, path_of}
use Rattle.drain_meaning.specs.inside.Ways.{IsWay, Reaches}
use Rattle.drain_meaning.proofs.MapLemmas.{directed_within}
use Rattle.drain_meaning.proofs.SumLemmas.{contains_cases, contains_first, contains_later}

-- A cell has one path.
pub one_path : (drains : DrainMap) (c : ℕ) (ps qs : List ℕ) → IsFollowedBy drains c ps → IsFollowedBy drains c qs → ps ≡ qs
one_path drains c [] [] p q = refl
one_path drains c [] (e ∷ qs) p q = cc (p, q.0)
one_path drains c (d ∷ ps) [] p q = cc (p.0, q)
one_path drains c (d ∷ ps) (e ∷ qs) p q =
    let same : d ≡ e = cc (p.0, q.0) in
    let rest : ps ≡ qs = one_path drains e ps qs (subst (λ (x : ℕ). IsFollowedBy drains x ps) same p.1) q.1 in
    cc

-- one step more
pub way_step : (drains : DrainMap) (q : ℕ) (via : List ℕ) (at d : ℕ) → IsWay drains q via at → next_at drains at ≡ next.Cell d → IsWay drains q (via ++ at ∷ []) d
way_step drains q [] at d w e = (w, e)
way_step drains q (v ∷ via) at d w e = (w.0, way_step drains v via at d w.1 e)

-- the last step of a way
pub way_back : (drains : DrainMap) (q : ℕ) (via : List ℕ) (at d : ℕ) → IsWay drains q (via ++ at ∷ []) d → IsWay drains q via at × (next_at drains at ≡ next.Cell d)
way_back drains q [] at d w = w
way_back drains q (v ∷ via) at d w = let later = way_back drains v via at d w.1 in ((w.0, later.0), later.1)

-- what is left of a path behind a way
pub record Left (drains : DrainMap) (at : ℕ) (n : ℕ) : Type 0 where
  pub behind : List ℕ
  pub followed : IsFollowedBy drains at behind
  pub shorter : length behind < n

pub left_after : (drains : DrainMap) (q : ℕ) (via : List ℕ) (at : ℕ) (ps : List ℕ) → IsWay drains q via at → IsFollowedBy drains q ps → Left drains at (length ps)
left_after drains q [] at [] w f = cc (w, f)
left_after drains q [] at (d ∷ ps) w f =
    let same : d ≡ at = cc (w, f.0) in
    record { behind = ps; followed = subst (λ (x : ℕ). IsFollowedBy drains x ps) same f.1; shorter = omega arith }
left_after drains q (v ∷ via) at [] w f = cc (w.0, f)
left_after drains q (v ∷ via) at (d ∷ ps) w f =
    let same : d ≡ v = cc (w.0, f.0) in
    let left = left_after drains v via at ps w.1 (subst (λ (x : ℕ). IsFollowedBy drains x ps) same f.1) in
    record { behind = left.behind; followed = left.followed; shorter = omega (arith, left.shorter) }

-- A cell that a walk reaches from a cell with a path has a path.
pub path_down : (drains : DrainMap) (q at : ℕ) → Reaches drains q at → HasPath drains q → HasPath drains at
path_down drains q at r p = let left = left_after drains q r.via at p.behind r.way p.followed in record { behind = left.behind; followed = left.followed }

-- A cell that a walk reaches from itself has no path.
pub no_cycle : (drains : DrainMap) (at : ℕ) → Reaches drains at at → HasPath drains at → ⊥
no_cycle drains at r p =
    let left = left_after drains at r.via at p.behind r.way p.followed in
    let same : left.behind ≡ p.behind = one_path drains at left.behind p.behind left.followed p.followed in
    omega (arith, left.shorter, ap length same)

-- A cell that drains into one with a path has a path.
pub path_up : (drains : DrainMap) (q at : ℕ) → next_at drains q ≡ next.Cell at → HasPath drains at → HasPath drains q
path_up drains q at e p = record { behind = at ∷ p.behind; followed = (e, p.followed) }

-- A pit has a path.
pub path_of_pit : (drains : DrainMap) (q : ℕ) → next_at drains q ≡ next.Pit → HasPath drains q
path_of_pit drains q e = record { behind = []; followed = e }

leaves : (drains : DrainMap) (q : ℕ) (ps : List ℕ) → IsFollowedBy drains q ps → (next_at drains q ≡ next.Outside) ⊎ (next_at drains q ≡ next.Missing) → ⊥
leaves drains q [] f (inl h) = cc (f, h)
leaves drains q [] f (inr h) = cc (f, h)
leaves drains q (d ∷ ps) f (inl h) = cc (f.0, h)
leaves drains q (d ∷ ps) f (inr h) = cc (f.0, h)

-- A cell with a path drains into a cell or is a pit.
pub path_leaves : (drains : DrainMap) (q : ℕ) → HasPath drains q → (next_at drains q ≡ next.Outside) ⊎ (next_at drains q ≡ next.Missing) → ⊥
path_leaves drains q p e = leaves drains q p.behind p.followed e

-- from a place on a way, counted from its first cell, the walk comes to the last one
pub way_from : (drains : DrainMap) (q : ℕ) (via : List ℕ) (at k d : ℕ) → IsWay drains q via at → k < length via → Reaches drains (get_or via k d) at
way_from drains q [] at k d w h = absurd (omega arith)
way_from drains q (v ∷ via) at zero d w h = record { via = via; way = w.1 }
way_from drains q (v ∷ via) at (suc k) d w h = way_from drains v via at k d w.1 (omega arith)

-- A walk from a cell comes to each cell that follows on it.
pub follower_reached : (drains : DrainMap) (c : ℕ) (behind : List ℕ) (d : ℕ) → IsFollowedBy drains c behind → Contains behind d → Reaches drains c d
follower_reached drains c [] d f h = absurd (omega (arith, h.1))
follower_reached drains c (e ∷ behind) d f h = elim (contains_cases e behind d h) as (λ _. Reaches drains c d) [
  | inl same ↦ record { via = []; way = f.0 ∙ ap (λ (y : ℕ). next.Cell y) (sym same) }
  | inr later ↦ let rest = follower_reached drains e behind d f.1 later in record { via = e ∷ rest.via; way = (f.0, rest.way) }
]

-- The cell is not among those that follow on it.
pub not_follower : (drains : DrainMap) (c : ℕ) (behind : List ℕ) → IsFollowedBy drains c behind → Contains behind c → ⊥
not_follower drains c behind f h = no_cycle drains c (follower_reached drains c behind c f h) (record { behind = behind; followed = f })

none_equal : (x : ℕ) (ys : List ℕ) → (Contains ys x → ⊥) → AllByRecursion (λ y. eqb x y ≡ false) ys
none_equal x [] e = tt
none_equal x (y ∷ ys) e = (
  elim (eqb_tells x y) as (λ _. eqb x y ≡ false) [ inl b ↦ absurd (e (subst (λ (z : ℕ). Contains (y ∷ ys) z) (sym b.1) (contains_first y ys))) | inr b ↦ b.0 ],
  none_equal x ys (λ h. e (contains_later y ys x h)),
)

-- No cell stands twice on a path.
pub path_distinct : (drains : DrainMap) (c : ℕ) (behind : List ℕ) → IsFollowedBy drains c behind → IsDistinct eqb (c ∷ behind)
unfolding IsDistinct
path_distinct drains c [] f = (tt, tt)
path_distinct drains c (d ∷ behind) f = (none_equal c (d ∷ behind) (not_follower drains c (d ∷ behind) f), path_distinct drains d behind f.1)

-- The cells of a path are in the map.
pub follower_within : (drains : DrainMap) (c : ℕ) (behind : List ℕ) → IsFollowedBy drains c behind → (d : ℕ) → Contains (c ∷ behind) d → d < length drains.codes
follower_within drains c [] f d h = elim (contains_cases c [] d h) as (λ _. d < length drains.codes) [
  | inl same ↦ subst (λ (y : ℕ). y < length drains.codes) (sym same) (directed_within drains c (λ e. cc (e, f)))
  | inr none ↦ absurd (omega (arith, none.1))
]
follower_within drains c (e ∷ behind) f d h = elim (contains_cases c (e ∷ behind) d h) as (λ _. d < length drains.codes) [
  | inl same ↦ subst (λ (y : ℕ). y < length drains.codes) (sym same) (directed_within drains c (λ g. cc (g, f.0)))
  | inr later ↦ follower_within drains e behind f.1 d later
]

-- A path has no more cells than the map.
pub path_short : (drains : DrainMap) (c : ℕ) (behind : List ℕ) → IsFollowedBy drains c behind → length behind < length drains.codes
path_short drains c behind f =
    let few = length-le_from_distinct_below (c ∷ behind) (length drains.codes) (path_distinct drains c behind f)
    (λ q h. let at = Contains-from_any eqb-true q (c ∷ behind) h in follower_within drains c behind f q at) in
    omega (arith, few)

first_of_path-is : (drains : DrainMap) (most c : ℕ) (behind : List ℕ) → IsFollowedBy drains c behind → length behind < most → first_of_path drains most c ≡ c ∷ behind
first_of_path-is drains zero c behind f h = absurd (omega arith)
first_of_path-is drains (suc most) c [] f h = ap (λ (y : Next). c ∷ behind_next (first_of_path drains most) y) f
first_of_path-is drains (suc most) c (d ∷ behind) f h =
    ap (λ (y : Next). c ∷ behind_next (first_of_path drains most) y) f.0
    ∙ ap (λ (y : List ℕ). c ∷ y) (first_of_path-is drains most d behind f.1 (omega arith))

-- The path of a cell is the cell and those that follow on it.
pub path_of-is : (drains : DrainMap) (c : ℕ) (behind : List ℕ) → IsFollowedBy drains c behind → path_of drains c ≡ c ∷ behind
unfolding path_of
path_of-is drains c behind f = first_of_path-is drains (length drains.codes) c behind f (path_short drains c behind f)

-- The cell drained into by one with a path has a direction.
pub next_directed : (drains : DrainMap) (c d : ℕ) → HasPath drains c → next_at drains c ≡ next.Cell d → IsDirected drains d
next_directed drains c d p e n = path_leaves drains d (path_down drains c d (record { via = []; way = e }) p) (inr n)
