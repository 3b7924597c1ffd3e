-- Joints.
use Rattle.std.proofs.Common.{◌≡◌, ◌≢◌, ◌∙◌, ℕ, suc, ◌+◌, ◌*◌, ◌/◌, ◌%◌, ◌<◌, ◌≤◌, List, [], ◌∷◌, length, get_or, refl, ap, subst, arith, inl, inr, Bool, true, false}
use Rattle.std.specs.Prelude.{◌==◌, ◌||◌}
use Rattle.std.specs.List.{Contains, list_any, position_or_len, range_with_len}
use Rattle.std.proofs.Math.Nat.{mul-le-mul_right}
use Rattle.std.proofs.lemmas.Bool.{cases_lt, eq-eqb}
use Rattle.std.proofs.lemmas.Bool.Decides.{eqb_tells}
use Rattle.std.proofs.lemmas.List.{get_or_default}
use Rattle.std.proofs.lemmas.List.Folds.{list_any_at}
use Rattle.std.proofs.lemmas.List.FromFn.{get_or-range_with_len, length-range_with_len}
use Rattle.std.proofs.lemmas.List.Sums.{fails_before_first, passes_at_first, position_or_len_is}
use Rattle.std.proofs.lemmas.Nat.{div-mul-add, mod-mul-add}
use Rattle.tile_map.specs.declared.tiling.Tiling.{Tiling}
use Rattle.tile_map.specs.Tiles.{tile_at, tile_count}
use Rattle.drain_meaning.proofs.Callers.{kept_passes}
use Rattle.border_channel.specs.declared.edge.Edge.{Edge}
use Rattle.border_channel.specs.Edges.{edge_at}
use Rattle.border_channel.proofs.Callers.{filter_rises, filter-keeps, range_rises, rises_index}
use Rattle.plan_graph.specs.Joints.{is_joined, joint_from, joint_into, joint_of, joints_of, pair_of}

-- ---- numbers of two parts

pub pair_below : (a b m n : ℕ) → a < m → b < n → a * n + b < m * n
pair_below a b m n less below =
    let h : suc a * n ≤ m * n = mul-le-mul_right n (omega arith) in
    let e : suc a * n ≡ a * n + n = omega arith in
    omega arith

-- ---- places

pub eq_of : (x y : ℕ) → (x == y) ≡ true → x ≡ y
eq_of x y e = elim (eqb_tells x y) as (λ _. x ≡ y) [ inl same ↦ same.1 | inr other ↦ absurd (let h = other.0 in cc) ]

pub ne_of : (x y : ℕ) → x ≢ y → (x == y) ≡ false
ne_of x y apart = elim (eqb_tells x y) as (λ _. (x == y) ≡ false) [ inl same ↦ absurd (apart same.1) | inr other ↦ other.0 ]

-- the first place where something passes is not behind one where it does
pub first_place : {A : Type 0} (p : A → Bool) (xs : List A) (k : ℕ) (d : A) → k < length xs → p (get_or xs k d) ≡ true → position_or_len p xs ≤ k
first_place p xs k d below pass = elim (cases_lt k (position_or_len p xs)) as (λ _. position_or_len p xs ≤ k) [
  | inl less ↦ absurd (let no = fails_before_first p xs k d less in cc)
  | inr most ↦ most
]

-- a number that the list has stands at its place
pub place_there : (xs : List ℕ) (n : ℕ) → Contains xs n → (position_or_len (λ x. x == n) xs < length xs) × (get_or xs (position_or_len (λ x. x == n) xs) 0 ≡ n)
place_there xs n (k, below, e) =
    let at : get_or xs k 0 ≡ n = get_or_default xs k 0 n below ∙ e in
    let most = first_place (λ x. x == n) xs k 0 below (eq-eqb (get_or xs k 0) n at) in
    let less : position_or_len (λ x. x == n) xs < length xs = omega arith in
    (less, eq_of (get_or xs (position_or_len (λ x. x == n) xs) 0) n (passes_at_first (λ x. x == n) xs 0 less))

in_range : (n u : ℕ) → u < n → Contains (range_with_len 0 n) u
in_range n u h = (u, omega (arith, length-range_with_len 0 n), get_or-range_with_len 0 n u u h ∙ omega arith)

-- ---- joints

-- the edges lead from tile to tile
abbrev pub AreInTiles : Tiling → List Edge → Type 0
AreInTiles g edges = (k : ℕ) → k < length edges → (tile_at g (edge_at edges k).source < tile_count g) × (tile_at g (edge_at edges k).target < tile_count g)

-- the joint of an edge
pub record IsJoined (g : Tiling) (edges : List Edge) (k : ℕ) : Type 0 where
  pub below : joint_of g edges (pair_of g (edge_at edges k)) < length (joints_of g edges)
  pub from : joint_from g (joints_of g edges) (joint_of g edges (pair_of g (edge_at edges k))) ≡ tile_at g (edge_at edges k).source
  pub into : joint_into g (joints_of g edges) (joint_of g edges (pair_of g (edge_at edges k))) ≡ tile_at g (edge_at edges k).target

pub is_joint : (g : Tiling) (edges : List Edge) → AreInTiles g edges → (k : ℕ) → k < length edges → IsJoined g edges k
is_joint g edges tiles k below =
    let pair = pair_of g (edge_at edges k) in
    let two = tiles k below in
    let low : pair < tile_count g * tile_count g = pair_below (tile_at g (edge_at edges k).source) (tile_at g (edge_at edges k).target) (tile_count g) (tile_count g) two.0 two.1 in
    let joined : is_joined g edges pair ≡ true = list_any_at (λ e. pair_of g e == pair) edges k (edge_at edges k) below
    (subst (λ (e : Edge). (pair_of g e == pair) ≡ true) (get_or_default edges k (edge_at [] 0) (edge_at edges k) below) (eq-eqb pair pair refl)) in
    let there = place_there (joints_of g edges) pair (filter-keeps (is_joined g edges) (range_with_len 0 (tile_count g * tile_count g)) pair (in_range (tile_count g * tile_count g) pair low) joined) in
    record {
      below = there.0;
      from = ap (λ (n : ℕ). n / tile_count g) there.1 ∙ div-mul-add (tile_at g (edge_at edges k).source) (tile_count g) (tile_at g (edge_at edges k).target) two.1;
      into = ap (λ (n : ℕ). n % tile_count g) there.1 ∙ mod-mul-add (tile_at g (edge_at edges k).source) (tile_count g) (tile_at g (edge_at edges k).target) two.1;
    }

-- a joint stands at its place alone
pub joint_place : (g : Tiling) (edges : List Edge) (j : ℕ) → j < length (joints_of g edges) → joint_of g edges (get_or (joints_of g edges) j 0) ≡ j
joint_place g edges j below =
    let joints = joints_of g edges in
    let rises = filter_rises (is_joined g edges) (range_with_len 0 (tile_count g * tile_count g)) (range_rises 0 (tile_count g * tile_count g)) in
    position_or_len_is (λ p. p == get_or joints j 0) joints j 0 (omega arith)
    (λ k less. ne_of (get_or joints k 0) (get_or joints j 0) (λ same. let h = rises_index joints rises k j less below in omega (arith, same)))
    (λ _. eq-eqb (get_or joints j 0) (get_or joints j 0) refl)

-- where something passes
any_there : (p : Edge → Bool) (xs : List Edge) → list_any p xs ≡ true → (k : ℕ) × (k < length xs) × (p (edge_at xs k) ≡ true)
any_there p [] e = absurd (cc)
any_there p (x ∷ xs) e = found p x xs (p x) (list_any p xs) refl e (λ h. any_there p xs h)
  where
    found : (q : Edge → Bool) (y : Edge) (ys : List Edge) (a b : Bool) → q y ≡ a → (a || b) ≡ true → (b ≡ true → (k : ℕ) × (k < length ys) × (q (edge_at ys k) ≡ true)) → (k : ℕ) × (k < length (y ∷ ys)) × (q (edge_at (y ∷ ys) k) ≡ true)
    found q y ys true b is h rest = (0, omega arith, is)
    found q y ys false b is h rest = let r = rest h in (suc r.0, (let low = r.1 in omega arith), r.2)

-- each joint has an edge, which goes between its tiles
pub record HasEdge (g : Tiling) (edges : List Edge) (j : ℕ) : Type 0 where
  pub edge : ℕ
  pub within : edge < length edges
  pub is : joint_of g edges (pair_of g (edge_at edges edge)) ≡ j

pub has_edge : (g : Tiling) (edges : List Edge) (j : ℕ) → j < length (joints_of g edges) → HasEdge g edges j
has_edge g edges j below =
    let joints = joints_of g edges in
    let pair = get_or joints j 0 in
    let on : Contains joints pair = (j, below, get_or_default joints j pair 0 below) in
    let kept = kept_passes (is_joined g edges) (range_with_len 0 (tile_count g * tile_count g)) pair on in
    let found = any_there (λ e. pair_of g e == pair) edges kept.0 in
    record {
      edge = found.0;
      within = found.1;
      is = ap (joint_of g edges) (eq_of (pair_of g (edge_at edges found.0)) pair found.2) ∙ joint_place g edges j below;
    }
