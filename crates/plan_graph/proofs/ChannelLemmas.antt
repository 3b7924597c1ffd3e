-- The channels of transports, and the transports of tasks.
use Rattle.std.proofs.Common.{◌≡◌, ◌∙◌, ℕ, ◌+◌, ◌-◌, ◌<◌, ◌≤◌, List, [], ◌∷◌, ◌++◌, length, get_or, take, sym, ap, arith, inl, inr, append-nil}
use Rattle.std.specs.Prelude.{◌⊎◌}
use Rattle.std.proofs.lemmas.Bool.{cases_lt}
use Rattle.std.proofs.lemmas.Bool.Decides.{eqb_tells}
use Rattle.std.specs.List.{flat_map}
use Rattle.std.proofs.lemmas.List.{get_or-append-add, get_or_append_left, take_more}
use Rattle.std.proofs.lemmas.List.Concat.{flat_map-append}
use Rattle.tile_map.specs.Tiles.{tile_count}
use Rattle.task_graph.specs.Plans.{PlanValue}
use Rattle.plan_graph.specs.Borders.{transport_at}
use Rattle.plan_graph.specs.Transports.{task_transport}
use Rattle.plan_graph.specs.inside.Numbers.{AreTold, HaveTasks}

-- one piece more
pub flat_more : {X A : Type 0} (f : X → List A) (xs : List X) (i : ℕ) (d : X) → i < length xs → flat_map f (take (i + 1) xs) ≡ flat_map f (take i xs) ++ f (get_or xs i d)
flat_more f xs i d below =
    ap (flat_map f) (take_more xs i d below)
    ∙ (flat_map-append f (take i xs) (get_or xs i d ∷ []) ∙ ap (λ ys. flat_map f (take i xs) ++ ys) (append-nil (f (get_or xs i d))))

-- a number more is told
pub pushed_more : (told : ℕ → ℕ) (xs : List ℕ) (n x : ℕ) → length xs ≡ n → ((f : ℕ) → f < n → get_or xs f 0 ≡ told f) → x ≡ told n → (f : ℕ) → f < n + 1 → get_or (xs ++ x ∷ []) f 0 ≡ told f
pushed_more told xs n x size each is f below = elim (eqb_tells f n) as (λ _. get_or (xs ++ x ∷ []) f 0 ≡ told f) [
  | inl same ↦
      let at : f ≡ length xs + 0 = let e = same.1 in omega arith in
      ap (λ (k : ℕ). get_or (xs ++ x ∷ []) k 0) at ∙ (get_or-append-add xs (x ∷ []) 0 0 ∙ (is ∙ ap told (sym same.1)))
  | inr apart ↦
      let other = apart.1 in
      let less : f < n = omega (arith, other) in
      get_or_append_left xs (x ∷ []) 0 f (omega arith) ∙ each f less
]

-- the tasks of one transport more are told
pub told_more : (plan : PlanValue) (n number : ℕ) (told new : List ℕ) → HaveTasks plan → n < length plan.flows → AreTold plan n told → number ≡ n → length new ≡ length told →
    ((tile : ℕ) → tile < tile_count plan.tiling → get_or new ((transport_at plan n).first + tile) 0 ≡ number) →
    ((t : ℕ) → (t < (transport_at plan n).first) ⊎ ((transport_at plan n).first + tile_count plan.tiling ≤ t) → get_or new t 0 ≡ get_or told t 0) → AreTold plan (n + 1) new
told_more plan n number told new have low are is size own others = record {
  many = size ∙ are.many;
  right = λ f tile less below. elim (eqb_tells f n) as (λ _. get_or new ((transport_at plan f).first + tile) 0 ≡ f) [
    | inl same ↦ ap (λ (k : ℕ). get_or new ((transport_at plan k).first + tile) 0) same.1 ∙ (own tile below ∙ (is ∙ sym same.1))
    | inr apart ↦
        let other = apart.1 in
        let lower : f < n = omega (arith, other) in
        let t = (transport_at plan f).first + tile in
        let before : get_or told t 0 ≡ f = are.right f tile lower below in
        elim (cases_lt t (transport_at plan n).first) as (λ _. get_or new t 0 ≡ f) [
          | inl left ↦ others t (inl left) ∙ before
          | inr from ↦ elim (cases_lt t ((transport_at plan n).first + tile_count plan.tiling)) as (λ _. get_or new t 0 ≡ f) [
            | inl within ↦
                let k = t - (transport_at plan n).first in
                let at : (transport_at plan n).first + k ≡ t = omega arith in
                let here : task_transport plan ((transport_at plan n).first + k) ≡ n = (have n k low (omega arith)).1 in
                let there : task_transport plan t ≡ f = (have f tile (omega arith) below).1 in
                absurd (let e = ap (task_transport plan) at in omega arith)
            | inr right ↦ others t (inr right) ∙ before
          ]
        ]
  ];
}
