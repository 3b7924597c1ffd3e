-- The way down to a cell that has its end, and back.
use Rattle.std.proofs.Common.{◌≡◌, ◌⊎◌, inl, inr, ℕ, ◌+◌, ◌<◌, List, [], ◌∷◌, ◌++◌, length, refl, sym, ap, subst, ◌∙◌, arith, get_or, get_or-set_same, get_or-set_other, Bool, true, false}
use Rattle.std.specs.List.{Contains}
use Rattle.std.proofs.Math.ListN.{get_or-append, set}
use Rattle.std.proofs.lemmas.Bool.{cases_eq}
use Rattle.std.proofs.lemmas.List.{get_or_push, length_push}
use Rattle.std.proofs.lemmas.List.Elements.{Contains-append_left, Contains-push, Contains-push_cases}
use Rattle.drain_meaning.specs.declared.next.Next.TheVariants as next
use Rattle.drain_meaning.specs.Drains.{DrainMap, next_at}
use Rattle.drain_meaning.specs.Paths.{IsDirected}
use Rattle.drain_meaning.specs.Sound.{IsDrain}
use Rattle.drain_meaning.proofs.Callers.{next_directed}
use Rattle.drain_ops.specs.inside.Trails.{FollowsOn, IsEnded, IsEndedOrOnTrail, LeadsDown}

-- the trail leads to this cell
pub record LeadsTo (m : DrainMap) (place : ℕ) (trail : List ℕ) (at : ℕ) : Type 0 where
  pub within : at < length m.codes
  pub directed : (i : ℕ) → i < length trail → IsDirected m (get_or trail i 0)
  pub next : (i d : ℕ) → i < length trail → next_at m (get_or trail i 0) ≡ next.Cell d → FollowsOn trail i d ⊎ ((i + 1 ≡ length trail) × (d ≡ at))
  pub from : (place ≡ at) ⊎ Contains trail place

pub leads_first : (m : DrainMap) (place : ℕ) (trail : List ℕ) → length trail ≡ 0 → place < length m.codes → LeadsTo m place trail place
leads_first m place trail none low = record {
  within = low;
  directed = λ i h. absurd (omega arith);
  next = λ i d h e. absurd (omega arith);
  from = inl refl;
}

-- what follows on a cell of the trail still does once there is one more
follows_more : (trail : List ℕ) (x i d : ℕ) → FollowsOn trail i d → FollowsOn (trail ++ x ∷ []) i d
follows_more trail x i d f = (omega (arith, length_push trail x, f.0), get_or-append trail (x ∷ []) 0 (i + 1) f.0 ∙ f.1)

-- the cells of a longer trail have directions
directed_push : (m : DrainMap) (trail : List ℕ) (at : ℕ) → ((i : ℕ) → i < length trail → IsDirected m (get_or trail i 0)) → IsDirected m at → (i : ℕ) → i < length (trail ++ at ∷ []) → IsDirected m (get_or (trail ++ at ∷ []) i 0)
directed_push m trail at all here i h = elim (cases_eq i (length trail)) as (λ _. IsDirected m (get_or (trail ++ at ∷ []) i 0)) [
  | inl same ↦ subst (λ (y : ℕ). IsDirected m y) (sym (get_or_push trail at 0 i (sym same))) here
  | inr ne ↦
      let low : i < length trail = omega (arith, length_push trail at, h, ne) in
      subst (λ (y : ℕ). IsDirected m y) (sym (get_or-append trail (at ∷ []) 0 i low)) (all i low)
]

from_push : (trail : List ℕ) (place at : ℕ) → (place ≡ at) ⊎ Contains trail place → Contains (trail ++ at ∷ []) place
from_push trail place at (inl same) = subst (λ (y : ℕ). Contains (trail ++ at ∷ []) y) (sym same) (Contains-push trail at)
from_push trail place at (inr k) = Contains-append_left trail (at ∷ []) place k

-- what follows on the cells before the last one of a longer trail
before_last : (m : DrainMap) (place : ℕ) (trail : List ℕ) (at i d : ℕ) → LeadsTo m place trail at → i < length trail → next_at m (get_or (trail ++ at ∷ []) i 0) ≡ next.Cell d → FollowsOn (trail ++ at ∷ []) i d
before_last m place trail at i d l low e =
    let e0 : next_at m (get_or trail i 0) ≡ next.Cell d = ap (λ (y : ℕ). next_at m y) (sym (get_or-append trail (at ∷ []) 0 i low)) ∙ e in
    elim (l.next i d low e0) as (λ _. FollowsOn (trail ++ at ∷ []) i d) [
      | inl f ↦ follows_more trail at i d f
      | inr f ↦ (omega (arith, length_push trail at, f.0), get_or_push trail at 0 (i + 1) (sym f.0) ∙ sym f.1)
    ]

-- one step down
pub leads_step : (m : DrainMap) (place : ℕ) (trail : List ℕ) (at d : ℕ) → LeadsTo m place trail at → next_at m at ≡ next.Cell d → d < length m.codes → LeadsTo m place (trail ++ at ∷ []) d
leads_step m place trail at d l e low = record {
  within = low;
  directed = directed_push m trail at l.directed (λ k. cc (k, e));
  next = λ i f h k. elim (cases_eq i (length trail)) as (λ _. FollowsOn (trail ++ at ∷ []) i f ⊎ ((i + 1 ≡ length (trail ++ at ∷ [])) × (f ≡ d))) [
    | inl same ↦
        let k0 : next_at m at ≡ next.Cell f = ap (λ (y : ℕ). next_at m y) (sym (get_or_push trail at 0 i (sym same))) ∙ k in
        inr (omega (arith, length_push trail at, same), cc (k0, e))
    | inr ne ↦ inl (before_last m place trail at i f l (omega (arith, length_push trail at, h, ne)) k)
  ];
  from = inr (from_push trail place at l.from);
}

-- the trail ends with a cell that drains into none
pub leads_end : (m : DrainMap) (place : ℕ) (ended : List Bool) (trail : List ℕ) (at : ℕ) → LeadsTo m place trail at → IsDirected m at → ((d : ℕ) → next_at m at ≡ next.Cell d → ⊥) → LeadsDown m ended (trail ++ at ∷ [])
leads_end m place ended trail at l here none = record {
  directed = directed_push m trail at l.directed here;
  next = λ i f h k. elim (cases_eq i (length trail)) as (λ _. IsEnded ended f ⊎ FollowsOn (trail ++ at ∷ []) i f) [
    | inl same ↦
        let k0 : next_at m at ≡ next.Cell f = ap (λ (y : ℕ). next_at m y) (sym (get_or_push trail at 0 i (sym same))) ∙ k in
        absurd (none f k0)
    | inr ne ↦ inr (before_last m place trail at i f l (omega (arith, length_push trail at, h, ne)) k)
  ];
}

pub found_end : (m : DrainMap) (place : ℕ) (ended : List Bool) (trail : List ℕ) (at : ℕ) → LeadsTo m place trail at → IsEndedOrOnTrail m ended (trail ++ at ∷ []) place
found_end m place ended trail at l = λ h. inr (from_push trail place at l.from)

-- or it leads to a cell that has its end
pub leads_ended : (m : DrainMap) (place : ℕ) (ended : List Bool) (trail : List ℕ) (at : ℕ) → LeadsTo m place trail at → IsEnded ended at → LeadsDown m ended trail
leads_ended m place ended trail at l here = record {
  directed = l.directed;
  next = λ i f h k. elim (l.next i f h k) as (λ _. IsEnded ended f ⊎ FollowsOn trail i f) [
    | inl g ↦ inr g
    | inr g ↦ inl (subst (λ (y : ℕ). IsEnded ended y) (sym g.1) here)
  ];
}

pub found_ended : (m : DrainMap) (place : ℕ) (ended : List Bool) (trail : List ℕ) (at : ℕ) → LeadsTo m place trail at → IsEnded ended at → IsEndedOrOnTrail m ended trail place
found_ended m place ended trail at l here = λ h. elim l.from as (λ _. IsEnded ended place ⊎ Contains trail place) [
  | inl same ↦ inl (subst (λ (y : ℕ). IsEnded ended y) (sym same) here)
  | inr k ↦ inr k
]

-- or it is empty, where the place has no direction
pub leads_missing : (m : DrainMap) (place : ℕ) (ended : List Bool) (trail : List ℕ) (at : ℕ) → IsDrain m → LeadsTo m place trail at → next_at m at ≡ next.Missing → LeadsDown m ended trail
leads_missing m place ended trail at is l none = record {
  directed = l.directed;
  next = λ i f h k. elim (l.next i f h k) as (λ _. IsEnded ended f ⊎ FollowsOn trail i f) [
    | inl g ↦ inr g
    | inr g ↦
        let there = next_directed m (get_or trail i 0) f (is.sound (get_or trail i 0) (l.directed i h)) k in
        absurd (there (ap (λ (y : ℕ). next_at m y) g.1 ∙ none))
  ];
}

pub found_missing : (m : DrainMap) (place : ℕ) (ended : List Bool) (trail : List ℕ) (at : ℕ) → LeadsTo m place trail at → next_at m at ≡ next.Missing → IsEndedOrOnTrail m ended trail place
found_missing m place ended trail at l none = λ h. elim l.from as (λ _. IsEnded ended place ⊎ Contains trail place) [
  | inl same ↦ absurd (h (ap (λ (y : ℕ). next_at m y) same ∙ none))
  | inr k ↦ inr k
]

-- the last cell of the trail, as its turn comes
pub record IsLast (m : DrainMap) (ended : List Bool) (c : ℕ) : Type 0 where
  pub directed : IsDirected m c
  pub fed : (d : ℕ) → next_at m c ≡ next.Cell d → IsEnded ended d

pub last_of : (m : DrainMap) (ended : List Bool) (rest trail : List ℕ) (c : ℕ) → LeadsDown m ended trail → trail ≡ rest ++ c ∷ [] → IsLast m ended c
last_of m ended rest trail c l e =
    let here : get_or trail (length rest) 0 ≡ c = ap (λ (y : List ℕ). get_or y (length rest) 0) e ∙ get_or_push rest c 0 (length rest) refl in
    let many : length trail ≡ length rest + 1 = ap length e ∙ length_push rest c in
    record {
      directed = subst (λ (y : ℕ). IsDirected m y) here (l.directed (length rest) (omega (arith, many)));
      fed = λ d k. elim (l.next (length rest) d (omega (arith, many)) (ap (λ (y : ℕ). next_at m y) here ∙ k)) as (λ _. IsEnded ended d) [
        | inl g ↦ g
        | inr g ↦ absurd (omega (arith, many, g.0))
      ];
    }

ended_set : (ended : List Bool) (c : ℕ) → c < length ended → IsEnded (set ended c true) c
ended_set ended c w = get_or-set_same ended c true false w

pub ended_kept : (ended : List Bool) (c u : ℕ) → c < length ended → IsEnded ended u → IsEnded (set ended c true) u
ended_kept ended c u w k = elim (cases_eq u c) as (λ _. IsEnded (set ended c true) u) [
  | inl same ↦ subst (λ (y : ℕ). IsEnded (set ended c true) y) (sym same) (ended_set ended c w)
  | inr ne ↦ get_or-set_other ended c u true false ne ∙ k
]

pub ended_cases : (ended : List Bool) (c u : ℕ) → IsEnded (set ended c true) u → (u ≡ c) ⊎ IsEnded ended u
ended_cases ended c u k = elim (cases_eq u c) as (λ _. (u ≡ c) ⊎ IsEnded ended u) [
  | inl same ↦ inl same
  | inr ne ↦ inr (sym (get_or-set_other ended c u true false ne) ∙ k)
]

pub ended_here : (ended : List Bool) (c : ℕ) → c < length ended → IsEnded (set ended c true) c
ended_here ended c w = ended_set ended c w

-- after the turn of the last cell
pub leads_back : (m : DrainMap) (ended : List Bool) (rest trail : List ℕ) (c : ℕ) → LeadsDown m ended trail → trail ≡ rest ++ c ∷ [] → c < length ended → LeadsDown m (set ended c true) rest
leads_back m ended rest trail c l e w =
    let many : length trail ≡ length rest + 1 = ap length e ∙ length_push rest c in
    let at : ((i : ℕ) → i < length rest → get_or trail i 0 ≡ get_or rest i 0) = λ i h. ap (λ (y : List ℕ). get_or y i 0) e ∙ get_or-append rest (c ∷ []) 0 i h in
    record {
      directed = λ i h. subst (λ (y : ℕ). IsDirected m y) (at i h) (l.directed i (omega (arith, many, h)));
      next = λ i d h k. elim (l.next i d (omega (arith, many, h)) (ap (λ (y : ℕ). next_at m y) (at i h) ∙ k)) as (λ _. IsEnded (set ended c true) d ⊎ FollowsOn rest i d) [
        | inl g ↦ inl (ended_kept ended c d w g)
        | inr g ↦ elim (cases_eq (i + 1) (length rest)) as (λ _. IsEnded (set ended c true) d ⊎ FollowsOn rest i d) [
          | inl same ↦
              let here : get_or trail (i + 1) 0 ≡ c = ap (λ (y : List ℕ). get_or y (i + 1) 0) e ∙ get_or_push rest c 0 (i + 1) (sym same) in
              inl (subst (λ (y : ℕ). IsEnded (set ended c true) y) (sym here ∙ g.1) (ended_set ended c w))
          | inr ne ↦
              let low : i + 1 < length rest = omega (arith, h, ne) in
              inr (low, sym (at (i + 1) low) ∙ g.1)
        ]
      ];
    }

pub found_back : (m : DrainMap) (ended : List Bool) (rest trail : List ℕ) (c place : ℕ) → IsEndedOrOnTrail m ended trail place → trail ≡ rest ++ c ∷ [] → c < length ended → IsEndedOrOnTrail m (set ended c true) rest place
found_back m ended rest trail c place found e w h = elim (found h) as (λ _. IsEnded (set ended c true) place ⊎ Contains rest place) [
  | inl k ↦ inl (ended_kept ended c place w k)
  | inr k ↦ elim (Contains-push_cases rest c place (subst (λ (y : List ℕ). Contains y place) e k)) as (λ _. IsEnded (set ended c true) place ⊎ Contains rest place) [
    | inl b ↦ inr b
    | inr b ↦ inl (subst (λ (y : ℕ). IsEnded (set ended c true) y) b (ended_set ended c w))
  ]
]

-- an empty trail
pub found_all : (m : DrainMap) (ended : List Bool) (trail : List ℕ) (place : ℕ) → IsEndedOrOnTrail m ended trail place → length trail ≡ 0 → IsDirected m place → IsEnded ended place
found_all m ended trail place found none h = elim (found h) as (λ _. IsEnded ended place) [
  | inl k ↦ k
  | inr k ↦ absurd (omega (arith, k.1, none))
]
