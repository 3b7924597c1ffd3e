-- How many cells each cell waits for before the walk, counted place by place.
use Rattle.std.proofs.Common.{◌≡◌, ◌≢◌, inl, inr, ℕ, ◌+◌, ◌<◌, ◌≤◌, List, [], ◌∷◌, length, sym, ap, subst, ◌∙◌, arith, get_or, get_or-set_same, get_or-set_other, false}
use Rattle.std.proofs.Math.ListN.{set, length-set}
use Rattle.std.proofs.lemmas.Bool.{cases_eq}
use Rattle.drain_meaning.specs.declared.next.Next.TheVariants as next
use Rattle.drain_meaning.specs.Drains.{DrainMap, next_at}
use Rattle.drain_meaning.specs.Paths.{IsDirected}
use Rattle.drain_meaning.specs.Sound.{IsDrain}
use Rattle.drain_meaning.specs.Transports.{drains_into}
use Rattle.drain_meaning.proofs.Callers.{drains_tells, next_directed}
use Rattle.drain_ops.specs.inside.Waits.{AreWaits, feeding, places_before}
use Rattle.drain_ops.proofs.Chains.{drains_apart}
use Rattle.drain_ops.proofs.Feeding.{before_more, feeding_few, feeding_none, feeding_one, many_before}

-- the cells before this place are counted at those that they drain into
pub record FirstWaits (m : DrainMap) (n : ℕ) (waits : List ℕ) : Type 0 where
  pub many : length waits ≡ length m.codes
  pub missing : (u : ℕ) → u < n → next_at m u ≡ next.Missing → get_or waits u 0 ≢ 0
  pub left : (d : ℕ) → IsDirected m d → get_or waits d 0 ≡ feeding m d (places_before n)

pub first_few : (m : DrainMap) (n d : ℕ) (waits : List ℕ) → FirstWaits m n waits → IsDirected m d → get_or waits d 0 ≤ n
first_few m n d waits w directed =
    let few = feeding_few m d (places_before n) in
    let many = many_before n in
    omega (arith, w.left d directed, few, many)

feeding_more : (m : DrainMap) (n d k : ℕ) → feeding m d (n ∷ places_before n) ≡ k → feeding m d (places_before (n + 1)) ≡ k
feeding_more m n d k e = ap (feeding m d) (before_more n) ∙ e

-- a cell that drains into d
pub first_on : (m : DrainMap) (n d : ℕ) (waits : List ℕ) → IsDrain m → FirstWaits m n waits → n < length m.codes → d < length m.codes → next_at m n ≡ next.Cell d → FirstWaits m (n + 1) (set waits d (get_or waits d 0 + 1))
first_on m n d waits is w low v e =
    let here : IsDirected m n = λ k. cc (k, e) in
    let there : IsDirected m d = next_directed m n d (is.sound n here) e in
    let x : ℕ = get_or waits d 0 + 1 in
    let kept : ((u : ℕ) → u ≢ d → get_or (set waits d x) u 0 ≡ get_or waits u 0) = λ u ne. get_or-set_other waits d u x 0 ne in
    record {
      many = length-set waits d x ∙ w.many;
      missing = λ u h k z.
          let off : u ≢ d = λ same. there (subst (λ (q : ℕ). next_at m q ≡ next.Missing) same k) in
          elim (cases_eq u n) as (λ _. ⊥) [
            | inl same ↦ here (subst (λ (q : ℕ). next_at m q ≡ next.Missing) same k)
            | inr ne ↦ w.missing u (omega arith) k (sym (kept u off) ∙ z)
          ];
      left = λ f k. elim (cases_eq f d) as (λ _. get_or (set waits d x) f 0 ≡ feeding m f (places_before (n + 1))) [
        | inl same ↦
            let now : get_or (set waits d x) d 0 ≡ x = get_or-set_same waits d x 0 (omega (arith, v, w.many)) in
            let old = w.left d there in
            let more = feeding_more m n d (feeding m d (places_before n) + 1) (feeding_one m d n (places_before n) e) in
            let all : get_or (set waits d x) d 0 ≡ feeding m d (places_before (n + 1)) = omega (arith, now, old, more) in
            subst (λ (q : ℕ). get_or (set waits d x) q 0 ≡ feeding m q (places_before (n + 1))) (sym same) all
        | inr ne ↦ kept f ne ∙ (w.left f k ∙ sym (feeding_more m n f (feeding m f (places_before n)) (feeding_none m f n (places_before n) (drains_apart m n d f e ne))))
      ];
    }

drains_nowhere : (m : DrainMap) (n d : ℕ) → ((e : ℕ) → next_at m n ≡ next.Cell e → ⊥) → drains_into d (next_at m n) ≡ false
drains_nowhere m n d none = elim (drains_tells (next_at m n) d) as (λ _. drains_into d (next_at m n) ≡ false) [ inl k ↦ absurd (none d k) | inr k ↦ k ]

-- a cell with a direction that drains into none
pub first_rest : (m : DrainMap) (n : ℕ) (waits : List ℕ) → FirstWaits m n waits → IsDirected m n → ((d : ℕ) → next_at m n ≡ next.Cell d → ⊥) → FirstWaits m (n + 1) waits
first_rest m n waits w here none = record {
  many = w.many;
  missing = λ u h k z. elim (cases_eq u n) as (λ _. ⊥) [
    | inl same ↦ here (subst (λ (q : ℕ). next_at m q ≡ next.Missing) same k)
    | inr ne ↦ w.missing u (omega arith) k z
  ];
  left = λ f k. w.left f k ∙ sym (feeding_more m n f (feeding m f (places_before n)) (feeding_none m f n (places_before n) (drains_nowhere m n f none)));
}

-- a cell without a direction
pub first_missing : (m : DrainMap) (n x : ℕ) (waits : List ℕ) → FirstWaits m n waits → n < length m.codes → x ≢ 0 → next_at m n ≡ next.Missing → FirstWaits m (n + 1) (set waits n x)
first_missing m n x waits w low some e =
    let kept : ((u : ℕ) → u ≢ n → get_or (set waits n x) u 0 ≡ get_or waits u 0) = λ u ne. get_or-set_other waits n u x 0 ne in
    let here : get_or (set waits n x) n 0 ≡ x = get_or-set_same waits n x 0 (omega (arith, low, w.many)) in
    record {
      many = length-set waits n x ∙ w.many;
      missing = λ u h k z. elim (cases_eq u n) as (λ _. ⊥) [
        | inl same ↦ some (sym here ∙ (ap (λ (q : ℕ). get_or (set waits n x) q 0) (sym same) ∙ z))
        | inr ne ↦ w.missing u (omega arith) k (sym (kept u ne) ∙ z)
      ];
      left = λ f k.
          let ne : f ≢ n = λ same. k (subst (λ (q : ℕ). next_at m q ≡ next.Missing) (sym same) e) in
          kept f ne ∙ (w.left f k ∙ sym (feeding_more m n f (feeding m f (places_before n)) (feeding_none m f n (places_before n) (drains_nowhere m n f (λ d z. cc (z, e))))));
    }

-- all cells are counted
pub first_all : (m : DrainMap) (n : ℕ) (waits : List ℕ) → FirstWaits m n waits → n ≡ length m.codes → AreWaits m [] waits
first_all m n waits w all = record {
  many = w.many;
  past = λ u k. absurd (omega (arith, k.1));
  missing = λ u h k. w.missing u (omega arith) k;
  left = λ d k out.
      let same : feeding m d (places_before n) ≡ feeding m d (places_before (length m.codes)) = ap (λ (q : ℕ). feeding m d (places_before q)) all in
      omega (arith, w.left d k, same);
}
