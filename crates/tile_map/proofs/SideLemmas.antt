-- One side of a map that is cut into parts of one length; the last part may be shorter.
use Rattle.std.proofs.Common.{◌≡◌, ℕ, zero, suc, ◌+◌, ◌-◌, ◌*◌, ◌/◌, ◌%◌, ◌<◌, ◌≤◌, refl, sym, ap, ◌∙◌, arith, inl, inr}
use Rattle.std.specs.Prelude.{min}
use Rattle.std.specs.Int.{div_ceil}
use Rattle.std.proofs.lemmas.Grind.{div_ceil_times}
use Rattle.std.proofs.lemmas.Nat.{div-add-mod', div-mul-add, mod_below, div_below, le-div, mul-le}
use Rattle.std.proofs.Math.Nat.{min-eq_left, min-eq_right, min-le_left}
use Rattle.std.proofs.lemmas.Bool.{cases_lt}

-- a part begins on the side
pub part_begins : (n p k : ℕ) → 0 < p → k < div_ceil n p → k * p < n
part_begins n p k some below =
    let whole : div_ceil n p * p < n + p = (div_ceil_times n p some).1 in
    let one : (k + 1) * p ≤ div_ceil n p * p = mul-le (k + 1) p (div_ceil n p) p (omega arith) (omega arith) in
    let sum : (k + 1) * p ≡ k * p + p = omega arith in
    omega arith

-- the part of a place is a part
pub part_below : (n p k : ℕ) → 0 < p → k < n → k / p < div_ceil n p
part_below n p k some below = div_below k p (div_ceil n p) some (let whole : n ≤ div_ceil n p * p = (div_ceil_times n p some).0 in omega arith)

-- there are no more parts than places
pub parts_few : (n p : ℕ) → 0 < p → div_ceil n p ≤ n
parts_few n p some = few (div_ceil n p) refl
  where
    few : (m : ℕ) → div_ceil n p ≡ m → div_ceil n p ≤ n
    few zero e = omega arith
    few (suc m) e =
        let begins : m * p < n = part_begins n p m some (omega arith) in
        let grows : m * 1 ≤ m * p = mul-le m 1 m p (omega arith) (omega arith) in
        omega arith

-- a shorter side has no more parts
pub parts_grow : (a b p : ℕ) → 0 < p → a ≤ b → div_ceil a p ≤ div_ceil b p
parts_grow a b p some less = grow (div_ceil a p) refl
  where
    grow : (m : ℕ) → div_ceil a p ≡ m → div_ceil a p ≤ div_ceil b p
    grow zero e = omega arith
    grow (suc m) e =
        let begins : m * p < a = part_begins a p m some (omega arith) in
        let part : (m * p + 0) / p ≡ m = div-mul-add m p 0 some in
        let below : (m * p + 0) / p < div_ceil b p = part_below b p (m * p + 0) some (omega arith) in
        omega arith

-- a place lies behind the beginning of its part
pub part_from : (p k : ℕ) → k / p * p ≤ k
part_from p k = let e = div-add-mod' k p in omega arith

-- and before its end
pub part_to : (n p k : ℕ) → 0 < p → k < n → k < k / p * p + min p (n - k / p * p)
part_to n p k some below =
    let e : k / p * p + k % p ≡ k = div-add-mod' k p in
    let m : k % p < p = mod_below k p some in
    elim (cases_lt p (n - k / p * p)) as (λ x. k < k / p * p + min p (n - k / p * p)) [
      | inl h ↦ let s : min p (n - k / p * p) ≡ p = min-eq_left (omega arith) in omega arith
      | inr h ↦ let s : min p (n - k / p * p) ≡ n - k / p * p = min-eq_right h in omega arith
    ]

-- a place lies in no other part
pub part_only : (n p k t : ℕ) → 0 < p → t * p ≤ k → k < t * p + min p (n - t * p) → t ≡ k / p
part_only n p k t some low high =
    let s : min p (n - t * p) ≤ p = min-le_left p (n - t * p) in
    let d : (t * p + (k - t * p)) / p ≡ t = div-mul-add t p (k - t * p) (omega arith) in
    let e : t * p + (k - t * p) ≡ k = omega arith in
    sym d ∙ ap (λ (x : ℕ). x / p) e

-- a part has places, and ends on the side
pub part_within : (n p start : ℕ) → 0 < p → start < n → (0 < min p (n - start)) × (start + min p (n - start) ≤ n)
part_within n p start some below = (omega arith, omega arith)

-- the part of a place of a stretch is one of the parts that the stretch meets
pub part_of_stretch : (p start size k : ℕ) → 0 < p → start ≤ k → k < start + size → (start / p ≤ k / p) × (k / p < div_ceil (start + size) p)
part_of_stretch p start size k some low high =
    (le-div (start / p) k p some (let f = part_from p start in omega arith), part_below (start + size) p k some high)

-- each of these parts has a place of the stretch
pub place_of_part : (p start size t : ℕ) → 0 < p → 0 < size → start / p ≤ t → t < div_ceil (start + size) p → (k : ℕ) × (start ≤ k) × (k < start + size) × (k / p ≡ t)
place_of_part p start size t some s low high =
    elim (cases_lt start (t * p)) as (λ x. (k : ℕ) × (start ≤ k) × (k < start + size) × (k / p ≡ t)) [
      | inl h ↦
          let begins : t * p < start + size = part_begins (start + size) p t some high in
          let d : (t * p + 0) / p ≡ t = div-mul-add t p 0 some in
          (t * p + 0, omega arith, omega arith, d)
      | inr h ↦ let a : t ≤ start / p = le-div t start p some h in (start, omega arith, omega arith, omega arith)
    ]
