-- Edges that can be sent.
use Rattle.std.proofs.Common.{◌≡◌, ◌≢◌, ℕ, ◌+◌, ◌<◌, ◌≤◌, List, [], ◌∷◌, ◌++◌, length, map, take, refl, sym, ap, subst, ◌∙◌, arith, inl, inr, suc, Bool, true, false, get_or}
use Rattle.std.specs.Prelude.{◌==◌, ◌&&◌, ◌||◌, nat_lt}
use Rattle.std.specs.BinaryHeap.{IsUpperBound}
use Rattle.std.specs.List.{Contains, list_any, sum_by}
use Rattle.std.specs.List.Sorted.{IsPermutation}
use Rattle.std.specs.Ordering.{is_lt, nat_cmp}
use Rattle.std.specs.Prelude.{Ok, Err, Result}
use Rattle.std.specs.Result.{OnOk, is_ok}
use Rattle.std.proofs.lemmas.Bool.{cases_eq, cases_lt, eq-eqb}
use Rattle.std.proofs.lemmas.Bool.Decides.{nat_tests}
use Rattle.std.proofs.lemmas.List.Sorted.{sum_by_popped, sum_by_pushed}
use Rattle.std.proofs.lemmas.List.Sums.{sum_by-cons}
use Rattle.drain_meaning.proofs.Callers.{contains_cases, contains_first, contains_later}
use Rattle.std.proofs.Math.Seq.{take-suc}
use Rattle.std.proofs.lemmas.List.{get_or_past}
use Rattle.flow_task.specs.declared.link.Link.{Link}
use Rattle.flow_task.specs.inside.Due.{LinksAreDue, leaves_one, place_times}
use Rattle.flow_task.specs.inside.Kept.{link_at}
use Rattle.flow_task.specs.inside.Underway.{Distinct, one_if, queued_at}
use Rattle.flow_task.proofs.Counting.{distinct_few}
use Rattle.flow_task.proofs.Turns.{any_append, any_none, not_before, test_other}

-- ---- a heap

-- what holds where there is no error
pub opened : {T E P : Type 0} (r : Result T E) → is_ok r ≡ true → OnOk r P → P
opened (Ok x) e p = p
opened (Err x) e p = cc e

times_sum : {X : Type 0} (f : X → ℕ) (xs : List X) (k : ℕ) → place_times (map f xs) k ≡ sum_by (λ x. one_if (f x == k)) xs
times_sum f [] k = refl
times_sum f (x ∷ xs) k =
    let rest = times_sum f xs k in
    let more = sum_by-cons (λ y. one_if (f y == k)) x xs in
    omega (arith, rest, more)

-- one more is put in
pub pushed_times : {X : Type 0} (f : X → ℕ) (x : X) (xs ys : List X) → IsPermutation (x ∷ xs) ys → (k : ℕ) → place_times (map f ys) k ≡ one_if (f x == k) + place_times (map f xs) k
pushed_times f x xs ys moved k =
    times_sum f ys k ∙ (sum_by_pushed (λ y. one_if (f y == k)) x xs ys moved ∙ ap (λ (n : ℕ). one_if (f x == k) + n) (sym (times_sum f xs k)))

-- one is taken out
pub popped_times : {X : Type 0} (f : X → ℕ) (x : X) (xs ys : List X) → IsPermutation xs (x ∷ ys) → (k : ℕ) → one_if (f x == k) + place_times (map f ys) k ≡ place_times (map f xs) k
popped_times f x xs ys moved k =
    let sum = sum_by_popped (λ y. one_if (f y == k)) x xs ys moved in
    let one = times_sum f xs k in
    let two = times_sum f ys k in
    omega (arith, sum, one, two)

not_above : (x y : ℕ) → is_lt (nat_cmp y x) ≡ false → x ≤ y
not_above x y e = elim (cases_lt y x) as (λ _. x ≤ y) [
  | inl less ↦ absurd (let on : nat_lt y x ≡ true = grind (arith, nat_tests) in let lt : is_lt (nat_cmp y x) ≡ true = rw on refl in cc (lt, e))
  | inr more ↦ more
]

-- the top is the least
pub top_least : {X : Type 0} (f : X → ℕ) (x : X) (xs : List X) → IsUpperBound (λ a b. nat_cmp (f b) (f a)) x xs → (j : ℕ) → Contains (map f xs) j → f x ≤ j
top_least f x [] bound j h = absurd (omega (arith, h.1))
top_least f x (y ∷ ys) bound j h = elim (contains_cases (f y) (map f ys) j h) as (λ _. f x ≤ j) [
  | inl same ↦ subst (λ (n : ℕ). f x ≤ n) (sym same) (not_above (f x) (f y) bound.0)
  | inr later ↦ top_least f x ys bound.1 j later
]

-- and one of them
pub top_in : {X : Type 0} (f : X → ℕ) (x : X) (xs : List X) → 0 < length xs → x ≡ get_or xs 0 x → Contains (map f xs) (f x)
top_in f x [] some is = absurd (omega arith)
top_in f x (y ∷ ys) some is = subst (λ (n : ℕ). Contains (f y ∷ map f ys) n) (ap f (sym is)) (contains_first (f y) (map f ys))

-- there is none
pub none_in : {X : Type 0} (f : X → ℕ) (xs : List X) → length xs ≡ 0 → map f xs ≡ []
none_in f [] e = refl
none_in f (x ∷ xs) e = absurd (omega (arith, e))

-- what stands there stands there once at least
pub times_on : (xs : List ℕ) (k : ℕ) → Contains xs k → 0 < place_times xs k
times_on [] k h = absurd (omega (arith, h.1))
times_on (x ∷ xs) k h = elim (contains_cases x xs k h) as (λ _. 0 < place_times (x ∷ xs) k) [
  | inl same ↦ (let one : one_if (x == k) ≡ 1 = ap one_if (eq-eqb x k (sym same)) in omega (arith, one))
  | inr later ↦ (let rest = times_on xs k later in omega (arith, rest))
]

pub times_has : (xs : List ℕ) (k : ℕ) → 0 < place_times xs k → Contains xs k
times_has [] k some = absurd (omega (arith, some))
times_has (x ∷ xs) k some = elim (cases_eq x k) as (λ _. Contains (x ∷ xs) k) [
  | inl same ↦ subst (λ (n : ℕ). Contains (x ∷ xs) n) same (contains_first x xs)
  | inr other ↦
      let none : (x == k) ≡ false = grind (arith, nat_tests) in
      let zero_of : one_if (x == k) ≡ 0 = ap one_if none in
      contains_later x xs k (times_has xs k (omega (arith, some, zero_of)))
]

-- ---- the edges out of one more cell

-- a number that stands nowhere twice
distinct_times : (xs : List ℕ) → ((k : ℕ) → place_times xs k ≤ 1) → Distinct xs
distinct_times [] once = tt
distinct_times (x ∷ xs) once = (
  (λ h.
      let more = times_on xs x h in
      let one : one_if (x == x) ≡ 1 = ap one_if (eq-eqb x x refl) in
      let most = once x in
      omega (arith, more, one, most)),
  distinct_times xs (λ k. (let most = once k in omega (arith, most))),
)

-- those of the first links of a cell are due, beside those of other cells
abbrev pub partly : List Link → List Bool → List ℕ → ℕ → ℕ → ℕ → Bool
partly outbound unsent cells cell upto k =
    get_or unsent k false && (list_any (λ c. c == (link_at outbound k).cell) cells || (nat_lt k upto && (cell == (link_at outbound k).cell)))

abbrev pub ArePartly : List Link → List Bool → List ℕ → ℕ → ℕ → List ℕ → Type 0
ArePartly outbound unsent cells cell upto places = (k : ℕ) → place_times places k ≡ one_if (partly outbound unsent cells cell upto k)

pub and_off : (a b : Bool) → b ≡ false → (a && b) ≡ false
and_off true b e = e
and_off false b e = refl

pub off_and : (a b : Bool) → a ≡ false → (a && b) ≡ false
off_and a b e = rw e refl

or_off : (a b : Bool) → b ≡ false → (a || b) ≡ a
or_off true b e = refl
or_off false b e = e

on_and : (a b : Bool) → a ≡ true → (a && b) ≡ b
on_and a b e = rw e refl

below_is : (k n : ℕ) → k < n → nat_lt k n ≡ true
below_is k n less = grind (arith, nat_tests)

above_is : (k n : ℕ) → n ≤ k → nat_lt k n ≡ false
above_is k n more = grind (arith, nat_tests)

pub partly_first : (outbound : List Link) (unsent : List Bool) (cells : List ℕ) (cell from : ℕ) (places : List ℕ) → ((k : ℕ) → k < from → (link_at outbound k).cell < cell) → LinksAreDue outbound unsent cells places → ArePartly outbound unsent cells cell from places
partly_first outbound unsent cells cell from places below due k =
    let any : Bool = list_any (λ c. c == (link_at outbound k).cell) cells in
    let none : (nat_lt k from && (cell == (link_at outbound k).cell)) ≡ false = elim (cases_lt k from) as (λ _. (nat_lt k from && (cell == (link_at outbound k).cell)) ≡ false) [
      | inl less ↦ and_off (nat_lt k from) (cell == (link_at outbound k).cell) (test_other cell (link_at outbound k).cell (λ e. (let b = below k less in omega (arith, b, e))))
      | inr more ↦ off_and (nat_lt k from) (cell == (link_at outbound k).cell) (above_is k from more)
    ] in
    due k ∙ ap (λ (o : Bool). one_if (get_or unsent k false && o)) (sym (or_off any (nat_lt k from && (cell == (link_at outbound k).cell)) none))

-- the same link, whether those up to it or up to the next are looked at
partly_same : (outbound : List Link) (unsent : List Bool) (cells : List ℕ) (cell k j : ℕ) → j ≢ k → partly outbound unsent cells cell k j ≡ partly outbound unsent cells cell (k + 1) j
partly_same outbound unsent cells cell k j ne =
    let same : nat_lt j k ≡ nat_lt j (k + 1) = elim (cases_lt j k) as (λ _. nat_lt j k ≡ nat_lt j (k + 1)) [
      | inl less ↦ below_is j k less ∙ sym (below_is j (k + 1) (omega (arith, less)))
      | inr more ↦ above_is j k more ∙ sym (above_is j (k + 1) (omega arith))
    ] in
    ap (λ (o : Bool). get_or unsent j false && (list_any (λ c. c == (link_at outbound j).cell) cells || (o && (cell == (link_at outbound j).cell)))) same

-- a link of the cell that is looked at was not due
not_due : (outbound : List Link) (unsent : List Bool) (cells : List ℕ) (cell k : ℕ) (places : List ℕ) → (link_at outbound k).cell ≡ cell → (Contains cells cell → ⊥) → ArePartly outbound unsent cells cell k places → place_times places k ≡ 0
not_due outbound unsent cells cell k places is out due =
    let any : list_any (λ c. c == (link_at outbound k).cell) cells ≡ false = any_none (λ c. c == (link_at outbound k).cell) cells (λ x h. test_other x (link_at outbound k).cell (λ e. out (subst (λ (n : ℕ). Contains cells n) (e ∙ is) h))) in
    let later : (nat_lt k k && (cell == (link_at outbound k).cell)) ≡ false = off_and (nat_lt k k) (cell == (link_at outbound k).cell) (above_is k k (omega arith)) in
    due k ∙ ap one_if (and_off (get_or unsent k false) (list_any (λ c. c == (link_at outbound k).cell) cells || (nat_lt k k && (cell == (link_at outbound k).cell)))
    (or_off (list_any (λ c. c == (link_at outbound k).cell) cells) (nat_lt k k && (cell == (link_at outbound k).cell)) later ∙ any))

or_last : (a b : Bool) → b ≡ true → (a || b) ≡ true
or_last true b e = refl
or_last false b e = e

pub partly_on : (outbound : List Link) (unsent : List Bool) (cells : List ℕ) (cell k : ℕ) (places new : List ℕ) → (link_at outbound k).cell ≡ cell → (Contains cells cell → ⊥) → get_or unsent k false ≡ true → ((j : ℕ) → place_times new j ≡ one_if (k == j) + place_times places j) → ArePartly outbound unsent cells cell k places → ArePartly outbound unsent cells cell (k + 1) new
partly_on outbound unsent cells cell k places new is out on added due j = elim (cases_eq j k) as (λ _. place_times new j ≡ one_if (partly outbound unsent cells cell (k + 1) j)) [
  | inl same ↦
      let none = not_due outbound unsent cells cell k places is out due in
      let one : one_if (k == k) ≡ 1 = ap one_if (eq-eqb k k refl) in
      let more = added k in
      let here : (nat_lt k (k + 1) && (cell == (link_at outbound k).cell)) ≡ true = on_and (nat_lt k (k + 1)) (cell == (link_at outbound k).cell) (below_is k (k + 1) (omega arith)) ∙ eq-eqb cell (link_at outbound k).cell (sym is) in
      let now : partly outbound unsent cells cell (k + 1) k ≡ true = on_and (get_or unsent k false) (list_any (λ c. c == (link_at outbound k).cell) cells || (nat_lt k (k + 1) && (cell == (link_at outbound k).cell))) on ∙ or_last (list_any (λ c. c == (link_at outbound k).cell) cells) (nat_lt k (k + 1) && (cell == (link_at outbound k).cell)) here in
      let once : place_times new k ≡ 1 = omega (arith, more, one, none) in
      subst (λ (n : ℕ). place_times new n ≡ one_if (partly outbound unsent cells cell (k + 1) n)) (sym same) (once ∙ ap one_if (sym now))
  | inr ne ↦
      let zero_of : one_if (k == j) ≡ 0 = ap one_if (test_other k j (λ e. ne (sym e))) in
      let more = added j in
      let stays : place_times new j ≡ place_times places j = omega (arith, more, zero_of) in
      stays ∙ (due j ∙ ap one_if (partly_same outbound unsent cells cell k j ne))
]

pub partly_off : (outbound : List Link) (unsent : List Bool) (cells : List ℕ) (cell k : ℕ) (places : List ℕ) → get_or unsent k false ≡ false → ArePartly outbound unsent cells cell k places → ArePartly outbound unsent cells cell (k + 1) places
partly_off outbound unsent cells cell k places off due j = elim (cases_eq j k) as (λ _. place_times places j ≡ one_if (partly outbound unsent cells cell (k + 1) j)) [
  | inl same ↦ subst (λ (n : ℕ). place_times places n ≡ one_if (partly outbound unsent cells cell (k + 1) n)) (sym same)
      (due k ∙ ap one_if (off_and (get_or unsent k false) (list_any (λ c. c == (link_at outbound k).cell) cells || (nat_lt k k && (cell == (link_at outbound k).cell))) off
      ∙ sym (off_and (get_or unsent k false) (list_any (λ c. c == (link_at outbound k).cell) cells || (nat_lt k (k + 1) && (cell == (link_at outbound k).cell))) off)))
  | inr ne ↦ due j ∙ ap one_if (partly_same outbound unsent cells cell k j ne)
]

-- one more cell of the queue
leaves_more : (outbound : List Link) (unsent : List Bool) (queue : List ℕ) (at k : ℕ) → at < length queue → leaves_one outbound unsent (take (at + 1) queue) k ≡ (get_or unsent k false && (list_any (λ c. c == (link_at outbound k).cell) (take at queue) || (queued_at queue at == (link_at outbound k).cell)))
leaves_more outbound unsent queue at k low =
    let more : take (at + 1) queue ≡ take at queue ++ queued_at queue at ∷ [] = ap (λ (n : ℕ). take n queue) (let s : at + 1 ≡ suc at = omega arith in s) ∙ take-suc queue at 0 low in
    let one : (queued_at queue at == (link_at outbound k).cell || false) ≡ (queued_at queue at == (link_at outbound k).cell) = or_off (queued_at queue at == (link_at outbound k).cell) false refl in
    ap (λ (q : List ℕ). get_or unsent k false && list_any (λ c. c == (link_at outbound k).cell) q) more
    ∙ (ap (λ (o : Bool). get_or unsent k false && o) (any_append (λ c. c == (link_at outbound k).cell) (take at queue) (queued_at queue at ∷ []))
    ∙ ap (λ (o : Bool). get_or unsent k false && (list_any (λ c. c == (link_at outbound k).cell) (take at queue) || o)) one)

pub partly_last : (outbound : List Link) (unsent : List Bool) (queue : List ℕ) (at cell to : ℕ) (places : List ℕ) → at < length queue → cell ≡ queued_at queue at → length unsent ≡ length outbound → ((k : ℕ) → to ≤ k → k < length outbound → cell + 1 ≤ (link_at outbound k).cell) → ArePartly outbound unsent (take at queue) cell to places → LinksAreDue outbound unsent (take (at + 1) queue) places
partly_last outbound unsent queue at cell to places low is many above due k =
    let any : Bool = list_any (λ c. c == (link_at outbound k).cell) (take at queue) in
    let test : Bool = cell == (link_at outbound k).cell in
    let same : (get_or unsent k false && (any || (nat_lt k to && test))) ≡ (get_or unsent k false && (any || test)) = elim (cases_lt k to) as (λ _. (get_or unsent k false && (any || (nat_lt k to && test))) ≡ (get_or unsent k false && (any || test))) [
      | inl less ↦ ap (λ (o : Bool). get_or unsent k false && (any || o)) (on_and (nat_lt k to) test (below_is k to less))
      | inr more ↦ elim (cases_lt k (length outbound)) as (λ _. (get_or unsent k false && (any || (nat_lt k to && test))) ≡ (get_or unsent k false && (any || test))) [
        | inl inside ↦
            let up = above k more inside in
            let off : test ≡ false = test_other cell (link_at outbound k).cell (λ e. omega (arith, up, e)) in
            ap (λ (o : Bool). get_or unsent k false && (any || o)) (and_off (nat_lt k to) test off ∙ sym off)
        | inr outside ↦
            let none : get_or unsent k false ≡ false = get_or_past unsent k false (omega (arith, outside, many)) in
            off_and (get_or unsent k false) (any || (nat_lt k to && test)) none ∙ sym (off_and (get_or unsent k false) (any || test) none)
      ]
    ] in
    due k ∙ ap one_if (same ∙ (ap (λ (n : ℕ). get_or unsent k false && (any || (n == (link_at outbound k).cell))) is ∙ sym (leaves_more outbound unsent queue at k low)))

-- a cell that no edge leaves
pub adds_none : (outbound : List Link) (unsent : List Bool) (queue : List ℕ) (at cell : ℕ) (places : List ℕ) → at < length queue → cell ≡ queued_at queue at → length unsent ≡ length outbound → ((k : ℕ) → k < length outbound → (link_at outbound k).cell ≢ cell) → LinksAreDue outbound unsent (take at queue) places → LinksAreDue outbound unsent (take (at + 1) queue) places
adds_none outbound unsent queue at cell places low is many other due k =
    let any : Bool = list_any (λ c. c == (link_at outbound k).cell) (take at queue) in
    let same : (get_or unsent k false && any) ≡ (get_or unsent k false && (any || (cell == (link_at outbound k).cell))) = elim (cases_lt k (length outbound)) as (λ _. (get_or unsent k false && any) ≡ (get_or unsent k false && (any || (cell == (link_at outbound k).cell)))) [
      | inl inside ↦ ap (λ (o : Bool). get_or unsent k false && o) (sym (or_off any (cell == (link_at outbound k).cell) (test_other cell (link_at outbound k).cell (λ e. other k inside (sym e)))))
      | inr outside ↦
          let none : get_or unsent k false ≡ false = get_or_past unsent k false (omega (arith, outside, many)) in
          off_and (get_or unsent k false) any none ∙ sym (off_and (get_or unsent k false) (any || (cell == (link_at outbound k).cell)) none)
    ] in
    due k ∙ ap one_if (same ∙ (ap (λ (n : ℕ). get_or unsent k false && (any || (n == (link_at outbound k).cell))) is ∙ sym (leaves_more outbound unsent queue at k low)))

one_most : (o : Bool) → one_if o ≤ 1
one_most true = omega arith
one_most false = omega arith

pub some_on : (o : Bool) → 0 < one_if o → o ≡ true
some_on true some = refl
some_on false some = absurd (omega (arith, some))

pub first_on : (a b : Bool) → (a && b) ≡ true → a ≡ true
first_on true b e = refl
first_on false b e = e

-- one that stands in a list of truths is one of them
pub on_within : (xs : List Bool) (k : ℕ) → get_or xs k false ≡ true → k < length xs
on_within xs k on = elim (cases_lt k (length xs)) as (λ _. k < length xs) [
  | inl less ↦ less
  | inr more ↦ absurd (let none : get_or xs k false ≡ false = get_or_past xs k false more in cc (none, on))
]

-- there is room for one more
pub room_for : (outbound : List Link) (unsent : List Bool) (cells : List ℕ) (cell k : ℕ) (places : List ℕ) → length unsent ≡ length outbound → (link_at outbound k).cell ≡ cell → (Contains cells cell → ⊥) → k < length outbound → ArePartly outbound unsent cells cell k places → length places < length outbound
room_for outbound unsent cells cell k places many is out low due =
    let none = not_due outbound unsent cells cell k places is out due in
    let apart : Distinct places = distinct_times places (λ j. (let at = due j in let most = one_most (partly outbound unsent cells cell k j) in omega (arith, at, most))) in
    let few = distinct_few (k ∷ places) (length outbound) ((λ h. (let more = times_on places k h in omega (arith, more, none))), apart) (λ j h. elim (contains_cases k places j h) as (λ _. j < length outbound) [
      | inl same ↦ omega (arith, same, low)
      | inr on ↦
          let some = times_on places j on in
          let at = due j in
          let yes : partly outbound unsent cells cell k j ≡ true = some_on (partly outbound unsent cells cell k j) (omega (arith, some, at)) in
          let within = on_within unsent j (first_on (get_or unsent j false) (list_any (λ c. c == (link_at outbound j).cell) cells || (nat_lt j k && (cell == (link_at outbound j).cell))) yes) in
          omega (arith, within, many)
    ]) in
    omega (arith, few)

-- a cell of the queue does not stand before itself
pub not_before_it : (queue : List ℕ) (at cell : ℕ) → Distinct queue → at < length queue → cell ≡ queued_at queue at → Contains (take at queue) cell → ⊥
not_before_it queue at cell apart low is h = not_before queue at apart low (subst (λ (n : ℕ). Contains (take at queue) n) is h)
