-- What is folded over rows and columns.
use Rattle.std.proofs.Common.{◌≡◌, ℕ, zero, suc, ◌+◌, ◌*◌, ◌<◌, refl, sym, ap, ◌∙◌, arith, add-one}
use Rattle.std.specs.Prelude.{map, fold}
use Rattle.std.specs.List.{range_with_len}
use Rattle.std.proofs.lemmas.List.FromFn.{map-range_with_len_more}
use Rattle.std.proofs.lemmas.List.Sums.{fold_push}
use Rattle.window_ops.specs.inside.Outcomes.{over}

-- an operation without order, with a value that changes nothing
pub record IsUnordered (A : Type 0) (op : A → A → A) (none : A) : Type 0 where
  pub group : (a b c : A) → op (op a b) c ≡ op a (op b c)
  pub turn : (a b : A) → op a b ≡ op b a
  pub none_left : (a : A) → op none a ≡ a

-- one more value
pub over-more : {A : Type 0} (op : A → A → A) (none : A) (f : ℕ → A) (a n : ℕ) → over op none f a (n + 1) ≡ op (over op none f a n) (f (a + n))
over-more op none f a n = rw (add-one n) refl

-- values that are equal place by place
pub over-same : {A : Type 0} (op : A → A → A) (none : A) (f g : ℕ → A) (a b n : ℕ) → ((i : ℕ) → i < n → f (a + i) ≡ g (b + i)) → over op none f a n ≡ over op none g b n
over-same op none f g a b zero same = refl
over-same {A} op none f g a b (suc n) same =
    ap (λ (x : A). op x (f (a + n))) (over-same op none f g a b n (λ i below. same i (omega arith)))
    ∙ ap (op (over op none g b n)) (same n (omega arith))

-- values in two parts
pub over-parts : {A : Type 0} (op : A → A → A) (none : A) → IsUnordered A op none → (f : ℕ → A) (a n m : ℕ) → over op none f a (n + m) ≡ op (over op none f a n) (over op none f (a + n) m)
over-parts {A} op none laws f a n zero =
    ap (over op none f a) (omega arith) ∙ (sym (laws.none_left (over op none f a n)) ∙ laws.turn none (over op none f a n))
over-parts {A} op none laws f a n (suc m) =
    let count : n + suc m ≡ suc (n + m) = omega arith in
    let place : a + (n + m) ≡ a + n + m = omega arith in
    ap (over op none f a) count
    ∙ (ap (λ (x : A). op x (f (a + (n + m)))) (over-parts op none laws f a n m)
    ∙ (ap (λ (k : ℕ). op (op (over op none f a n) (over op none f (a + n) m)) (f k)) place
    ∙ laws.group (over op none f a n) (over op none f (a + n) m) (f (a + n + m))))

-- nothing but nothings
over-nothing : {A : Type 0} (op : A → A → A) (none : A) → IsUnordered A op none → (a n : ℕ) → over op none (λ i. none) a n ≡ none
over-nothing op none laws a zero = refl
over-nothing op none laws a (suc n) = laws.turn (over op none (λ i. none) a n) none ∙ (laws.none_left (over op none (λ i. none) a n) ∙ over-nothing op none laws a n)

-- four values, two by two
four : {A : Type 0} (op : A → A → A) (none : A) → IsUnordered A op none → (a b c d : A) → op (op a b) (op c d) ≡ op (op a c) (op b d)
four {A} op none laws a b c d =
    laws.group a b (op c d)
    ∙ (ap (op a) (sym (laws.group b c d) ∙ (ap (λ (x : A). op x d) (laws.turn b c) ∙ laws.group c b d))
    ∙ sym (laws.group a c (op b d)))

-- values in pairs
over-pairs : {A : Type 0} (op : A → A → A) (none : A) → IsUnordered A op none → (f g : ℕ → A) (a n : ℕ) → over op none (λ i. op (f i) (g i)) a n ≡ op (over op none f a n) (over op none g a n)
over-pairs op none laws f g a zero = sym (laws.none_left none)
over-pairs {A} op none laws f g a (suc n) =
    ap (λ (x : A). op x (op (f (a + n)) (g (a + n)))) (over-pairs op none laws f g a n)
    ∙ four op none laws (over op none f a n) (over op none g a n) (f (a + n)) (g (a + n))

-- rows of columns are columns of rows
pub over-turned : {A : Type 0} (op : A → A → A) (none : A) → IsUnordered A op none → (f : ℕ → ℕ → A) (a n b m : ℕ) → over op none (λ r. over op none (f r) b m) a n ≡ over op none (λ c. over op none (λ r. f r c) a n) b m
over-turned op none laws f a zero b m = sym (over-nothing op none laws b m)
over-turned {A} op none laws f a (suc n) b m =
    ap (λ (x : A). op x (over op none (f (a + n)) b m)) (over-turned op none laws f a n b m)
    ∙ sym (over-pairs op none laws (λ c. over op none (λ r. f r c) a n) (f (a + n)) b m)

-- rows of one length, one behind another
pub over-rows : {A : Type 0} (op : A → A → A) (none : A) → IsUnordered A op none → (f : ℕ → A) (n m : ℕ) → over op none f 0 (n * m) ≡ over op none (λ r. over op none (λ c. f (r * m + c)) 0 m) 0 n
over-rows op none laws f zero m = ap (over op none f 0) (let e : zero * m ≡ zero = omega arith in e)
over-rows {A} op none laws f (suc n) m =
    let count : suc n * m ≡ n * m + m = omega arith in
    ap (over op none f 0) count
    ∙ (over-parts op none laws f 0 (n * m) m
    ∙ (ap (λ (x : A). op x (over op none f (0 + n * m) m)) (over-rows op none laws f n m)
    ∙ ap (op (over op none (λ r. over op none (λ c. f (r * m + c)) 0 m) 0 n))
    (over-same op none f (λ c. f ((0 + n) * m + c)) (0 + n * m) 0 m (λ i below. ap f (omega arith)))))

-- a list of values, one by one
pub over-list : {A : Type 0} (op : A → A → A) (none : A) (f : ℕ → A) (a n : ℕ) → fold op none (map f (range_with_len a n)) ≡ over op none f a n
over-list op none f a zero = refl
over-list {A} op none f a (suc n) =
    ap (λ (k : ℕ). fold op none (map f (range_with_len a k))) (sym (add-one n))
    ∙ (ap (fold op none) (map-range_with_len_more f a n (a + n) refl)
    ∙ (fold_push op none (map f (range_with_len a n)) (f (a + n))
    ∙ ap (λ (x : A). op x (f (a + n))) (over-list op none f a n)))

-- the first value and those behind it
pub over-first : {A : Type 0} (op : A → A → A) (none : A) → IsUnordered A op none → (f : ℕ → A) (a n : ℕ) → over op none f a (1 + n) ≡ op (f a) (over op none f (a + 1) n)
over-first {A} op none laws f a n =
    over-parts op none laws f a 1 n
    ∙ ap (λ (x : A). op x (over op none f (a + 1) n)) (laws.none_left (f (a + 0)) ∙ ap f (let e : a + 0 ≡ a = omega arith in e))
