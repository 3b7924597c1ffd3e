-- The section `initial`, evaluated stage by stage.
use Rattle.std.proofs.Common.{◌≡◌, ℕ, zero, suc, ◌+◌, ◌-◌, ◌≤◌, List, [], ◌∷◌, ◌++◌, length, take, drop, refl, sym, ap, subst, ◌∙◌, Ok, Err, Result, arith, append-nil, append_assoc, length-append}
use Rattle.std.specs.Prelude.{⊤}
use Rattle.text_base.specs.Results.{◌>>=◌}
use Rattle.map_meaning.specs.declared.known.OverAt.{OverAt}
use Rattle.map_meaning.specs.declared.known.Span.{Span}
use Rattle.map_meaning.specs.declared.known.Span.TheVariants as span
use Rattle.map_meaning.specs.declared.program.DrainUse.{DrainUse}
use Rattle.map_meaning.specs.declared.program.Operation.{Operation}
use Rattle.map_meaning.specs.declared.program.Program.{Program}
use Rattle.map_meaning.specs.Evaluation.{Done, drain_codes, operation_value, operation_values, staged_values, with_drain, with_map}
use Rattle.map_meaning.specs.Maps.{WholeMap}
use Rattle.map_meaning.specs.Scenes.{Scene}

-- ---- lists

pub take_none : (A : Type 0) (k : ℕ) → take {A = A} k [] ≡ []
take_none A zero = refl
take_none A (suc k) = refl

pub drop_none : (A : Type 0) (k : ℕ) → drop {A = A} k [] ≡ []
drop_none A zero = refl
drop_none A (suc k) = refl

pub take_take : {A : Type 0} (m n : ℕ) (xs : List A) → m ≤ n → take m (take n xs) ≡ take m xs
take_take zero n xs le = refl
take_take (suc m) zero xs le = absurd (omega (arith, le))
take_take (suc m) (suc n) [] le = refl
take_take (suc m) (suc n) (x ∷ xs) le = ap (λ ys. x ∷ ys) (take_take m n xs (omega (arith, le)))

pub drop_take : {A : Type 0} (m n : ℕ) (xs : List A) → m ≤ n → drop m (take n xs) ≡ take (n - m) (drop m xs)
drop_take zero n xs le = let e : n ≡ n - 0 = omega arith in ap (λ k. take k xs) e
drop_take (suc m) zero xs le = absurd (omega (arith, le))
drop_take {A} (suc m) (suc n) [] le = sym (take_none A (suc n - suc m))
drop_take (suc m) (suc n) (x ∷ xs) le = let e : n - m ≡ suc n - suc m = omega arith in drop_take m n xs (omega (arith, le)) ∙ ap (λ k. take k (drop m xs)) e

pub drop_drop : {A : Type 0} (m n : ℕ) (xs : List A) → drop m (drop n xs) ≡ drop (n + m) xs
drop_drop m zero xs = let e : m ≡ 0 + m = omega arith in ap (λ k. drop k xs) e
drop_drop {A} m (suc n) [] = drop_none A m ∙ sym (drop_none A (suc n + m))
drop_drop m (suc n) (x ∷ xs) = let e : suc (n + m) ≡ suc n + m = omega arith in drop_drop m n xs ∙ ap (λ k. drop k (x ∷ xs)) e

pub length_take_of : {A : Type 0} (m : ℕ) (xs : List A) → m ≤ length xs → length (take m xs) ≡ m
length_take_of zero xs le = refl
length_take_of (suc m) [] le = absurd (omega (arith, le))
length_take_of (suc m) (x ∷ xs) le = ap suc (length_take_of m xs (omega (arith, le)))

-- the first of these drain maps stands behind so many operations
abbrev pub StandsBehind : ℕ → List DrainUse → Type 0
StandsBehind n [] = ⊤
StandsBehind n (d ∷ ds) = n ≤ d.after

-- ---- what is done stays

-- one has all that another has, and more behind it
pub record Extends (x y : Done) : Type 0 where
  pub initial : (more : List WholeMap) × (y.initial ≡ x.initial ++ more)
  pub drains : (more : List WholeMap) × (y.drains ≡ x.drains ++ more)

extends_same : (x : Done) → Extends x x
extends_same x = record { initial = ([], sym (append-nil x.initial)); drains = ([], sym (append-nil x.drains)) }

extends_on : (x y z : Done) → Extends x y → Extends y z → Extends x z
extends_on x y z a b = record {
  initial = (a.initial.0 ++ b.initial.0, b.initial.1 ∙ (ap (λ ms. ms ++ b.initial.0) a.initial.1 ∙ append_assoc x.initial a.initial.0 b.initial.0));
  drains = (a.drains.0 ++ b.drains.0, b.drains.1 ∙ (ap (λ ms. ms ++ b.drains.0) a.drains.1 ∙ append_assoc x.drains a.drains.0 b.drains.0));
}

module _ (program : Program) (scene : Scene) (f e : ℕ) where
  abbrev s : Span
  s = span.Initial f e

  -- operations keep what is done, and add a map each
  pub values_extend : (x y : Done) (operations : List Operation) → operation_values program scene s x operations ≡ Ok y → Extends x y × (length y.initial ≡ length x.initial + length operations) × (y.drains ≡ x.drains)
  values_extend x y [] is = let same : x ≡ y = cc in (subst (Extends x) same (extends_same x), ap (λ (d : Done). length d.initial) (sym same) ∙ omega arith, ap (λ (d : Done). d.drains) (sym same))
  values_extend x y (o ∷ more) is = by (operation_value program scene x o) is (λ m. values_extend (with_map s x m) y more)
    where
      by : (r : Result WholeMap OverAt) → (r >>= λ m. operation_values program scene s (with_map s x m) more) ≡ Ok y →
          ((m : WholeMap) → operation_values program scene s (with_map s x m) more ≡ Ok y → Extends (with_map s x m) y × (length y.initial ≡ length (with_map s x m).initial + length more) × (y.drains ≡ x.drains)) →
          Extends x y × (length y.initial ≡ length x.initial + length (o ∷ more)) × (y.drains ≡ x.drains)
      by (Err at) is later = absurd (cc)
      by (Ok m) is later =
          let rest = later m is in
          let one : Extends x (with_map s x m) = record { initial = (m ∷ [], refl); drains = ([], sym (append-nil x.drains)) } in
          (extends_on x (with_map s x m) y one rest.0, (let c = rest.1 in omega (arith, c, length-append x.initial (m ∷ []))), rest.2)

  -- operations are evaluated one part after another
  pub values_split : (m : ℕ) (x : Done) (operations : List Operation) →
      operation_values program scene s x operations ≡ (operation_values program scene s x (take m operations) >>= λ y. operation_values program scene s y (drop m operations))
  values_split zero x operations = refl
  values_split (suc m) x [] = refl
  values_split (suc m) x (o ∷ more) = by (operation_value program scene x o) (λ c. values_split m (with_map s x c) more)
    where
      by : (r : Result WholeMap OverAt) → ((c : WholeMap) → operation_values program scene s (with_map s x c) more ≡ (operation_values program scene s (with_map s x c) (take m more) >>= λ y. operation_values program scene s y (drop m more))) →
          (r >>= λ c. operation_values program scene s (with_map s x c) more) ≡ ((r >>= λ c. operation_values program scene s (with_map s x c) (take m more)) >>= λ y. operation_values program scene s y (drop m more))
      by (Ok c) later = later c
      by (Err at) later = refl

  -- all that stages evaluate stays
  pub staged_extend : (x y : Done) (drains : List DrainUse) (operations : List Operation) → staged_values program scene s x drains operations ≡ Ok y → Extends x y
  staged_extend x y [] operations is = (values_extend x y operations is).0
  staged_extend x y (d ∷ ds) operations is =
      let before = d.after - length x.initial in
      by (operation_values program scene s x (take before operations)) refl is
      (λ z. staged_extend (with_drain z (drain_codes scene z d.from)) y ds (drop before operations))
    where
      by : (r : Result Done OverAt) → operation_values program scene s x (take (d.after - length x.initial) operations) ≡ r →
          (r >>= λ z. staged_values program scene s (with_drain z (drain_codes scene z d.from)) ds (drop (d.after - length x.initial) operations)) ≡ Ok y →
          ((z : Done) → staged_values program scene s (with_drain z (drain_codes scene z d.from)) ds (drop (d.after - length x.initial) operations) ≡ Ok y → Extends (with_drain z (drain_codes scene z d.from)) y) → Extends x y
      by (Err at) value is later = absurd (cc)
      by (Ok z) value is later =
          let codes = drain_codes scene z d.from in
          let one : Extends z (with_drain z codes) = record { initial = ([], sym (append-nil z.initial)); drains = (codes ∷ [], refl) } in
          extends_on x z y (values_extend x z (take (d.after - length x.initial) operations) value).0 (extends_on z (with_drain z codes) y one (later z is))

  -- ---- stages

  -- a stage is evaluated, and the rest goes on
  pub staged_on : (x y : Done) (m : ℕ) (drains : List DrainUse) (operations : List Operation) → StandsBehind (length x.initial + m) drains → m ≤ length operations →
      operation_values program scene s x (take m operations) ≡ Ok y → staged_values program scene s x drains operations ≡ staged_values program scene s y drains (drop m operations)
  staged_on x y m [] operations behind le is = values_split m x operations ∙ ap (λ r. r >>= λ y. operation_values program scene s y (drop m operations)) is
  staged_on x y m (d ∷ ds) operations behind le is =
      let before = d.after - length x.initial in
      let rest = d.after - length y.initial in
      let more : m ≤ before = omega (arith, behind) in
      let count : length y.initial ≡ length x.initial + m = (values_extend x y (take m operations) is).1 ∙ ap (λ k. length x.initial + k) (length_take_of m operations le) in
      let less : before - m ≡ rest = omega (arith, count) in
      let parts : operation_values program scene s x (take before operations) ≡ operation_values program scene s y (take rest (drop m operations)) =
      values_split m x (take before operations) ∙
      (ap (λ ops. operation_values program scene s x ops >>= λ z. operation_values program scene s z (drop m (take before operations))) (take_take m before operations more) ∙
      (ap (λ r. r >>= λ z. operation_values program scene s z (drop m (take before operations))) is ∙
      (ap (operation_values program scene s y) (drop_take m before operations more) ∙ ap (λ k. operation_values program scene s y (take k (drop m operations))) less))) in
      let left : drop before operations ≡ drop rest (drop m operations) =
      (let e : before ≡ m + rest = omega (arith, count, more) in ap (λ k. drop k operations) e ∙ sym (drop_drop rest m operations)) in
      let go : Result Done OverAt → List Operation → Result Done OverAt = λ r ops. r >>= λ z. staged_values program scene s (with_drain z (drain_codes scene z d.from)) ds ops in
      ap (λ r. go r (drop before operations)) parts ∙ ap (go (operation_values program scene s y (take rest (drop m operations)))) left

  -- an Over in a stage is the first one
  pub staged_over : (x : Done) (m : ℕ) (at : OverAt) (drains : List DrainUse) (operations : List Operation) → StandsBehind (length x.initial + m) drains →
      operation_values program scene s x (take m operations) ≡ Err at → staged_values program scene s x drains operations ≡ Err at
  staged_over x m at [] operations behind is = values_split m x operations ∙ ap (λ r. r >>= λ y. operation_values program scene s y (drop m operations)) is
  staged_over x m at (d ∷ ds) operations behind is =
      let before = d.after - length x.initial in
      let more : m ≤ before = omega (arith, behind) in
      let parts : operation_values program scene s x (take before operations) ≡ Err at =
      values_split m x (take before operations) ∙
      (ap (λ ops. operation_values program scene s x ops >>= λ z. operation_values program scene s z (drop m (take before operations))) (take_take m before operations more) ∙
      ap (λ r. r >>= λ z. operation_values program scene s z (drop m (take before operations))) is) in
      ap (λ r. r >>= λ z. staged_values program scene s (with_drain z (drain_codes scene z d.from)) ds (drop before operations)) parts

  -- a drain map that is due is computed
  pub staged_drain : (x : Done) (d : DrainUse) (drains : List DrainUse) (operations : List Operation) → d.after ≤ length x.initial →
      staged_values program scene s x (d ∷ drains) operations ≡ staged_values program scene s (with_drain x (drain_codes scene x d.from)) drains operations
  staged_drain x d drains operations due =
      let none : d.after - length x.initial ≡ 0 = omega (arith, due) in
      ap (λ k. operation_values program scene s x (take k operations) >>= λ z. staged_values program scene s (with_drain z (drain_codes scene z d.from)) drains (drop k operations)) none

-- operations of `initial` give the same in each of its spans
pub span_same : (program : Program) (scene : Scene) (a b c d : ℕ) (x : Done) (operations : List Operation) → operation_values program scene (span.Initial a b) x operations ≡ operation_values program scene (span.Initial c d) x operations
span_same program scene a b c d x [] = refl
span_same program scene a b c d x (o ∷ more) = by (operation_value program scene x o) (λ m. span_same program scene a b c d (with_map (span.Initial a b) x m) more)
  where
    by : (r : Result WholeMap OverAt) → ((m : WholeMap) → operation_values program scene (span.Initial a b) (with_map (span.Initial a b) x m) more ≡ operation_values program scene (span.Initial c d) (with_map (span.Initial a b) x m) more) →
        (r >>= λ m. operation_values program scene (span.Initial a b) (with_map (span.Initial a b) x m) more) ≡ (r >>= λ m. operation_values program scene (span.Initial c d) (with_map (span.Initial c d) x m) more)
    by (Ok m) later = later m
    by (Err at) later = refl
