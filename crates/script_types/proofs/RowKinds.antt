-- The kinds that a plain row gives and allows, where its operands agree in a kind.
use Rattle.std.proofs.Common.{◌≡◌, ◌<◌, ℕ, zero, suc, ◌+◌, ◌-◌, Bool, true, false, not, ◌&&◌, ◌||◌, List, [], ◌∷◌, length, refl, sym, ap, subst, ◌∙◌, if◌then◌else◌, arith}
use Rattle.std.specs.Prelude.{◌==◌, nat_le, nat_lt}
use Rattle.cell_values.specs.declared.kind.Kind.{Kind}
use Rattle.cell_values.specs.declared.kind.Kind.TheVariants.{Boolean, Nominal, Ordinal, Scalar, Directional, Ldd}
use Rattle.map_meaning.specs.declared.op.Op.{Op}
use Rattle.map_meaning.specs.declared.row.Row.{Row}
use Rattle.map_meaning.specs.declared.row.Kinds.{Kinds}
use Rattle.map_meaning.specs.declared.row.Ask.{Ask}
use Rattle.map_meaning.specs.declared.row.Ask.TheVariants as ask
use Rattle.map_meaning.specs.declared.row.Given.{Given}
use Rattle.map_meaning.specs.declared.row.Given.TheVariants as given
use Rattle.map_meaning.specs.declared.row.Meant.TheVariants as meant
use Rattle.map_meaning.specs.declared.table.TheConstants.{MANY_OPERANDS}
use Rattle.map_meaning.specs.Laws.{IsItsRow}
use Rattle.map_meaning.specs.Rules.{kind_at}
use Rattle.map_meaning.specs.Table.{allows, ask_at, before_length, behind_file, common_kind, first_alike, given_kind, has_count, has_kind, is_alike, is_kind, row_of, takes}
use Rattle.map_meaning.proofs.Callers.{same_kind}
use Rattle.script_types.specs.inside.Sound.{are_allowed, has_kinds}
use Rattle.script_types.proofs.FitLemmas.{both-left, both-right}
use Rattle.script_types.proofs.FoundRows.{IsPlain, agrees-with, alike-in, gives-alone, gives-map, has-alike, is-common, same-kinds, same-test, takes-few, takes-just}
use Rattle.script_types.proofs.SoundLemmas.{allowed-at}

-- a kind is itself
pub kind-itself : (k : Kind) → is_kind k k ≡ true
kind-itself Boolean = refl
kind-itself Nominal = refl
kind-itself Ordinal = refl
kind-itself Scalar = refl
kind-itself Directional = refl
kind-itself Ldd = refl

-- both hold
pub both-are : (a b : Bool) → a ≡ true → b ≡ true → (a && b) ≡ true
both-are true b ha hb = hb
both-are false b ha hb = cc

-- ---- the operation of a row

-- the row of the operation that a row of the table stands for is that row
pub its-row : (row : Row) (o : Op) → IsItsRow row → row.meant ≡ meant.Op o → row_of o ≡ row
its-row row o h e = h o e

-- ---- where operands agree

-- the place asks to agree in one of some kinds, and this is one
abbrev pub is-alike-of : Ask → Kind → Bool
is-alike-of (ask.Alike kinds) k = has_kind kinds k
is-alike-of _ k = false

-- where the place asks to agree in one of some kinds, this is one
abbrev pub alike-has : Ask → Kind → Bool
alike-has (ask.Alike kinds) k = has_kind kinds k
alike-has _ k = true

test-moves : (a b : Bool) → same-test a b ≡ true → a ≡ true → b ≡ true
test-moves true b h ha = h
test-moves false b h ha = cc

has-same : (a b : Kinds) (k : Kind) → same-kinds a b ≡ true → has_kind a k ≡ true → has_kind b k ≡ true
has-same a b k h ha =
    let t1 = same-test a.boolean b.boolean in let t2 = same-test a.nominal b.nominal in let t3 = same-test a.ordinal b.ordinal in
    let t4 = same-test a.scalar b.scalar in let t5 = same-test a.directional b.directional in let t6 = same-test a.ldd b.ldd in
    let h5 = both-left (t1 && t2 && t3 && t4 && t5) t6 h in
    let h4 = both-left (t1 && t2 && t3 && t4) t5 h5 in
    let h3 = both-left (t1 && t2 && t3) t4 h4 in
    let h2 = both-left (t1 && t2) t3 h3 in
    by-kind k (both-left t1 t2 h2) (both-right t1 t2 h2) (both-right (t1 && t2) t3 h3) (both-right (t1 && t2 && t3) t4 h4) (both-right (t1 && t2 && t3 && t4) t5 h5) (both-right (t1 && t2 && t3 && t4 && t5) t6 h) ha
  where
    by-kind : (k : Kind) → same-test a.boolean b.boolean ≡ true → same-test a.nominal b.nominal ≡ true → same-test a.ordinal b.ordinal ≡ true → same-test a.scalar b.scalar ≡ true → same-test a.directional b.directional ≡ true → same-test a.ldd b.ldd ≡ true → has_kind a k ≡ true → has_kind b k ≡ true
    by-kind Boolean q1 q2 q3 q4 q5 q6 g = test-moves a.boolean b.boolean q1 g
    by-kind Nominal q1 q2 q3 q4 q5 q6 g = test-moves a.nominal b.nominal q2 g
    by-kind Ordinal q1 q2 q3 q4 q5 q6 g = test-moves a.ordinal b.ordinal q3 g
    by-kind Scalar q1 q2 q3 q4 q5 q6 g = test-moves a.scalar b.scalar q4 g
    by-kind Directional q1 q2 q3 q4 q5 q6 g = test-moves a.directional b.directional q5 g
    by-kind Ldd q1 q2 q3 q4 q5 q6 g = test-moves a.ldd b.ldd q6 g

in-alike : (kinds : Kinds) (asked : Ask) (k : Kind) → alike-in kinds asked ≡ true → has_kind kinds k ≡ true → alike-has asked k ≡ true
in-alike kinds (ask.Only j) k h g = refl
in-alike kinds (ask.One others) k h g = refl
in-alike kinds (ask.Alike others) k h g = has-same kinds others k h g
in-alike kinds (ask.Table j) k h g = refl
in-alike kinds (ask.Series j) k h g = refl
in-alike kinds ask.Stack k h g = refl
in-alike kinds ask.Length k h g = refl

-- what one place that asks to agree has, all have
pub agreed-everywhere : (row : Row) (asked : Ask) (k : Kind) (i : ℕ) → agrees-with asked row ≡ true → is-alike-of asked k ≡ true → alike-has (ask_at row i) k ≡ true
agreed-everywhere row (ask.Only j) k i h g = cc
agreed-everywhere row (ask.One others) k i h g = cc
agreed-everywhere row (ask.Table j) k i h g = cc
agreed-everywhere row (ask.Series j) k i h g = cc
agreed-everywhere row ask.Stack k i h g = cc
agreed-everywhere row ask.Length k i h g = cc
agreed-everywhere row (ask.Alike kinds) k i h g =
    let two = both-left (alike-in kinds row.first && alike-in kinds row.second) (alike-in kinds row.further) h in
    by-place (i == 0) (i == 1) (in-alike kinds row.first k (both-left (alike-in kinds row.first) (alike-in kinds row.second) two) g) (in-alike kinds row.second k (both-right (alike-in kinds row.first) (alike-in kinds row.second) two) g) (in-alike kinds row.further k (both-right (alike-in kinds row.first && alike-in kinds row.second) (alike-in kinds row.further) h) g)
  where
    by-place : (s t : Bool) → alike-has row.first k ≡ true → alike-has row.second k ≡ true → alike-has row.further k ≡ true → alike-has (if s then row.first else if t then row.second else row.further) k ≡ true
    by-place true t a b c = a
    by-place false true a b c = b
    by-place false false a b c = c

-- a place that asks to agree allows what is agreed, where it has it
pub alike-allows : (asked : Ask) (agreed : Kind) → is_alike asked ≡ true → alike-has asked agreed ≡ true → allows agreed asked agreed ≡ true
alike-allows (ask.Alike kinds) agreed ha h = both-are (has_kind kinds agreed) (is_kind agreed agreed) h (kind-itself agreed)
alike-allows (ask.Only j) agreed ha h = cc
alike-allows (ask.One others) agreed ha h = cc
alike-allows (ask.Table j) agreed ha h = cc
alike-allows (ask.Series j) agreed ha h = cc
alike-allows ask.Stack agreed ha h = cc
alike-allows ask.Length agreed ha h = cc

-- what is allowed where operands agree is what they agree in
pub allowed-alike : (asked : Ask) (agreed k : Kind) → is_alike asked ≡ true → allows agreed asked k ≡ true → agreed ≡ k
allowed-alike (ask.Alike kinds) agreed k ha h = same_kind agreed k (both-right (has_kind kinds k) (is_kind agreed k) h)
allowed-alike (ask.Only j) agreed k ha h = cc
allowed-alike (ask.One others) agreed k ha h = cc
allowed-alike (ask.Table j) agreed k ha h = cc
allowed-alike (ask.Series j) agreed k ha h = cc
allowed-alike ask.Stack agreed k ha h = cc
allowed-alike ask.Length agreed k ha h = cc

-- ---- behind a table or a series

-- what the places behind the first operand are asked
pub ask-behind : (row : Row) (i : ℕ) → ask_at row (i + 1) ≡ ask_at (behind_file row) i
ask-behind row zero = refl
ask-behind row (suc zero) = refl
ask-behind row (suc (suc i)) =
    let a : (suc (suc i) + 1 == 0) ≡ false = no-equal (suc (suc i) + 1) 0 (λ e. omega (arith, e)) in
    let b : (suc (suc i) + 1 == 1) ≡ false = no-equal (suc (suc i) + 1) 1 (λ e. omega (arith, e)) in
    let c : (suc (suc i) == 0) ≡ false = no-equal (suc (suc i)) 0 (λ e. omega (arith, e)) in
    let d : (suc (suc i) == 1) ≡ false = no-equal (suc (suc i)) 1 (λ e. omega (arith, e)) in
    by-tests (suc (suc i) + 1 == 0) (suc (suc i) + 1 == 1) (suc (suc i) == 0) (suc (suc i) == 1) a b c d
  where
    no-equal : (m n : ℕ) → (m ≡ n → ⊥) → (m == n) ≡ false
    no-equal m n h = grind (arith, h)

    by-tests : (p q s t : Bool) → p ≡ false → q ≡ false → s ≡ false → t ≡ false → (if p then row.first else if q then row.second else row.further) ≡ (if s then row.second else if t then row.further else row.further)
    by-tests false false false false a b c d = refl
    by-tests true q s t a b c d = cc
    by-tests false true s t a b c d = cc
    by-tests false false true t a b c d = cc
    by-tests false false false true a b c d = cc

-- a row that looks its results up takes one operand more than what it asks behind the table or the series
pub takes-behind : (row : Row) (n : ℕ) → nat_le 2 row.least ≡ true → takes row (suc n) ≡ true → takes (behind_file row) n ≡ true
takes-behind row n hl h = by-numbers row.least row.most n hl h
  where
    by-numbers : (least most n : ℕ) → nat_le 2 least ≡ true → (nat_le least (suc n) && nat_le (suc n) most) ≡ true → (nat_le (least - 1) n && nat_le n (most - 1)) ≡ true
    by-numbers least most n g k =
        let a = both-left (nat_le least (suc n)) (nat_le (suc n) most) k in
        let b = both-right (nat_le least (suc n)) (nat_le (suc n) most) k in
        both-are (nat_le (least - 1) n) (nat_le n (most - 1)) (grind (arith, a)) (grind (arith, b))

-- ---- the common kind

-- no place asks to agree
not-alike : (row : Row) (i : ℕ) → is_alike (ask_at row (first_alike row)) ≡ false → is_alike (ask_at row i) ≡ false
not-alike row i h = by-first (is_alike row.first) (is_alike row.second) (i == 0) (i == 1) refl refl h
  where
    by-first : (p q s t : Bool) → is_alike row.first ≡ p → is_alike row.second ≡ q → is_alike (ask_at row (if p then 0 else if q then 1 else 2)) ≡ false → is_alike (if s then row.first else if t then row.second else row.further) ≡ false
    by-first true q s t hp hq g = absurd (let e = sym hp ∙ g in true-false e)
      where
        true-false : true ≡ false → ⊥
        true-false z = grind (arith, z)
    by-first false true s t hp hq g = absurd (let e = sym hq ∙ g in true-false e)
      where
        true-false : true ≡ false → ⊥
        true-false z = grind (arith, z)
    by-first false false true t hp hq g = hp
    by-first false false false true hp hq g = hq
    by-first false false false false hp hq g = g

-- a place that does not ask to agree allows the same whatever is agreed
same-allowed : (asked : Ask) (a b k : Kind) → is_alike asked ≡ false → allows a asked k ≡ allows b asked k
same-allowed (ask.Alike kinds) a b k h = cc
same-allowed (ask.Only j) a b k h = refl
same-allowed (ask.One others) a b k h = refl
same-allowed (ask.Table j) a b k h = refl
same-allowed (ask.Series j) a b k h = refl
same-allowed ask.Stack a b k h = refl
same-allowed ask.Length a b k h = refl

same-all : (row : Row) (a b : Kind) (i : ℕ) (ks : List Kind) → is_alike (ask_at row (first_alike row)) ≡ false → are_allowed row a i ks ≡ are_allowed row b i ks
same-all row a b i [] h = refl
same-all row a b i (k ∷ ks) h = ap (λ t. t && are_allowed row a (i + 1) ks) (same-allowed (ask_at row i) a b k (not-alike row i h)) ∙ ap (λ t. allows b (ask_at row i) k && t) (same-all row a b (i + 1) ks h)

same-given : (row : Row) (gives : Given) (a b : Kind) (ks : List Kind) → is_alike (ask_at row (first_alike row)) ≡ false → gives-map row gives ≡ true → given_kind gives a ks ≡ given_kind gives b ks
same-given row (given.Always k) a b ks h hg = refl
same-given row given.Common a b ks h hg = let z = sym h ∙ hg in cc
same-given row (given.Same i) a b ks h hg = refl

least-below : (row : Row) (n : ℕ) → is_alike (ask_at row (first_alike row)) ≡ true → has-alike row ≡ true → takes row n ≡ true → first_alike row < n
least-below row n ha h ht = by-test (is_alike (ask_at row (first_alike row))) (nat_lt (first_alike row) row.least) refl ha h
  where
    count : (least most at n : ℕ) → nat_lt at least ≡ true → (nat_le least n && nat_le n most) ≡ true → at < n
    count least most at n g k = let m = both-left (nat_le least n) (nat_le n most) k in grind (arith, m, g)

    by-test : (p q : Bool) → nat_lt (first_alike row) row.least ≡ q → p ≡ true → (not p || q) ≡ true → first_alike row < n
    by-test true true e hp g = count row.least row.most (first_alike row) n e ht
    by-test true false e hp g = cc
    by-test false q e hp g = cc

-- the test of a row, where its operands' kinds are allowed with what they agree in
pub row-has-kinds : (row : Row) (agreed : Kind) (ks : List Kind) → IsPlain (length ks) row → nat_lt row.most MANY_OPERANDS ≡ true → are_allowed row agreed 0 ks ≡ true → has_kinds row ks (given_kind row.gives agreed ks) ≡ true
row-has-kinds row agreed ks hf hm h =
    both-are (has_count row (length ks)) (are_allowed row (common_kind row ks) 0 ks && is_kind (given_kind row.gives (common_kind row ks) ks) (given_kind row.gives agreed ks)) (ap (λ b. if b then takes row (length ks) else (length ks == row.least)) hm ∙ hf.takes)
    (by-alike (is_alike (ask_at row (first_alike row))) refl)
  where
    by-alike : (b : Bool) → is_alike (ask_at row (first_alike row)) ≡ b → (are_allowed row (common_kind row ks) 0 ks && is_kind (given_kind row.gives (common_kind row ks) ks) (given_kind row.gives agreed ks)) ≡ true
    by-alike true e =
        let at = first_alike row in
        let same : agreed ≡ kind_at ks at = allowed-alike (ask_at row at) agreed (kind_at ks at) e (let z : at ≡ 0 + at = omega arith in ap (λ j. allows agreed (ask_at row j) (kind_at ks at)) z ∙ allowed-at row agreed 0 ks at h (least-below row (length ks) e hf.alike hf.takes)) in
        subst (λ c. (are_allowed row c 0 ks && is_kind (given_kind row.gives c ks) (given_kind row.gives agreed ks)) ≡ true) same (both-are (are_allowed row agreed 0 ks) (is_kind (given_kind row.gives agreed ks) (given_kind row.gives agreed ks)) h (kind-itself (given_kind row.gives agreed ks)))
    by-alike false e =
        both-are (are_allowed row (common_kind row ks) 0 ks) (is_kind (given_kind row.gives (common_kind row ks) ks) (given_kind row.gives agreed ks)) (same-all row (common_kind row ks) agreed 0 ks e ∙ h)
        (ap (λ k. is_kind k (given_kind row.gives agreed ks)) (same-given row row.gives (common_kind row ks) agreed ks e hf.gives) ∙ kind-itself (given_kind row.gives agreed ks))

-- ---- windows

window-count : (least most : ℕ) → ((least == 2) && (most == 2)) ≡ true → (if nat_lt (most - 1) MANY_OPERANDS then (nat_le (least - 1) 1 && nat_le 1 (most - 1)) else (1 == least - 1)) ≡ true
window-count least most h =
    let a = both-left (least == 2) (most == 2) h in
    let b = both-right (least == 2) (most == 2) h in
    let l : least ≡ 2 = grind (arith, a) in
    let m : most ≡ 2 = grind (arith, b) in
    ap (λ n. if nat_lt (n - 1) MANY_OPERANDS then (nat_le (least - 1) 1 && nat_le 1 (n - 1)) else (1 == least - 1)) m ∙ ap (λ n. nat_le (n - 1) 1 && nat_le 1 1) l

given-alone : (gives : Given) (a b k : Kind) (rest : List Kind) → gives-alone gives ≡ true → is_kind (given_kind gives a (k ∷ [])) (given_kind gives b (k ∷ rest)) ≡ true
given-alone (given.Always j) a b k rest h = kind-itself j
given-alone (given.Same i) a b k rest h = let z : i ≡ 0 = grind (arith, h) in subst (λ n. is_kind (kind_at (k ∷ []) n) (kind_at (k ∷ rest) n) ≡ true) (sym z) (kind-itself k)
given-alone given.Common a b k rest h = cc

-- a row of a window without the length, where its one operand's kind is allowed
pub window-has-kinds : (row : Row) (agreed k : Kind) (rest : List Kind) → takes-just 2 row ≡ true → is_alike row.first ≡ false → gives-alone row.gives ≡ true → allows agreed row.first k ≡ true → has_kinds (before_length row) (k ∷ []) (given_kind row.gives agreed (k ∷ rest)) ≡ true
window-has-kinds row agreed k rest ht hl hg ha =
    let common = common_kind (before_length row) (k ∷ []) in
    let last = is_kind (given_kind row.gives common (k ∷ [])) (given_kind row.gives agreed (k ∷ rest)) in
    both-are (has_count (before_length row) 1) ((allows common row.first k && true) && last) (window-count row.least row.most ht)
    (both-are (allows common row.first k && true) last (both-are (allows common row.first k) true (same-allowed row.first common agreed k hl ∙ ha) refl) (given-alone row.gives common agreed k rest hg))

-- ---- nested operations

-- a row whose operations are nested takes two operands of the agreed kind, and gives that
pub nested-has-kinds : (row : Row) (agreed : Kind) → nat_lt row.most MANY_OPERANDS ≡ false → takes-few row ≡ true → ((i : ℕ) → alike-has (ask_at row i) agreed ≡ true) → has_kinds row (agreed ∷ agreed ∷ []) agreed ≡ true
nested-has-kinds row agreed hm h ha =
    let few = sym (ap (λ b. if b then nat_le row.most 4 else (row.least == 2) && (is_alike row.first && (is_alike row.second && (is_alike row.further && is-common row.gives)))) hm) ∙ h in
    let more = both-right (row.least == 2) (is_alike row.first && (is_alike row.second && (is_alike row.further && is-common row.gives))) few in
    let rest = both-right (is_alike row.first) (is_alike row.second && (is_alike row.further && is-common row.gives)) more in
    let first = both-left (is_alike row.first) (is_alike row.second && (is_alike row.further && is-common row.gives)) more in
    let second = both-left (is_alike row.second) (is_alike row.further && is-common row.gives) rest in
    let common = both-right (is_alike row.further) (is-common row.gives) (both-right (is_alike row.second) (is_alike row.further && is-common row.gives) rest) in
    let two = both-left (row.least == 2) (is_alike row.first && (is_alike row.second && (is_alike row.further && is-common row.gives))) few in
    let at : common_kind row (agreed ∷ agreed ∷ []) ≡ agreed = ap (λ b. kind_at (agreed ∷ agreed ∷ []) (if b then 0 else if is_alike row.second then 1 else 2)) first in
    both-are (has_count row (2)) (are_allowed row (common_kind row (agreed ∷ agreed ∷ [])) 0 (agreed ∷ agreed ∷ []) && is_kind (given_kind row.gives (common_kind row (agreed ∷ agreed ∷ [])) (agreed ∷ agreed ∷ [])) agreed)
    (ap (λ b. if b then takes row (2) else (2 == row.least)) hm ∙ turned row.least two)
    (subst (λ c. (are_allowed row c 0 (agreed ∷ agreed ∷ []) && is_kind (given_kind row.gives c (agreed ∷ agreed ∷ [])) agreed) ≡ true) (sym at)
    (both-are (are_allowed row agreed 0 (agreed ∷ agreed ∷ [])) (is_kind (given_kind row.gives agreed (agreed ∷ agreed ∷ [])) agreed)
    (both-are (allows agreed row.first agreed) (allows agreed row.second agreed && true) (alike-allows row.first agreed first (ha 0)) (both-are (allows agreed row.second agreed) true (alike-allows row.second agreed second (ha 1)) refl))
    (by-gives row.gives common)))
  where
    turned : (n : ℕ) → (n == 2) ≡ true → (2 == n) ≡ true
    turned n g = grind (arith, g)

    by-gives : (gives : Given) → is-common gives ≡ true → is_kind (given_kind gives agreed (agreed ∷ agreed ∷ [])) agreed ≡ true
    by-gives given.Common g = kind-itself agreed
    by-gives (given.Always k) g = cc
    by-gives (given.Same i) g = cc
