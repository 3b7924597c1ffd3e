-- Maps of tallies.
use Rattle.std.proofs.Common.{◌≡◌, ℕ, ◌+◌, ◌≤◌, ℤ, Bool, true, false, cond, List, [], ◌∷◌, refl, sym, ap, subst, ◌∙◌, arith, Less, Equal}
use Rattle.std.specs.Prelude.{Option, Some, None, if◌then◌else◌, option_map}
use Rattle.std.specs.Option.{option_or, unwrap_or}
use Rattle.std.specs.Ordering.{int_cmp, int_eq}
use Rattle.std.specs.Cmp.{int_cmp_total}
use Rattle.std.specs.BTreeMap.{BTreeMap, get}
use Rattle.std.specs.List.{AllByRecursion}
use Rattle.std.specs.List.Sorted.{IsStrictlySortedBy}
use Rattle.std.specs.Map.{keys_of, lookup}
use Rattle.std.proofs.lemmas.Bool.{false_from_ne_true}
use Rattle.std.proofs.lemmas.Cmp.{tied_itself}
use Rattle.std.proofs.lemmas.Bool.Decides.{Decides-int_eq}
use Rattle.tile_map.specs.Parts.{Outcome}
use Rattle.area_ops.specs.declared.tally.Tally.{Tally}
use Rattle.area_ops.specs.inside.Tallies.{no_tally, IsTally, AreTallies, seen_from, tally_at, tally_in, tally_join, with_entries}
use Rattle.region_meaning.proofs.Callers.{int_eq-flip}
use Rattle.area_ops.proofs.TallyLemmas.{count-tally_join, join_none, none_join_sound, sound-no_tally}

-- two numbers that are equal by the test
same_number : (k q : ℤ) → int_eq k q ≡ true → k ≡ q
same_number k q e = (Decides-int_eq k q).0 e

-- a class's tally by what is found for it
abbrev found_or_none : Option Tally → Tally
found_or_none o = unwrap_or o no_tally

pub at_found : (m : BTreeMap ℤ Tally) (q : ℤ) → tally_at m q ≡ found_or_none (get int_cmp m q)
unfolding tally_in
at_found m q = refl

-- by whether the classes are equal
added_by : (old : BTreeMap ℤ Tally) (k q : ℤ) (more : Tally) (b : Bool) → int_eq k q ≡ b →
    found_or_none (cond b (Some (tally_join (tally_at old k) more)) (get int_cmp old q)) ≡ tally_join (tally_at old q) (if b then more else no_tally)
added_by old k q more true e = ap (λ (z : ℤ). tally_join (tally_at old z) more) (same_number k q e)
added_by old k q more false e = sym (at_found old q) ∙ sym (join_none (tally_at old q) no_tally refl)

-- a map into which a class's tally was put, joined with another one: what another class has there, by the entries
pub added_in : (old : BTreeMap ℤ Tally) (es : List (ℤ × Tally)) (k l : ℤ) (t more : Tally) (q : ℤ) → l ≡ k → t ≡ tally_join (tally_at old l) more →
    lookup (λ own. int_eq q own) es ≡ cond (int_eq l q) (Some t) (get int_cmp old q) → tally_in es q ≡ tally_join (tally_at old q) (seen_from q k more)
unfolding tally_in seen_from
added_in old es k l t more q same e h =
    ap found_or_none h
    ∙ (ap (λ (u : Tally). found_or_none (cond (int_eq l q) (Some u) (get int_cmp old q))) e
    ∙ (added_by old l q more (int_eq l q) refl ∙ ap (λ (z : ℤ). tally_join (tally_at old q) (if int_eq z q then more else no_tally)) same))

-- further entries take away no number
pub grows : (class : ℤ) (t : Tally) (es : List (ℤ × Tally)) → t.count ≤ (with_entries class t es).count
grows class t [] = omega arith
grows class t (e ∷ es) =
    let more = seen_from class e.0 e.1 in
    let one = count-tally_join t more in
    let rest = grows class (tally_join t more) es in
    omega (arith, one, rest)

-- a class that comes before another is not equal to it
not_seen : (class k : ℤ) → int_cmp class k ≡ Less → int_eq k class ≡ false
not_seen class k less = false_from_ne_true (int_eq k class) (λ e.
    let same = same_number k class e in
    let tied : int_cmp class k ≡ Equal = ap (int_cmp class) same ∙ tied_itself int_cmp_total class in
    let both : Less ≡ Equal = sym less ∙ tied in
    absurd cc)

-- what a class sees of another one
pub seen_not : (class own : ℤ) (t : Tally) → int_eq own class ≡ false → seen_from class own t ≡ no_tally
unfolding seen_from
seen_not class own t e = ap (λ (b : Bool). if b then t else no_tally) e

pub seen_itself : (class own : ℤ) (t : Tally) → int_eq own class ≡ true → seen_from class own t ≡ t
unfolding seen_from
seen_itself class own t e = ap (λ (b : Bool). if b then t else no_tally) e

-- entries of other classes
unseen : (class : ℤ) (t : Tally) (es : List (ℤ × Tally)) → AllByRecursion (λ k. int_cmp class k ≡ Less) (keys_of es) → with_entries class t es ≡ t
unseen class t [] h = refl
unseen class t (e ∷ es) h =
    ap (λ (u : Tally). with_entries class u es) (ap (tally_join t) (seen_not class e.0 e.1 (not_seen class e.0 h.0)) ∙ join_none t no_tally refl)
    ∙ unseen class t es h.1

-- the test of a search, the other way round
other_way_true : (x y : ℤ) → int_eq x y ≡ true → int_eq y x ≡ true
other_way_true x y e = ap (λ (z : ℤ). int_eq z x) (sym (same_number x y e)) ∙ (Decides-int_eq x x).1 refl

other_way_false : (x y : ℤ) → int_eq x y ≡ false → int_eq y x ≡ false
other_way_false x y e = false_from_ne_true (int_eq y x) (λ f. let both : true ≡ false = sym (other_way_true y x f) ∙ e in absurd cc)

-- what ascending entries have for a class is what a search finds
found_by : (class : ℤ) (t : Tally) (e : ℤ × Tally) (es : List (ℤ × Tally)) (b : Bool) → int_eq class e.0 ≡ b →
    AllByRecursion (λ k. int_cmp e.0 k ≡ Less) (keys_of es) → with_entries class t es ≡ tally_join t (found_or_none (lookup (λ k. int_eq class k) es)) →
    with_entries class (tally_join t (seen_from class e.0 e.1)) es ≡ tally_join t (found_or_none (cond b (Some e.1) (lookup (λ k. int_eq class k) es)))
found_by class t e es true same behind rest =
    ap (λ (u : Tally). with_entries class (tally_join t u) es) (seen_itself class e.0 e.1 (other_way_true class e.0 same))
    ∙ unseen class (tally_join t e.1) es (subst (λ (z : ℤ). AllByRecursion (λ k. int_cmp z k ≡ Less) (keys_of es)) (sym (same_number class e.0 same)) behind)
found_by class t e es false other behind rest =
    ap (λ (u : Tally). with_entries class u es) (ap (tally_join t) (seen_not class e.0 e.1 (other_way_false class e.0 other)) ∙ join_none t no_tally refl)
    ∙ rest

pub entries_found : (class : ℤ) (t : Tally) (es : List (ℤ × Tally)) → IsStrictlySortedBy int_cmp (keys_of es) →
    with_entries class t es ≡ tally_join t (found_or_none (lookup (λ k. int_eq class k) es))
unfolding IsStrictlySortedBy
entries_found class t [] sorted = sym (join_none t no_tally refl)
entries_found class t (e ∷ es) sorted = found_by class t e es (int_eq class e.0) refl sorted.0 (entries_found class t es sorted.1)

-- a map's entries, added to a class's tally
pub entries_of_map : (class : ℤ) (t : Tally) (m : BTreeMap ℤ Tally) → IsStrictlySortedBy int_cmp (keys_of m.entries) →
    with_entries class t m.entries ≡ tally_join t (tally_at m class)
entries_of_map class t m sorted = entries_found class t m.entries sorted ∙ ap (tally_join t) (sym (at_found m class))

-- a map without entries
pub at_nothing : (m : BTreeMap ℤ Tally) (class : ℤ) → m.entries ≡ [] → tally_at m class ≡ no_tally
at_nothing m class e = at_found m class ∙ ap (λ (es : List (ℤ × Tally)). found_or_none (lookup (λ k. int_eq class k) es)) e

-- a class that is found
pub at_some : (m : BTreeMap ℤ Tally) (class : ℤ) (t : Tally) → get int_cmp m class ≡ Some t → tally_at m class ≡ t
at_some m class t e = at_found m class ∙ ap found_or_none e

-- what a class sees of a sound tally
seen-sound_by : (class own : ℤ) (t : Tally) (b : Bool) → int_eq own class ≡ b → IsTally t → IsTally (seen_from class own t)
seen-sound_by class own t true e s = subst IsTally (sym (seen_itself class own t e)) s
seen-sound_by class own t false e s = subst IsTally (sym (seen_not class own t e)) sound-no_tally

pub seen-sound : (class own : ℤ) (t : Tally) → IsTally t → IsTally (seen_from class own t)
seen-sound class own t s = seen-sound_by class own t (int_eq own class) refl s

-- the tallies of two maps as those of one
pub joined_few : (m n : ℕ) (f g h : ℤ → Tally) → AreTallies m f → AreTallies n g → ((class : ℤ) → h class ≡ tally_join (f class) (g class)) →
    ((class : ℤ) → IsTally (h class)) → AreTallies (m + n) h
joined_few m n f g h a b e sound = record {
  sound = sound;
  few = λ class.
      let c = ap (λ (t : Tally). t.count) (e class) ∙ count-tally_join (f class) (g class) in
      let p = a.few class in let q = b.few class in
      omega (arith, c, p, q);
}

-- there is room for the next entry
pub room : (class : ℤ) (t u a b : Tally) (es : List (ℤ × Tally)) (most : ℕ) →
    with_entries class t ((class, u) ∷ es) ≡ tally_join a b → a.count + b.count ≤ most → t.count + u.count ≤ most
room class t u a b es most e h =
    let g = grows class (tally_join t (seen_from class class u)) es in
    let s = ap (λ (x : Tally). (tally_join t x).count) (seen_itself class class u ((Decides-int_eq class class).1 refl)) ∙ count-tally_join t u in
    let w = ap (λ (x : Tally). x.count) e ∙ count-tally_join a b in
    omega (arith, g, s, w, h)

-- the tallies of a map poured into an empty one
pub poured_first : (nothing into a : BTreeMap ℤ Tally) (class : ℤ) → nothing.entries ≡ [] → IsTally (tally_at a class) →
    tally_at into class ≡ tally_join (tally_at nothing class) (tally_at a class) → tally_at into class ≡ tally_at a class
poured_first nothing into a class empty sound e =
    e ∙ (ap (λ (t : Tally). tally_join t (tally_at a class)) (at_nothing nothing class empty) ∙ none_join_sound (tally_at a class) sound)

-- the tallies of a map without entries
pub nothing_sound : (m : BTreeMap ℤ Tally) → m.entries ≡ [] → AreTallies 0 (tally_at m)
nothing_sound m empty = record {
  sound = λ class. subst IsTally (sym (at_nothing m class empty)) sound-no_tally;
  few = λ class. let e = ap (λ (t : Tally). t.count) (at_nothing m class empty) in omega (arith, e);
}

-- results with one more class
pub filled : {X : Type 0} (f : X → Outcome) (b : Bool) (old : Option Outcome) (x : X) (rest from : Option X) → (b ≡ true → from ≡ Some x) →
    option_or old (option_map f (cond b (Some x) rest)) ≡ option_map f from → option_or (cond b (Some (f x)) old) (option_map f rest) ≡ option_map f from
filled f true old x rest from found h = sym (ap (option_map f) (found refl))
filled f false old x rest from found h = h

pub filled_all : (o : Option Outcome) → option_or o None ≡ o
filled_all None = refl
filled_all (Some x) = refl

pub filled_step : {X : Type 0} (f : X → Outcome) (old new : BTreeMap ℤ Outcome) (from : BTreeMap ℤ X) (k l : ℤ) (x : X) (r : Outcome) (all rest : List (ℤ × X)) → l ≡ k → r ≡ f x →
    ((q : ℤ) → get int_cmp new q ≡ cond (int_eq l q) (Some r) (get int_cmp old q)) → all ≡ (k, x) ∷ rest → get int_cmp from k ≡ Some x →
    ((q : ℤ) → option_or (get int_cmp old q) (option_map f (lookup (λ own. int_eq q own) all)) ≡ option_map f (get int_cmp from q)) →
    (q : ℤ) → option_or (get int_cmp new q) (option_map f (lookup (λ own. int_eq q own) rest)) ≡ option_map f (get int_cmp from q)
filled_step {X} f old new from k l x r all rest same is put first found left q =
    let here = lookup (λ own. int_eq q own) rest in
    ap (λ (o : Option Outcome). option_or o (option_map f here))
    (put q ∙ (ap (λ (z : ℤ). cond (int_eq z q) (Some r) (get int_cmp old q)) same ∙ ap (λ (o : Outcome). cond (int_eq k q) (Some o) (get int_cmp old q)) is))
    ∙ filled f (int_eq k q) (get int_cmp old q) x here (get int_cmp from q) (λ e. ap (get int_cmp from) (sym (same_number k q e)) ∙ found)
    (ap (λ (b : Bool). option_or (get int_cmp old q) (option_map f (cond b (Some x) here))) (int_eq-flip k q)
    ∙ (ap (λ (es : List (ℤ × X)). option_or (get int_cmp old q) (option_map f (lookup (λ own. int_eq q own) es))) (sym first) ∙ left q))

-- no tally at all, with any bound
pub nothing_few : (most : ℕ) (m : BTreeMap ℤ Tally) → m.entries ≡ [] → AreTallies most (tally_at m)
nothing_few most m empty = record {
  sound = (nothing_sound m empty).sound;
  few = λ class. let e = (nothing_sound m empty).few class in omega (arith, e);
}
