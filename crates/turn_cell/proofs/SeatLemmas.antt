-- What a seat keeps true of its view, and what the calls make of it.
use Rattle.std.proofs.Common.{◌≡◌, ℕ, ◌+◌, ◌<◌, ◌≤◌, ◌≢◌, ◌⊎◌, Bool, true, false, List, [], ◌∷◌, ◌++◌, length, filter, Some, None, Option, Box}
use Rattle.std.proofs.Common.{refl, sym, ap, ◌∙◌, inl, inr, subst, arith}
use mathlib.Core.List.{IsPrefix}
use mathlib.Core.Logic.{dite}
use native.Mathlib.Decide.{dec_le, ℕ_discrete}
use Rattle.atomic_table.specs.Table.{Me, Step, rest}
use Rattle.turn_cell.specs.declared.view.View.{View}
use Rattle.turn_cell.specs.Authors.{authors_below, least_author, greatest_author, without_author, times_among, AreDistinct}
use Rattle.turn_cell.specs.Histories.{Appends, is_author, entries_by}
use Rattle.turn_cell.specs.inside.Views.{boxed, opening_view, left_view, newcomer_view, told_view, settled_view, idle_view, HasSettled, SettlesView, MayFind, holding_view, gave_turn}
use Rattle.turn_cell.proofs.AuthorLemmas.{some_among, among_is, first_in, times_without_other, times_append, greatest_once, greatest_in, least_in, length_without, zero_stays, without_is, alone_is, without_distinct, alone_distinct, below_distinct, length_below, zero_below}
use Rattle.turn_cell.proofs.EntryLemmas.{same_parts, more_longer}

-- what holds of a seat between two calls
pub record IsAtRest {S P E : Type 0} (m : Me S (View P E)) : Type 0 where
  pub idle : m.1 ≡ []
  pub free : m.0.holds ≡ false
  pub settled : HasSettled m.0
  pub some : 0 < length m.0.authors
  pub distinct : AreDistinct m.0.authors
  pub single : 2 ≤ length m.0.authors → is_author 0 m.0.authors ≡ true

-- a seat that holds no slot
abbrev pub rested : {S P E : Type 0} → View P E → Me S (View P E)
rested v = (v, [])

pub left_rests : {S P E : Type 0} (m : Me S (View P E)) → IsAtRest m → 2 ≤ length m.0.authors → IsAtRest {S = S} (left_view m.0, m.1)
left_rests m r two =
    let g : ℕ = greatest_author m.0.authors in
    let l = length_without g m.0.authors in
    let once = r.distinct g in
    record {
      idle = r.idle;
      free = r.free;
      settled = (refl, refl);
      some = omega arith;
      distinct = without_distinct g m.0.authors r.distinct;
      single = λ _. zero_stays m.0.authors two r.distinct (r.single two);
    }

pub given_rests : {S P E : Type 0} (v : View P E) → IsAtRest (rested {S = S} (newcomer_view v))
given_rests v = record {
  idle = refl;
  free = refl;
  settled = (refl, refl);
  some = omega arith;
  distinct = alone_distinct (greatest_author v.authors);
  single = λ h. absurd (omega arith);
}

pub opening_rests : {S P E : Type 0} (p : P) (seats : ℕ) → 0 < seats → IsAtRest (rested {S = S} (opening_view {E = E} p seats))
opening_rests p seats some_seat =
    let l = length_below seats in
    record {
      idle = refl;
      free = refl;
      settled = (refl, refl);
      some = omega arith;
      distinct = below_distinct seats;
      single = λ _. zero_below seats some_seat;
    }

pub idle_rests : {S P E : Type 0} (m : Me S (View P E)) (left : List E) → IsAtRest m → IsAtRest (rested {S = S} (idle_view m.0 left))
idle_rests m left r = record {
  idle = refl;
  free = refl;
  settled = (refl, refl);
  some = r.some;
  distinct = r.distinct;
  single = r.single;
}

-- the shares after a split
pub split_shares : (xs : List ℕ) → 0 < length xs → AreDistinct xs → length (without_author (greatest_author xs) xs) + 1 ≡ length xs
split_shares xs some_author d = let o = greatest_once xs some_author d in let l = length_without (greatest_author xs) xs in omega arith

-- an author stays, or is the one that goes
stays_or_goes : (a g : ℕ) (xs : List ℕ) → is_author a xs ≡ true → (is_author a (without_author g xs) ≡ true) ⊎ (is_author a (g ∷ []) ≡ true)
stays_or_goes a g xs h =
    let s = some_among a xs h in
    dite (ℕ_discrete a g)
    (λ e. inr (ap (λ (k : ℕ). is_author k (g ∷ [])) e ∙ first_in g []))
    (λ n. let t = times_without_other a g xs n in inl (among_is a (without_author g xs) (omega arith)))

-- the own entries after a split, where none of them is by the author that goes
pub split_entries : {E : Type 0} (author : E → ℕ) (xs : List ℕ) (seen : List E) → 0 < length xs → entries_by author (greatest_author xs ∷ []) seen ≡ []
    → entries_by author (without_author (greatest_author xs) xs) seen ≡ entries_by author xs seen
split_entries {E} author xs seen some_author fresh =
    let g : ℕ = greatest_author xs in
    let whole : E → Bool = λ e. is_author (author e) xs in
    let gone : E → Bool = λ e. is_author (author e) (g ∷ []) in
    let left : E → Bool = λ e. is_author (author e) (without_author g xs) in
    same_parts whole gone left (λ e h. stays_or_goes (author e) g xs h) (λ e h. without_is (author e) g xs h) seen fresh

-- who joins the seat with the author 0 has one author
pub one_share : (xs ys : List ℕ) → is_author 0 xs ≡ true → AreDistinct (xs ++ ys) → 0 < length ys → (2 ≤ length ys → is_author 0 ys ≡ true) → length ys ≡ 1
one_share xs ys root d some_author single =
    let s = some_among 0 xs root in
    let a = times_append 0 xs ys in
    let o = d 0 in
    dite (dec_le 2 (length ys))
    (λ two. let t = some_among 0 ys (single two) in absurd (omega arith))
    (λ n. omega arith)

-- the own entries after a turn
pub own_after : {E : Type 0} (author : E → ℕ) (authors : List ℕ) (by : ℕ) (met left own : List E) → entries_by author authors met ≡ own → is_author by authors ≡ true → Appends author by met left
    → Appends author by own (entries_by author authors left)
own_after author authors by met left own same mine (inl e) = inl (ap (entries_by author authors) e ∙ same)
own_after {E} author authors by met left own same mine (inr t) =
    let e : E = t.0 in
    inr (e, t.1, ap (entries_by author authors) t.2 ∙ (more_longer (λ x. is_author (author x) authors) met e (ap (λ (k : ℕ). is_author k authors) t.1 ∙ mine) ∙ ap (λ (l : List E). l ++ e ∷ []) same))

-- the value of the slot that was taken last
abbrev head_value : {S : Type 0} → S → List (ℕ × S) → S
head_value d [] = d
head_value d (x ∷ xs) = x.1

pub one_value : {S : Type 0} (xs ys zs : List (ℕ × S)) (x y : S) → xs ≡ (0, x) ∷ ys → xs ≡ (0, y) ∷ zs → x ≡ y
one_value xs ys zs x y p q = ap (head_value x) (sym p ∙ q)

pub one_rest : {S : Type 0} (xs ys zs : List (ℕ × S)) (x y : S) → xs ≡ (0, x) ∷ ys → xs ≡ (0, y) ∷ zs → ys ≡ zs
one_rest xs ys zs x y p q = ap rest (sym p ∙ q)

module _ {B P E : Type 0} (plan : B → P) (history : B → List E) (author : E → ℕ) where
  -- the value that is exchanged out is the one that was met, and the seat has what is exchanged in
  pub exchanged_both : (m m' m'' : Me (Option B) (View P E)) (v : View P E) (b value left : B) (out : Option B) → m ≡ (holding_view v (history b), (0, Some b) ∷ []) → m.1 ≡ (0, out) ∷ rest m.1
      → m' ≡ (m.0, (0, None) ∷ rest m.1) → out ≡ Some value → m'' ≡ (m'.0, (0, Some left) ∷ rest m'.1) → (b ≡ value) × (m'' ≡ (holding_view v (history value), (0, Some left) ∷ []))
  exchanged_both m m' m'' v b value left out is held swapped is_value back =
      let swap : Option B → Me (Option B) (View P E) → Me (Option B) (View P E) = λ o n. (n.0, (0, o) ∷ rest n.1) in
      let one : Some b ≡ out = one_value m.1 [] (rest m.1) (Some b) out (ap (λ (k : Me (Option B) (View P E)). k.1) is) held in
      let two : Some b ≡ Some value = one ∙ is_value in
      let same : b ≡ value = cc in
      let end : B → Me (Option B) (View P E) = λ x. (holding_view v (history x), (0, Some left) ∷ []) in
      (same, back ∙ (ap (swap (Some left)) (swapped ∙ ap (swap None) is) ∙ ap end same))

  pub finds_same : (v w : View P E) (b c : B) → v ≡ w → b ≡ c → MayFind plan history author v b → MayFind plan history author w c
  finds_same v w b c e f m = subst (λ (x : View P E). MayFind plan history author x c) e (subst (MayFind plan history author v) f m)

  -- the seat after the turn was given back
  pub turn_over : (m m' : Me (Option B) (View P E)) (v : View P E) (met : List E) (s : Step (Option B)) (n : ℕ) (b : B) → m ≡ (holding_view v met, (0, Some b) ∷ []) → gave_turn history s m n m' → m' ≡ rested (idle_view v (history b))
  turn_over m m' v met s n b is gave =
      let held : m.1 ≡ (0, Some b) ∷ [] = ap (λ (k : Me (Option B) (View P E)). k.1) is in
      let one : Some gave.0 ≡ Some b = one_value m.1 gave.1 [] (Some gave.0) (Some b) gave.2 held in
      let same : gave.0 ≡ b = cc in
      let none : gave.1 ≡ [] = one_rest m.1 gave.1 [] (Some gave.0) (Some b) gave.2 held in
      let left : View P E → B → List (ℕ × Option B) → Me (Option B) (View P E) = λ u c xs. (idle_view u (history c), xs) in
      gave.3 ∙ (ap (λ (k : Me (Option B) (View P E)). left k.0 gave.0 gave.1) is ∙ (ap (λ (c : B). left v c gave.1) same ∙ ap (left v b) none))

-- what a view may find in a block, it may find outside
pub unboxed : {B P E A : Type 0} (plan : B → P) (history : B → List E) (author : E → ℕ) (v : View P E) (b : Box B A) (x : B) → x ≡ b.value → MayFind (boxed plan) (boxed history) author v b → MayFind plan history author v x
unboxed plan history author v b x e m =
    let inner : MayFind plan history author v b.value = record { planned = m.planned; begins = m.begins; own = m.own } in
    subst (MayFind plan history author v) (sym e) inner
