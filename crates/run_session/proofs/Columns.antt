-- The columns of a time series, and their first places.
use Rattle.std.proofs.Common.{◌≡◌, ℕ, suc, ◌+◌, ◌<◌, ◌≤◌, Bool, true, false, cond, not, ℤ, pos, negsuc, List, [], ◌∷◌, ◌-◌, map, length, drop, get_or, refl, sym, ap, subst, ◌∙◌, arith}
use Rattle.std.specs.Prelude.{◌==◌, All, nat_lt, int_lt, ⊤}
use Rattle.std.proofs.lemmas.List.Elements.{All-cons, All-nil}
use Rattle.std.specs.BTreeMap.{insert_entry}
use Rattle.std.specs.Ordering.{int_cmp, match_ordering}
use Rattle.std.specs.declared.cmp.Ordering.{Ordering}
use Rattle.std.specs.declared.cmp.Ordering.TheVariants.{Less, Equal, Greater}
use Rattle.std.proofs.lemmas.Bool.{eq-eqb, ne_eqb}
use Rattle.std.proofs.lemmas.Bool.Decides.{nat_tests}
use Rattle.cell_values.specs.declared.cell.Cell.{Cell}
use Rattle.cell_values.specs.declared.cell.Cell.TheVariants.{Mv, Val}
use Rattle.run_session.specs.Samples.{ascending, id_columns, ids_in, is_id, place_of_id, with_number}
use Rattle.run_session.specs.inside.Columns.{first_places}
use Rattle.run_session.proofs.Lists.{item_here}

-- numbers that ascend, the first of them above another
abbrev pub AscendAbove : ℕ → List ℕ → Type 0
AscendAbove n [] = ⊤
AscendAbove n (x ∷ xs) = (n < x) × AscendAbove x xs

-- what a comparison of two numbers says
pub data Compared (m n : ℕ) : Type 0 where
  IsLess : nat_lt m n ≡ true → m < n → Compared m n
  IsSame : nat_lt m n ≡ false → (m == n) ≡ true → m ≡ n → Compared m n
  IsMore : nat_lt m n ≡ false → (m == n) ≡ false → nat_lt n m ≡ true → n < m → Compared m n

pub compared : (m n : ℕ) → Compared m n
compared m n = by (nat_lt m n) refl
  where
    by_same : (b : Bool) → (m == n) ≡ b → nat_lt m n ≡ false → Compared m n
    by_same true e less = IsSame less e (grind (arith, nat_tests, e))
    by_same false e less = IsMore less e (grind (arith, nat_tests, e, less)) (grind (arith, nat_tests, e, less))

    by : (b : Bool) → nat_lt m n ≡ b → Compared m n
    by true less = IsLess less (grind (arith, nat_tests, less))
    by false less = by_same (m == n) refl less

-- one more number ascends with the others
pub ascend_with : (b n : ℕ) (xs : List ℕ) → b < n → AscendAbove b xs → AscendAbove b (with_number n xs)
ascend_with b n [] above up = (above, tt)
ascend_with b n (x ∷ xs) above up = by (compared n x) (λ below. ascend_with x n xs below up.1)
  where
    by : Compared n x → (x < n → AscendAbove x (with_number n xs)) → AscendAbove b (cond (nat_lt n x) (n ∷ x ∷ xs) (cond (n == x) (x ∷ xs) (x ∷ with_number n xs)))
    by (IsLess less below) rest = subst (λ t. AscendAbove b (cond t (n ∷ x ∷ xs) (cond (n == x) (x ∷ xs) (x ∷ with_number n xs)))) (sym less) (above, (below, up.1))
    by (IsSame less same is) rest = subst (λ t. AscendAbove b (cond t (n ∷ x ∷ xs) (cond (n == x) (x ∷ xs) (x ∷ with_number n xs)))) (sym less) (subst (λ t. AscendAbove b (cond t (x ∷ xs) (x ∷ with_number n xs))) (sym same) up)
    by (IsMore less same more below) rest =
        subst (λ t. AscendAbove b (cond t (n ∷ x ∷ xs) (cond (n == x) (x ∷ xs) (x ∷ with_number n xs)))) (sym less)
        (subst (λ t. AscendAbove b (cond t (x ∷ xs) (x ∷ with_number n xs))) (sym same) (up.0, rest below))

-- numbers above one are other than it
map_above : {X : Type 0} (f g : ℕ → X) (m : ℕ) (ns : List ℕ) → AscendAbove m ns → ((n : ℕ) → m < n → f n ≡ g n) → map f ns ≡ map g ns
map_above f g m [] up same = refl
map_above f g m (n ∷ ns) up same = ap (λ x. x ∷ map f ns) (same n up.0) ∙ ap (λ xs. g n ∷ xs) (map_above f g n ns up.1 (λ k above. same k (omega (arith, above, up.0))))

-- the comparison of two numbers as whole ones
compare_is : (m n : ℕ) (b c : Bool) → nat_lt m n ≡ b → nat_lt n m ≡ c → int_cmp (pos m) (pos n) ≡ cond b Less (cond c Greater Equal)
compare_is m n b c less more = ap (λ t. cond t Less (cond (nat_lt n m) Greater Equal)) less ∙ ap (λ t. cond b Less (cond t Greater Equal)) more

-- an entry for each of some numbers
abbrev with_places : (ℕ → ℕ) → ℕ → ℤ × ℕ
with_places f n = (pos n, f n)

-- an entry
abbrev entry : ℕ → ℕ → ℤ × ℕ
entry n p = (pos n, p)

-- what is entered, by a comparison with the first number
abbrev inserted : (ℕ → ℕ) → ℕ → ℕ → ℕ → List ℕ → Ordering → List (ℤ × ℕ)
inserted f m k n ns r =
    match_ordering r (entry m k ∷ with_places f n ∷ map (with_places f) ns) (entry n k ∷ map (with_places f) ns) (with_places f n ∷ insert_entry int_cmp (map (with_places f) ns) (pos m) k)

-- the numbers with one more, by two comparisons
abbrev numbers : ℕ → ℕ → List ℕ → Bool → Bool → List ℕ
numbers m n ns less same = cond less (m ∷ n ∷ ns) (cond same (n ∷ ns) (n ∷ with_number m ns))

-- a number that is entered stands in its place
entered : (f g : ℕ → ℕ) (m k b : ℕ) (ns : List ℕ) → AscendAbove b ns → g m ≡ k → ((n : ℕ) → (n ≡ m → ⊥) → f n ≡ g n) →
    insert_entry int_cmp (map (with_places f) ns) (pos m) k ≡ map (with_places g) (with_number m ns)
entered f g m k b [] up here other = ap (λ (p : ℕ). let e : ℤ × ℕ = (pos m, p) in e ∷ []) (sym here)
entered f g m k b (n ∷ ns) up here other = by (compared m n) (entered f g m k n ns up.1 here other)
  where
    by : Compared m n → insert_entry int_cmp (map (with_places f) ns) (pos m) k ≡ map (with_places g) (with_number m ns) → inserted f m k n ns (int_cmp (pos m) (pos n)) ≡ map (with_places g) (numbers m n ns (nat_lt m n) (m == n))
    by (IsLess less below) later =
        let none : nat_lt n m ≡ false = grind (arith, nat_tests, below) in
        let rest = map (with_places f) ns in
        let head : entry m k ≡ with_places g m = ap (entry m) (sym here) in
        let next : with_places f n ≡ with_places g n = ap (entry n) (other n (λ e. omega (arith, e, below))) in
        let more : rest ≡ map (with_places g) ns = map_above (with_places f) (with_places g) n ns up.1 (λ j above. ap (entry j) (other j (λ e. omega (arith, e, below, above)))) in
        ap (inserted f m k n ns) (compare_is m n true false less none)
        ∙ (ap (λ e. e ∷ with_places f n ∷ rest) head
        ∙ (ap (λ e. with_places g m ∷ e ∷ rest) next
        ∙ (ap (λ es. with_places g m ∷ with_places g n ∷ es) more
        ∙ ap (λ t. map (with_places g) (numbers m n ns t (m == n))) (sym less))))
    by (IsSame less same is) later =
        let none : nat_lt n m ≡ false = grind (arith, nat_tests, is) in
        let rest = map (with_places f) ns in
        let place : k ≡ g n = sym here ∙ ap g is in
        let more : rest ≡ map (with_places g) ns = map_above (with_places f) (with_places g) n ns up.1 (λ j above. ap (entry j) (other j (λ e. omega (arith, e, is, above)))) in
        ap (inserted f m k n ns) (compare_is m n false false less none)
        ∙ (ap (λ p. entry n p ∷ rest) place
        ∙ (ap (λ es. with_places g n ∷ es) more
        ∙ (ap (λ t. map (with_places g) (numbers m n ns false t)) (sym same)
        ∙ ap (λ t. map (with_places g) (numbers m n ns t (m == n))) (sym less))))
    by (IsMore less same more below) later =
        let rest = map (with_places f) ns in
        let next : with_places f n ≡ with_places g n = ap (entry n) (other n (λ e. omega (arith, e, below))) in
        ap (inserted f m k n ns) (compare_is m n false true less more)
        ∙ (ap (λ e. e ∷ insert_entry int_cmp rest (pos m) k) next
        ∙ (ap (λ es. with_places g n ∷ es) later
        ∙ (ap (λ t. map (with_places g) (numbers m n ns false t)) (sym same)
        ∙ ap (λ t. map (with_places g) (numbers m n ns t (m == n))) (sym less))))

-- the ids of a map ascend above 0
ids_ascend : (cells : List Cell) → AscendAbove 0 (ascending (ids_in cells))
ids_ascend [] = tt
ids_ascend (Mv ∷ cells) = ids_ascend cells
ids_ascend (Val (negsuc n) ∷ cells) = ids_ascend cells
ids_ascend (Val (pos n) ∷ cells) = by (nat_lt 0 n) refl (ids_ascend cells)
  where
    by : (b : Bool) → nat_lt 0 n ≡ b → AscendAbove 0 (ascending (ids_in cells)) → AscendAbove 0 (ascending (cond b (n ∷ ids_in cells) (ids_in cells)))
    by true some rest = ascend_with 0 n (ascending (ids_in cells)) (grind (arith, nat_tests, some)) rest
    by false none rest = rest

-- the first place of an id behind a cell that has another
abbrev place_from : ℕ → List Cell → ℕ → ℕ
place_from k cells n = k + place_of_id cells n

-- behind one more cell, which is not the id
place_behind : (k : ℕ) (c : Cell) (cells : List Cell) (n : ℕ) → is_id n c ≡ false → place_from (k + 1) cells n ≡ place_from k (c ∷ cells) n
place_behind k c cells n other =
    let step : place_of_id (c ∷ cells) n ≡ 1 + place_of_id cells n = ap (λ b. cond (not b) (1 + place_of_id cells n) 0) other in
    omega (arith, step)

-- The entries of a map's ids are its columns with their first places.
pub entries_are : (k : ℕ) (cells : List Cell) → first_places k cells ≡ map (with_places (place_from k cells)) (ascending (ids_in cells))
entries_are k [] = refl
entries_are k (Mv ∷ cells) =
    entries_are (k + 1) cells ∙ map_above (with_places (place_from (k + 1) cells)) (with_places (place_from k (Mv ∷ cells))) 0 (ascending (ids_in cells)) (ids_ascend cells)
    (λ n above. ap (λ (p : ℕ). let e : ℤ × ℕ = (pos n, p) in e) (place_behind k Mv cells n refl))
entries_are k (Val (negsuc m) ∷ cells) =
    entries_are (k + 1) cells ∙ map_above (with_places (place_from (k + 1) cells)) (with_places (place_from k (Val (negsuc m) ∷ cells))) 0 (ascending (ids_in cells)) (ids_ascend cells)
    (λ n above. ap (λ (p : ℕ). let e : ℤ × ℕ = (pos n, p) in e) (place_behind k (Val (negsuc m)) cells n refl))
entries_are k (Val (pos m) ∷ cells) = by (nat_lt 0 m) refl (entries_are (k + 1) cells)
  where
    here : (b : Bool) → (m == m) ≡ b → b ≡ true → place_from k (Val (pos m) ∷ cells) m ≡ k
    here b is same =
        let first : place_of_id (Val (pos m) ∷ cells) m ≡ 0 = ap (λ t. cond (not t) (1 + place_of_id cells m) 0) (is ∙ same) in
        omega (arith, first)

    by : (b : Bool) → nat_lt 0 m ≡ b → first_places (k + 1) cells ≡ map (with_places (place_from (k + 1) cells)) (ascending (ids_in cells)) →
        cond b (insert_entry int_cmp (first_places (k + 1) cells) (pos m) k) (first_places (k + 1) cells) ≡ map (with_places (place_from k (Val (pos m) ∷ cells))) (ascending (cond b (m ∷ ids_in cells) (ids_in cells)))
    by true some rest =
        ap (λ es. insert_entry int_cmp es (pos m) k) rest
        ∙ entered (place_from (k + 1) cells) (place_from k (Val (pos m) ∷ cells)) m k 0 (ascending (ids_in cells)) (ids_ascend cells) (here (m == m) refl (eq-eqb m m refl))
        (λ n other. place_behind k (Val (pos m)) cells n (ne_eqb m n (λ e. other (sym e))))
    by false none rest =
        rest ∙ map_above (with_places (place_from (k + 1) cells)) (with_places (place_from k (Val (pos m) ∷ cells))) 0 (ascending (ids_in cells)) (ids_ascend cells)
        (λ n above. ap (λ (p : ℕ). let e : ℤ × ℕ = (pos n, p) in e) (place_behind k (Val (pos m)) cells n (ne_eqb m n (λ e. grind (arith, nat_tests, e, above, none)))))

-- the columns are the ids of the entries
pub keys_are : (cells : List Cell) → map (λ (e : ℤ × ℕ). e.0) (first_places 0 cells) ≡ map pos (id_columns cells)
unfolding id_columns
keys_are cells = ap (map (λ (e : ℤ × ℕ). e.0)) (entries_are 0 cells) ∙ firsts (ascending (ids_in cells))
  where
    firsts : (ns : List ℕ) → map (λ (e : ℤ × ℕ). e.0) (map (with_places (place_from 0 cells)) ns) ≡ map pos ns
    firsts [] = refl
    firsts (n ∷ ns) = ap (λ xs. pos n ∷ xs) (firsts ns)

-- their places are those of the entries
pub values_are : (cells : List Cell) → map (λ (e : ℤ × ℕ). e.1) (first_places 0 cells) ≡ map (place_of_id cells) (id_columns cells)
unfolding id_columns
values_are cells = ap (map (λ (e : ℤ × ℕ). e.1)) (entries_are 0 cells) ∙ seconds (ascending (ids_in cells))
  where
    seconds : (ns : List ℕ) → map (λ (e : ℤ × ℕ). e.1) (map (with_places (place_from 0 cells)) ns) ≡ map (place_of_id cells) ns
    seconds [] = refl
    seconds (n ∷ ns) =
        let same : 0 + place_of_id cells n ≡ place_of_id cells n = omega arith in
        ap (λ p. p ∷ map (λ (e : ℤ × ℕ). e.1) (map (with_places (place_from 0 cells)) ns)) same ∙ ap (λ xs. place_of_id cells n ∷ xs) (seconds ns)

-- ---- places lie within

-- each of some numbers is such
abbrev EachIs : (ℕ → Type 0) → List ℕ → Type 0
EachIs P [] = ⊤
EachIs P (n ∷ ns) = P n × EachIs P ns

each_with : (P : ℕ → Type 0) (m : ℕ) (ns : List ℕ) → P m → EachIs P ns → EachIs P (with_number m ns)
each_with P m [] one all = (one, tt)
each_with P m (n ∷ ns) one all = by (nat_lt m n) (m == n) (each_with P m ns one all.1)
  where
    by : (less same : Bool) → EachIs P (with_number m ns) → EachIs P (cond less (m ∷ n ∷ ns) (cond same (n ∷ ns) (n ∷ with_number m ns)))
    by true same later = (one, all)
    by false true later = all
    by false false later = (all.0, later)

each_weaker : (P Q : ℕ → Type 0) (ns : List ℕ) → ((n : ℕ) → P n → Q n) → EachIs P ns → EachIs Q ns
each_weaker P Q [] weaker all = tt
each_weaker P Q (n ∷ ns) weaker all = (weaker n all.0, each_weaker P Q ns weaker all.1)

-- the first place of an id lies in front of the end
abbrev IsWithin : List Cell → ℕ → Type 0
IsWithin cells n = place_of_id cells n < length cells

within_more : (c : Cell) (cells : List Cell) (n : ℕ) → IsWithin cells n → IsWithin (c ∷ cells) n
within_more c cells n within = by (is_id n c)
  where
    by : (b : Bool) → cond (not b) (1 + place_of_id cells n) 0 < suc (length cells)
    by true = omega arith
    by false = omega (arith, within)

places_within : (cells : List Cell) → EachIs (IsWithin cells) (ascending (ids_in cells))
places_within [] = tt
places_within (Mv ∷ cells) = each_weaker (IsWithin cells) (IsWithin (Mv ∷ cells)) (ascending (ids_in cells)) (within_more Mv cells) (places_within cells)
places_within (Val (negsuc m) ∷ cells) = each_weaker (IsWithin cells) (IsWithin (Val (negsuc m) ∷ cells)) (ascending (ids_in cells)) (within_more (Val (negsuc m)) cells) (places_within cells)
places_within (Val (pos m) ∷ cells) = by (nat_lt 0 m) (each_weaker (IsWithin cells) (IsWithin (Val (pos m) ∷ cells)) (ascending (ids_in cells)) (within_more (Val (pos m)) cells) (places_within cells))
  where
    here : (b : Bool) → b ≡ true → cond (not b) (1 + place_of_id cells m) 0 < suc (length cells)
    here true is = omega arith
    here false is = absurd (cc)

    by : (b : Bool) → EachIs (IsWithin (Val (pos m) ∷ cells)) (ascending (ids_in cells)) → EachIs (IsWithin (Val (pos m) ∷ cells)) (ascending (cond b (m ∷ ids_in cells) (ids_in cells)))
    by true rest = each_with (IsWithin (Val (pos m) ∷ cells)) m (ascending (ids_in cells)) (here (m == m) (eq-eqb m m refl)) rest
    by false rest = rest

-- the first places of a map's columns are places of the map
pub columns_within : (cells : List Cell) → All (λ place. place < length cells) (map (place_of_id cells) (id_columns cells))
unfolding id_columns
columns_within cells = all (ascending (ids_in cells)) (places_within cells)
  where
    all : (ns : List ℕ) → EachIs (IsWithin cells) ns → All (λ place. place < length cells) (map (place_of_id cells) ns)
    all [] each = All-nil (λ place. place < length cells)
    all (n ∷ ns) each = All-cons (λ place. place < length cells) (place_of_id cells n) (map (place_of_id cells) ns) each.0 (all ns each.1)

-- ---- one more place

-- the entries from a place on, where it has an id
pub one_more_place : (ids : List Cell) (q : ℕ) (id : ℤ) (c : Cell) → 0 < q → q ≤ length ids → c ≡ get_or ids (q - 1) c → c ≡ Val id → int_lt (pos 0) id ≡ true →
    insert_entry int_cmp (first_places q (drop q ids)) id (q - 1) ≡ first_places (q - 1) (drop (q - 1) ids)
one_more_place ids q id c some below here is above =
    let p = q - 1 in
    let next : p + 1 ≡ q = omega (arith, some) in
    let front : drop p ids ≡ c ∷ drop (p + 1) ids = item_here ids p c (omega (arith, some, below)) here in
    let more = first_places (p + 1) (drop (p + 1) ids) in
    sym (ap (first_places p) (front ∙ ap (λ (d : Cell). d ∷ drop (p + 1) ids) is)
    ∙ (ap (λ b. cond b (insert_entry int_cmp more id p) more) above
    ∙ ap (λ k. insert_entry int_cmp (first_places k (drop k ids)) id p) next))
