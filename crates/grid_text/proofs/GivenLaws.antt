-- What the pairs so far have given, one pair after the other.
use Rattle.std.proofs.Common.{◌≡◌, ℕ, ◌*◌, Bool, true, false, ◌&&◌, not, cond, List, [], ◌∷◌, ◌++◌, map, Some, None, Result, Ok, Err, refl, sym, ap, subst, ◌∙◌}
use Rattle.std.specs.Prelude.{is_some, nat_lt, nat_le, unwrap_or, codes}
use Rattle.std.specs.declared.option.Option.{Option}
use Rattle.std.specs.Option.{option_map, option_to_list, ok_or}
use Rattle.std.proofs.lemmas.Bool.{ltb-true, ltb-false, lt-leb, le-leb}
use Rattle.grid_text.specs.declared.key.Key.{Key}
use Rattle.grid_text.specs.declared.key.Key.TheVariants.{Cols, Rows, X, Y, Size, Nodata}
use Rattle.grid_text.specs.declared.fault.GridFault.{GridFault}
use Rattle.grid_text.specs.declared.fault.GridKind.TheVariants as kinds
use Rattle.text_base.specs.Tokens.{Token}
use Rattle.grid_text.specs.Key.{key_of, same_key, is_center, side_of, is_coordinate, is_cell_size, is_nodata}
use Rattle.grid_text.specs.Form.{Pair, pairs_of, values_of, placed, nodata_of}
use Rattle.grid_text.specs.Faults.{fault_at, side_before, are_too_many}
use Rattle.text_base.specs.Results.{◌>>=◌}
use Rattle.grid_text.specs.inside.Reading.{is_filled, is_taken, pair_taken, word_alone, pairs_from, first_or, some_or, heading_of}
use Rattle.grid_text.specs.inside.Steps.{Values, AreValues, has_come, side_beside, where_good, place_given, with_value, heading_given}
use Rattle.text_base.proofs.Callers.{bool_cases, some_is}
use Rattle.grid_text.proofs.Pairs.{pairs_of-push_same, pairs_of-push_other, taken_says}
use Rattle.grid_text.proofs.Heads.{pair_read}

-- ---- whether a key has come

filled_one : {A B : Type 0} (f : A → B) (xs : List A) (o : Option B) → map f xs ≡ option_to_list o → is_some o ≡ is_filled xs
filled_one f [] None e = refl
filled_one f [] (Some y) e = absurd (cc)
filled_one f (x ∷ xs) None e = absurd (cc)
filled_one f (x ∷ xs) (Some y) e = refl

filled_side : (ps : List Pair) (o : Option ℕ) → map side_of (map (λ (p : Pair). p.value.bytes) ps) ≡ map (λ (n : ℕ). Some n) (option_to_list o) → is_some o ≡ is_filled ps
filled_side [] None e = refl
filled_side [] (Some y) e = absurd (cc)
filled_side (x ∷ xs) None e = absurd (cc)
filled_side (x ∷ xs) (Some y) e = refl

pub come_filled : (pairs : List Pair) (given : Values) (key : Key) → AreValues pairs given → has_come key given ≡ is_filled (pairs_of key pairs)
come_filled pairs given Cols h = filled_side (pairs_of Cols pairs) given.cols h.cols
come_filled pairs given Rows h = filled_side (pairs_of Rows pairs) given.rows h.rows
come_filled pairs given X h = filled_one placed (pairs_of X pairs) given.x h.x
come_filled pairs given Y h = filled_one placed (pairs_of Y pairs) given.y h.y
come_filled pairs given Size h = filled_one (λ (p : Pair). p.value.bytes) (pairs_of Size pairs) given.size h.size
come_filled pairs given Nodata h = filled_one (λ (p : Pair). p.value.bytes) (pairs_of Nodata pairs) given.nodata h.nodata

-- ---- whether a value may stand

before_given : (values : List (List ℕ)) (o : Option ℕ) → map side_of values ≡ map (λ (n : ℕ). Some n) (option_to_list o) → side_before values ≡ unwrap_or o 1
before_given [] None e = refl
before_given [] (Some n) e = absurd (cc)
before_given (v ∷ vs) None e = absurd (cc)
before_given (v ∷ vs) (Some n) e = let is : side_of v ≡ Some n = cc in ap (λ o. unwrap_or o 1) is

within_not_above : (n : ℕ) → nat_le n 4194304 ≡ not (nat_lt 4194304 n)
within_not_above n = bool_cases (nat_lt 4194304 n)
    (λ above. lt-leb n 4194304 (ltb-true 4194304 n above) ∙ ap not (sym above))
    (λ within. le-leb n 4194304 (ltb-false 4194304 n within) ∙ ap not (sym within))

some_where : {A : Type 0} (good : Bool) (a : A) → is_some (where_good good a) ≡ good
some_where true a = refl
some_where false a = refl

side_taken : (side other : Option ℕ) (values : List (List ℕ)) → side_before values ≡ unwrap_or other 1 → is_some (side_beside side other) ≡ (is_some side && not (are_too_many side (side_before values)))
side_taken None other values e = refl
side_taken (Some n) other values e =
    some_where (nat_le (n * unwrap_or other 1) 4194304) n
    ∙ within_not_above (n * unwrap_or other 1)
    ∙ ap (λ m. not (nat_lt 4194304 (n * m))) (sym e)

some_map : {A B : Type 0} (f : A → B) (o : Option A) → is_some (option_map f o) ≡ is_some o
some_map f None = refl
some_map f (Some a) = refl

and_true : (b : Bool) → b ≡ (b && true)
and_true true = refl
and_true false = refl

pub with_taken : (pairs : List Pair) (given : Values) (key : Key) (word value : List ℕ) → AreValues pairs given → is_some (with_value key word value given) ≡ is_taken key value pairs
with_taken pairs given Cols word value h = some_map _ (side_beside (side_of value) given.rows) ∙ side_taken (side_of value) given.rows (values_of Rows pairs) (before_given (values_of Rows pairs) given.rows h.rows)
with_taken pairs given Rows word value h = some_map _ (side_beside (side_of value) given.cols) ∙ side_taken (side_of value) given.cols (values_of Cols pairs) (before_given (values_of Cols pairs) given.cols h.cols)
with_taken pairs given X word value h = some_map _ (place_given word value) ∙ some_where (is_coordinate value) (is_center word, value) ∙ and_true (is_coordinate value)
with_taken pairs given Y word value h = some_map _ (place_given word value) ∙ some_where (is_coordinate value) (is_center word, value) ∙ and_true (is_coordinate value)
with_taken pairs given Size word value h = some_where (is_cell_size value) (record given { size = Some value }) ∙ and_true (is_cell_size value)
with_taken pairs given Nodata word value h = some_where (is_nodata value) (record given { nodata = Some value }) ∙ and_true (is_nodata value)

-- ---- one more value

-- what a map of an option gives comes from what it had
map_gives : {A B P : Type 0} (f : A → B) (o : Option A) (b : B) → option_map f o ≡ Some b → ((a : A) → o ≡ Some a → f a ≡ b → P) → P
map_gives f None b e k = absurd (cc)
map_gives f (Some a) b e k = k a refl (some_is _ _ e)

side_given : (side other : Option ℕ) (n : ℕ) → side_beside side other ≡ Some n → side ≡ Some n
side_given None other n e = absurd (cc)
side_given (Some m) other n e = bool_cases (nat_le (m * unwrap_or other 1) 4194304)
    (λ within. sym (ap (λ b. cond b (Some m) None) within) ∙ e)
    (λ above. let bad : None ≡ Some n = sym (ap (λ b. cond b (Some m) None) above) ∙ e in absurd (cc))

good_given : {A : Type 0} (good : Bool) (a b : A) → where_good good a ≡ Some b → a ≡ b
good_given true a b e = some_is _ _ e
good_given false a b e = absurd (cc)

module _ (pairs : List Pair) (p : Pair) (key : Key) (is : key_of p.word.bytes ≡ Some key) where
  -- the pairs of this key, and of another
  own : pairs_of key pairs ≡ [] → pairs_of key (pairs ++ p ∷ []) ≡ p ∷ []
  own new = pairs_of-push_same key pairs p is ∙ ap (λ ps. ps ++ p ∷ []) new

  other_values : {B : Type 0} (f : Pair → B) (k : Key) (bs : List B) → same_key key k ≡ false → map f (pairs_of k pairs) ≡ bs → map f (pairs_of k (pairs ++ p ∷ [])) ≡ bs
  other_values f k bs apart e = ap (map f) (pairs_of-push_other key k pairs p is apart) ∙ e

  other_sides : (k : Key) (bs : List (Option ℕ)) → same_key key k ≡ false → map side_of (values_of k pairs) ≡ bs → map side_of (values_of k (pairs ++ p ∷ [])) ≡ bs
  other_sides k bs apart e = ap (λ ps. map side_of (map (λ (q : Pair). q.value.bytes) ps)) (pairs_of-push_other key k pairs p is apart) ∙ e

pub with_values : (pairs : List Pair) (p : Pair) (key : Key) (given more : Values) → key_of p.word.bytes ≡ Some key → AreValues pairs given → pairs_of key pairs ≡ [] → with_value key p.word.bytes p.value.bytes given ≡ Some more → AreValues (pairs ++ p ∷ []) more
with_values pairs p Cols given more is h new e =
    map_gives (λ (n : ℕ). record given { cols = Some n }) (side_beside (side_of p.value.bytes) given.rows) more e (λ n side made.
    subst (AreValues (pairs ++ p ∷ [])) made (record {
      cols = ap (λ ps. map side_of (map (λ (q : Pair). q.value.bytes) ps)) (own pairs p Cols is new) ∙ ap (λ o. o ∷ []) (side_given (side_of p.value.bytes) given.rows n side);
      rows = other_sides pairs p Cols is Rows _ refl h.rows;
      x = other_values pairs p Cols is placed X _ refl h.x;
      y = other_values pairs p Cols is placed Y _ refl h.y;
      size = other_values pairs p Cols is (λ (q : Pair). q.value.bytes) Size _ refl h.size;
      nodata = other_values pairs p Cols is (λ (q : Pair). q.value.bytes) Nodata _ refl h.nodata;
    }))
with_values pairs p Rows given more is h new e =
    map_gives (λ (n : ℕ). record given { rows = Some n }) (side_beside (side_of p.value.bytes) given.cols) more e (λ n side made.
    subst (AreValues (pairs ++ p ∷ [])) made (record {
      cols = other_sides pairs p Rows is Cols _ refl h.cols;
      rows = ap (λ ps. map side_of (map (λ (q : Pair). q.value.bytes) ps)) (own pairs p Rows is new) ∙ ap (λ o. o ∷ []) (side_given (side_of p.value.bytes) given.cols n side);
      x = other_values pairs p Rows is placed X _ refl h.x;
      y = other_values pairs p Rows is placed Y _ refl h.y;
      size = other_values pairs p Rows is (λ (q : Pair). q.value.bytes) Size _ refl h.size;
      nodata = other_values pairs p Rows is (λ (q : Pair). q.value.bytes) Nodata _ refl h.nodata;
    }))
with_values pairs p X given more is h new e =
    map_gives (λ (v : Bool × List ℕ). record given { x = Some v }) (place_given p.word.bytes p.value.bytes) more e (λ v good made.
    subst (AreValues (pairs ++ p ∷ [])) made (record {
      cols = other_sides pairs p X is Cols _ refl h.cols;
      rows = other_sides pairs p X is Rows _ refl h.rows;
      x = ap (map placed) (own pairs p X is new) ∙ ap (λ w. w ∷ []) (good_given (is_coordinate p.value.bytes) (placed p) v good);
      y = other_values pairs p X is placed Y _ refl h.y;
      size = other_values pairs p X is (λ (q : Pair). q.value.bytes) Size _ refl h.size;
      nodata = other_values pairs p X is (λ (q : Pair). q.value.bytes) Nodata _ refl h.nodata;
    }))
with_values pairs p Y given more is h new e =
    map_gives (λ (v : Bool × List ℕ). record given { y = Some v }) (place_given p.word.bytes p.value.bytes) more e (λ v good made.
    subst (AreValues (pairs ++ p ∷ [])) made (record {
      cols = other_sides pairs p Y is Cols _ refl h.cols;
      rows = other_sides pairs p Y is Rows _ refl h.rows;
      x = other_values pairs p Y is placed X _ refl h.x;
      y = ap (map placed) (own pairs p Y is new) ∙ ap (λ w. w ∷ []) (good_given (is_coordinate p.value.bytes) (placed p) v good);
      size = other_values pairs p Y is (λ (q : Pair). q.value.bytes) Size _ refl h.size;
      nodata = other_values pairs p Y is (λ (q : Pair). q.value.bytes) Nodata _ refl h.nodata;
    }))
with_values pairs p Size given more is h new e =
    subst (AreValues (pairs ++ p ∷ [])) (good_given (is_cell_size p.value.bytes) _ more e) (record {
      cols = other_sides pairs p Size is Cols _ refl h.cols;
      rows = other_sides pairs p Size is Rows _ refl h.rows;
      x = other_values pairs p Size is placed X _ refl h.x;
      y = other_values pairs p Size is placed Y _ refl h.y;
      size = ap (map (λ (q : Pair). q.value.bytes)) (own pairs p Size is new);
      nodata = other_values pairs p Size is (λ (q : Pair). q.value.bytes) Nodata _ refl h.nodata;
    })
with_values pairs p Nodata given more is h new e =
    subst (AreValues (pairs ++ p ∷ [])) (good_given (is_nodata p.value.bytes) _ more e) (record {
      cols = other_sides pairs p Nodata is Cols _ refl h.cols;
      rows = other_sides pairs p Nodata is Rows _ refl h.rows;
      x = other_values pairs p Nodata is placed X _ refl h.x;
      y = other_values pairs p Nodata is placed Y _ refl h.y;
      size = other_values pairs p Nodata is (λ (q : Pair). q.value.bytes) Size _ refl h.size;
      nodata = ap (map (λ (q : Pair). q.value.bytes)) (own pairs p Nodata is new);
    })

-- ---- the steps of the reader

-- a pair is read on
pub step_read : (text_len : ℕ) (before : List Pair) (p : Pair) (rest : List Token) (key : Key) (given more : Values) → key_of p.word.bytes ≡ Some key → AreValues before given → pairs_of key before ≡ [] → with_value key p.word.bytes p.value.bytes given ≡ Some more
    → pairs_from text_len before (p.word ∷ p.value ∷ rest) ≡ pairs_from text_len (before ++ p ∷ []) rest
step_read text_len before p rest key given more is h new e =
    let taken : is_taken key p.value.bytes before ≡ true = sym (with_taken before given key p.word.bytes p.value.bytes h) ∙ ap (λ (o : Option Values). is_some o) e in
    let says = taken_says key p.value.bytes before taken in
    pair_read text_len before p rest key is new says.0 says.1

-- a key word that stands again
pub again_read : (text_len : ℕ) (before : List Pair) (word : Token) (rest : List Token) (key : Key) → key_of word.bytes ≡ Some key → is_filled (pairs_of key before) ≡ true → pairs_from text_len before (word ∷ rest) ≡ Err (fault_at kinds.Head word.at)
unfolding pairs_from
again_read text_len before word [] key is again =
    ap (word_alone text_len before word) is
    ∙ ap (λ b. Err (fault_at kinds.Head (cond b word.at text_len))) again
again_read text_len before word (value ∷ rest) key is again =
    let next : Result (List Pair × List Token) GridFault = pairs_from text_len (before ++ record { word = word; value = value } ∷ []) rest in
    ap (λ o. pair_taken before word value rest o next) is
    ∙ ap (λ b. cond b (Err (fault_at kinds.Head word.at)) (cond (is_taken key value.bytes before) next (Err (fault_at kinds.Head value.at)))) again

-- a key word without a value
pub alone_read : (text_len : ℕ) (before : List Pair) (word : Token) (key : Key) → key_of word.bytes ≡ Some key → is_filled (pairs_of key before) ≡ false → pairs_from text_len before (word ∷ []) ≡ Err (fault_at kinds.Head text_len)
unfolding pairs_from
alone_read text_len before word key is new =
    ap (word_alone text_len before word) is
    ∙ ap (λ b. Err (fault_at kinds.Head (cond b word.at text_len))) new

-- a value that may not stand
pub value_read : (text_len : ℕ) (before : List Pair) (word value : Token) (rest : List Token) (key : Key) (given : Values) → key_of word.bytes ≡ Some key → AreValues before given → is_filled (pairs_of key before) ≡ false → with_value key word.bytes value.bytes given ≡ None
    → pairs_from text_len before (word ∷ value ∷ rest) ≡ Err (fault_at kinds.Head value.at)
unfolding pairs_from
value_read text_len before word value rest key given is h new e =
    let bad : is_taken key value.bytes before ≡ false = sym (with_taken before given key word.bytes value.bytes h) ∙ ap (λ (o : Option Values). is_some o) e in
    let next : Result (List Pair × List Token) GridFault = pairs_from text_len (before ++ record { word = word; value = value } ∷ []) rest in
    ap (λ o. pair_taken before word value rest o next) is
    ∙ ap (λ b. cond b (Err (fault_at kinds.Head word.at)) (cond (is_taken key value.bytes before) next (Err (fault_at kinds.Head value.at)))) new
    ∙ ap (λ b. cond b next (Err (fault_at kinds.Head value.at))) bad

pub nothing_given : AreValues [] (record { cols = None; rows = None; x = None; y = None; size = None; nodata = None })
nothing_given = record { cols = refl; rows = refl; x = refl; y = refl; size = refl; nodata = refl }

-- ---- the head

bind_same : {A B : Type 0} (r : Result A GridFault) (f g : A → Result B GridFault) → ((a : A) → f a ≡ g a) → (r >>= f) ≡ (r >>= g)
bind_same (Ok a) f g same = same a
bind_same {A = A} {B = B} (Err e) f g same = refl

bind_side : {B : Type 0} (fault : GridFault) (values : List (List ℕ)) (o : Option ℕ) (k : ℕ → Result B GridFault) → map side_of values ≡ map (λ (n : ℕ). Some n) (option_to_list o) → (first_or fault values >>= λ v. some_or fault (side_of v) >>= k) ≡ (ok_or o fault >>= k)
bind_side fault [] None k e = refl
bind_side fault [] (Some n) k e = absurd (cc)
bind_side fault (v ∷ vs) None k e = absurd (cc)
bind_side fault (v ∷ vs) (Some n) k e = let is : side_of v ≡ Some n = cc in ap (λ o. some_or fault o >>= k) is

bind_one : {A B : Type 0} (fault : GridFault) (xs : List A) (o : Option A) (k : A → Result B GridFault) → xs ≡ option_to_list o → (first_or fault xs >>= k) ≡ (ok_or o fault >>= k)
bind_one fault [] None k e = refl
bind_one fault [] (Some x) k e = absurd (cc)
bind_one fault (x ∷ xs) None k e = absurd (cc)
bind_one fault (x ∷ xs) (Some y) k e = ap k (cc)

bind_nodata : {B : Type 0} (fault : GridFault) (values : List (List ℕ)) (o : Option (List ℕ)) (k : List ℕ → Result B GridFault) → values ≡ option_to_list o → (some_or fault (nodata_of values) >>= k) ≡ k (unwrap_or o (codes "-9999"))
bind_nodata fault [] None k e = refl
bind_nodata fault [] (Some v) k e = absurd (cc)
bind_nodata fault (v ∷ vs) None k e = absurd (cc)
bind_nodata fault (v ∷ []) (Some w) k e = ap k (cc)
bind_nodata fault (v ∷ w ∷ vs) (Some x) k e = absurd (cc)

pub front_values : (fault : GridFault) (pairs : List Pair) (given : Values) → AreValues pairs given → heading_of fault pairs ≡ heading_given fault given
unfolding heading_of heading_given
front_values fault pairs given h =
    bind_side fault (values_of Cols pairs) given.cols _ h.cols ∙ bind_same (ok_or given.cols fault) _ _ (λ cols.
    bind_side fault (values_of Rows pairs) given.rows _ h.rows ∙ bind_same (ok_or given.rows fault) _ _ (λ rows.
    bind_one fault (map placed (pairs_of X pairs)) given.x _ h.x ∙ bind_same (ok_or given.x fault) _ _ (λ x.
    bind_one fault (map placed (pairs_of Y pairs)) given.y _ h.y ∙ bind_same (ok_or given.y fault) _ _ (λ y.
    bind_one fault (values_of Size pairs) given.size _ h.size ∙ bind_same (ok_or given.size fault) _ _ (λ size.
    bind_nodata fault (values_of Nodata pairs) given.nodata _ h.nodata)))))
