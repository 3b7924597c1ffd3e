-- What the pairs that are read keep.
use Rattle.std.proofs.Common.{◌≡◌, ℕ, ◌*◌, ◌≤◌, true, false, ◌&&◌, not, cond, List, [], ◌∷◌, ◌++◌, length, map, Some, None, Result, Ok, Err, refl, sym, ap, subst, ◌∙◌, append_assoc, mul_comm, arith}
use Rattle.std.specs.Prelude.{is_none, nat_lt, unwrap_or}
use Rattle.std.specs.declared.option.Option.{Option}
use Rattle.std.specs.List.{list_all}
use Rattle.std.proofs.lemmas.List.{append-nil}
use Rattle.std.proofs.lemmas.List.Elements.{filter-append}
use Rattle.std.proofs.lemmas.List.Folds.{list_all-append}
use Rattle.std.proofs.lemmas.Bool.{and_parts, and_from, ltb-false, not-true}
use Rattle.grid_text.specs.declared.key.Key.{Key}
use Rattle.grid_text.specs.declared.key.Key.TheVariants.{Cols, Rows, X, Y, Size, Nodata}
use Rattle.grid_text.specs.declared.fault.GridFault.{GridFault}
use Rattle.text_base.specs.Tokens.{Token}
use Rattle.grid_text.specs.Key.{key_of, same_key, is_value_of, side_of}
use Rattle.grid_text.specs.Form.{Pair, tokens_of_pairs, names, is_pair_of, pairs_of, values_of, may_stand, is_head_pair, ends_pairs}
use Rattle.grid_text.specs.declared.fault.GridKind.TheVariants as kinds
use Rattle.grid_text.specs.Faults.{fault_at, side_before, are_too_many, is_too_large}
use Rattle.grid_text.specs.inside.Reading.{is_filled, is_taken, pair_taken, word_alone, pairs_from}
use Rattle.text_base.proofs.Callers.{option_cases, bool_cases, ok_is, head_is}
use Rattle.grid_text.proofs.Tools.{not_filled}

-- ---- keys

pub same_key-refl : (key : Key) → same_key key key ≡ true
same_key-refl Cols = refl
same_key-refl Rows = refl
same_key-refl X = refl
same_key-refl Y = refl
same_key-refl Size = refl
same_key-refl Nodata = refl

pub same_key-true : (a b : Key) → same_key a b ≡ true → a ≡ b
same_key-true Cols Cols e = refl
same_key-true Rows Rows e = refl
same_key-true X X e = refl
same_key-true Y Y e = refl
same_key-true Size Size e = refl
same_key-true Nodata Nodata e = refl
same_key-true _ _ e = absurd (cc)

-- a pair of the key counts
pub pairs_of-same : (key : Key) (p : Pair) (ps : List Pair) → key_of p.word.bytes ≡ Some key → pairs_of key (p ∷ ps) ≡ p ∷ pairs_of key ps
pairs_of-same key p ps is =
    ap (λ (o : Option Key). cond (names o key) (p ∷ pairs_of key ps) (pairs_of key ps)) is
    ∙ ap (λ b. cond b (p ∷ pairs_of key ps) (pairs_of key ps)) (same_key-refl key)

-- a pair of another key does not
pub pairs_of-other : (named key : Key) (p : Pair) (ps : List Pair) → key_of p.word.bytes ≡ Some named → same_key named key ≡ false → pairs_of key (p ∷ ps) ≡ pairs_of key ps
pairs_of-other named key p ps is apart =
    ap (λ (o : Option Key). cond (names o key) (p ∷ pairs_of key ps) (pairs_of key ps)) is
    ∙ ap (λ b. cond b (p ∷ pairs_of key ps) (pairs_of key ps)) apart

pub pairs_of-push_same : (key : Key) (before : List Pair) (p : Pair) → key_of p.word.bytes ≡ Some key → pairs_of key (before ++ p ∷ []) ≡ pairs_of key before ++ p ∷ []
pairs_of-push_same key before p is = filter-append (is_pair_of key) before (p ∷ []) ∙ ap (λ ps. pairs_of key before ++ ps) (pairs_of-same key p [] is)

pub pairs_of-push_other : (named key : Key) (before : List Pair) (p : Pair) → key_of p.word.bytes ≡ Some named → same_key named key ≡ false → pairs_of key (before ++ p ∷ []) ≡ pairs_of key before
pairs_of-push_other named key before p is apart =
    filter-append (is_pair_of key) before (p ∷ []) ∙ ap (λ ps. pairs_of key before ++ ps) (pairs_of-other named key p [] is apart) ∙ append-nil (pairs_of key before)

-- ---- pairs without a fault

-- Each has a value that its key may have, no key stands twice, and the sides give no more cells than may be.
pub record IsFine (pairs : List Pair) : Type 0 where
  pub valued : list_all is_head_pair pairs ≡ true
  pub single : (key : Key) → length (pairs_of key pairs) ≤ 1
  pub small : (rows cols : ℕ) → map side_of (values_of Rows pairs) ≡ Some rows ∷ [] → map side_of (values_of Cols pairs) ≡ Some cols ∷ [] → rows * cols ≤ 4194304

pub nothing_fine : IsFine []
nothing_fine = record { valued = refl; single = λ key. omega arith; small = λ rows cols r c. absurd (cc) }

-- where a side stands once, it is the side before
pub side_before_one : (values : List (List ℕ)) (n : ℕ) → map side_of values ≡ Some n ∷ [] → side_before values ≡ n
side_before_one [] n e = absurd (cc)
side_before_one (v ∷ vs) n e = ap (λ o. unwrap_or o 1) (head_is _ _ _ _ e)

not_too_many : (o : Option ℕ) (n other m : ℕ) → o ≡ Some n → other ≡ m → are_too_many o other ≡ false → n * m ≤ 4194304
not_too_many o n other m is same h =
    ltb-false 4194304 (n * m) (sym (ap (λ p. are_too_many p other) is ∙ ap (λ k. nat_lt 4194304 (n * k)) same) ∙ h)

-- the sides behind one more pair of another key
small_same : (before : List Pair) (p : Pair) (key : Key) → IsFine before → key_of p.word.bytes ≡ Some key → same_key key Rows ≡ false → same_key key Cols ≡ false
    → (rows cols : ℕ) → map side_of (values_of Rows (before ++ p ∷ [])) ≡ Some rows ∷ [] → map side_of (values_of Cols (before ++ p ∷ [])) ≡ Some cols ∷ [] → rows * cols ≤ 4194304
small_same before p key fine is no_rows no_cols rows cols r c =
    fine.small rows cols
    (sym (ap (λ ps. map side_of (map (λ (q : Pair). q.value.bytes) ps)) (pairs_of-push_other key Rows before p is no_rows)) ∙ r)
    (sym (ap (λ ps. map side_of (map (λ (q : Pair). q.value.bytes) ps)) (pairs_of-push_other key Cols before p is no_cols)) ∙ c)

-- the sides behind one more pair
small_push : (before : List Pair) (word value : Token) (key : Key) → IsFine before → key_of word.bytes ≡ Some key → pairs_of key before ≡ [] → is_too_large key value.bytes before ≡ false
    → (rows cols : ℕ) → map side_of (values_of Rows (before ++ record { word = word; value = value } ∷ [])) ≡ Some rows ∷ [] → map side_of (values_of Cols (before ++ record { word = word; value = value } ∷ [])) ≡ Some cols ∷ [] → rows * cols ≤ 4194304
small_push before word value Rows fine is new ok rows cols r c =
    let p : Pair = record { word = word; value = value } in
    let now : pairs_of Rows (before ++ p ∷ []) ≡ p ∷ [] = pairs_of-push_same Rows before p is ∙ ap (λ ps. ps ++ p ∷ []) new in
    let side : side_of value.bytes ≡ Some rows = head_is _ _ _ _ (sym (ap (λ ps. map side_of (map (λ (q : Pair). q.value.bytes) ps)) now) ∙ r) in
    let other : map side_of (values_of Cols before) ≡ Some cols ∷ [] = sym (ap (λ ps. map side_of (map (λ (q : Pair). q.value.bytes) ps)) (pairs_of-push_other Rows Cols before p is refl)) ∙ c in
    not_too_many (side_of value.bytes) rows (side_before (values_of Cols before)) cols side (side_before_one (values_of Cols before) cols other) ok
small_push before word value Cols fine is new ok rows cols r c =
    let p : Pair = record { word = word; value = value } in
    let now : pairs_of Cols (before ++ p ∷ []) ≡ p ∷ [] = pairs_of-push_same Cols before p is ∙ ap (λ ps. ps ++ p ∷ []) new in
    let side : side_of value.bytes ≡ Some cols = head_is _ _ _ _ (sym (ap (λ ps. map side_of (map (λ (q : Pair). q.value.bytes) ps)) now) ∙ c) in
    let other : map side_of (values_of Rows before) ≡ Some rows ∷ [] = sym (ap (λ ps. map side_of (map (λ (q : Pair). q.value.bytes) ps)) (pairs_of-push_other Cols Rows before p is refl)) ∙ r in
    let few : cols * rows ≤ 4194304 = not_too_many (side_of value.bytes) cols (side_before (values_of Rows before)) rows side (side_before_one (values_of Rows before) rows other) ok in
    subst (λ n. n ≤ 4194304) (mul_comm cols rows) few
small_push before word value X fine is new ok rows cols r c = small_same before (record { word = word; value = value }) X fine is refl refl rows cols r c
small_push before word value Y fine is new ok rows cols r c = small_same before (record { word = word; value = value }) Y fine is refl refl rows cols r c
small_push before word value Size fine is new ok rows cols r c = small_same before (record { word = word; value = value }) Size fine is refl refl rows cols r c
small_push before word value Nodata fine is new ok rows cols r c = small_same before (record { word = word; value = value }) Nodata fine is refl refl rows cols r c

-- one more pair without a fault
pub fine_push : (before : List Pair) (word value : Token) (key : Key) → IsFine before → key_of word.bytes ≡ Some key → pairs_of key before ≡ [] → is_value_of key value.bytes ≡ true → is_too_large key value.bytes before ≡ false
    → IsFine (before ++ record { word = word; value = value } ∷ [])
fine_push before word value key fine is new good ok =
    let p : Pair = record { word = word; value = value } in
    let valued : is_head_pair p ≡ true = ap (λ (o : Option Key). may_stand o value.bytes) is ∙ good in
    record {
      valued = list_all-append is_head_pair before (p ∷ []) ∙ and_from (list_all is_head_pair before) (is_head_pair p && true) fine.valued (and_from (is_head_pair p) true valued refl);
      single = λ k. bool_cases (same_key key k)
          (λ same. let k_is : key ≡ k = same_key-true key k same in
          subst (λ (w : Key). length (pairs_of w (before ++ p ∷ [])) ≤ 1) k_is
          (subst (λ (ps : List Pair). length ps ≤ 1) (sym (pairs_of-push_same key before p is ∙ ap (λ ps. ps ++ p ∷ []) new)) (omega arith)))
          (λ apart. subst (λ (ps : List Pair). length ps ≤ 1) (sym (pairs_of-push_other key k before p is apart)) (fine.single k));
      small = small_push before word value key fine is new ok;
    }

-- what is_taken says
pub taken_says : (key : Key) (value : List ℕ) (before : List Pair) → is_taken key value before ≡ true → (is_value_of key value ≡ true) × (is_too_large key value before ≡ false)
taken_says key value before h =
    let p = and_parts (is_value_of key value) (not (is_too_large key value before)) h in
    (p.0, not-true (is_too_large key value before) p.1)

-- a token that is no key word ends the pairs
pub ends_at : (token : Token) (more : List Token) → key_of token.bytes ≡ None → ends_pairs (token ∷ more) ≡ true
ends_at token more is = ap (λ (o : Option Key). is_none o) is

-- ---- what is read

-- Behind these pairs, more were read up to the rest, and all of them are without a fault.
pub record Stops (before : List Pair) (tokens : List Token) (all : List Pair) (rest : List Token) : Type 0 where
  pub more : List Pair
  pub joined : all ≡ before ++ more
  pub parts : tokens ≡ tokens_of_pairs more ++ rest
  pub fine : IsFine all
  pub ended : ends_pairs rest ≡ true

-- where nothing more is read
stops_here : (before : List Pair) (tokens : List Token) (all : List Pair) (rest : List Token) → IsFine before → ends_pairs tokens ≡ true → ◌≡◌ {A = Result (List Pair × List Token) GridFault} (Ok (before, tokens)) (Ok (all, rest)) → Stops before tokens all rest
stops_here before tokens all rest fine ended e =
    let same : (before, tokens) ≡ (all, rest) = ok_is _ _ e in
    let all_is : before ≡ all = ap (λ (x : List Pair × List Token). x.0) same in
    let rest_is : tokens ≡ rest = ap (λ (x : List Pair × List Token). x.1) same in
    record {
      more = [];
      joined = sym all_is ∙ sym (append-nil before);
      parts = rest_is;
      fine = subst IsFine all_is fine;
      ended = subst (λ ts. ends_pairs ts ≡ true) rest_is ended;
    }

-- where a pair is read before
stops_behind : (before : List Pair) (p : Pair) (tokens : List Token) (all : List Pair) (rest : List Token) → Stops (before ++ p ∷ []) tokens all rest → Stops before (p.word ∷ p.value ∷ tokens) all rest
stops_behind before p tokens all rest s = record {
  more = p ∷ s.more;
  joined = s.joined ∙ append_assoc before (p ∷ []) s.more;
  parts = ap (λ ts. p.word ∷ p.value ∷ ts) s.parts;
  fine = s.fine;
  ended = s.ended;
}

pub pairs_read : (text_len : ℕ) (before : List Pair) (tokens : List Token) (all : List Pair) (rest : List Token) → IsFine before → pairs_from text_len before tokens ≡ Ok (all, rest) → Stops before tokens all rest
unfolding pairs_from
pairs_read text_len before [] all rest fine e = stops_here before [] all rest fine refl e
pairs_read text_len before (word ∷ []) all rest fine e =
    option_cases (key_of word.bytes)
    (λ none. stops_here before (word ∷ []) all rest fine (ends_at word [] none) (sym (ap (word_alone text_len before word) none) ∙ e))
    (λ key is. let bad = sym (ap (word_alone text_len before word) is) ∙ e in absurd (cc))
pairs_read text_len before (word ∷ value ∷ more) all rest fine e =
    let p : Pair = record { word = word; value = value } in
    let next : Result (List Pair × List Token) GridFault = pairs_from text_len (before ++ p ∷ []) more in
    option_cases (key_of word.bytes)
    (λ none. stops_here before (word ∷ value ∷ more) all rest fine (ends_at word (value ∷ more) none) (sym (ap (λ o. pair_taken before word value more o next) none) ∙ e))
    (λ key is. let told : pair_taken before word value more (Some key) next ≡ Ok (all, rest) = sym (ap (λ o. pair_taken before word value more o next) is) ∙ e in
    bool_cases (is_filled (pairs_of key before))
    (λ again. let bad = sym (ap (λ b. cond b (Err (fault_at kinds.Head word.at)) (cond (is_taken key value.bytes before) next (Err (fault_at kinds.Head value.at)))) again) ∙ told in absurd (cc))
    (λ new. let told2 : cond (is_taken key value.bytes before) next (Err (fault_at kinds.Head value.at)) ≡ Ok (all, rest) = sym (ap (λ b. cond b (Err (fault_at kinds.Head word.at)) (cond (is_taken key value.bytes before) next (Err (fault_at kinds.Head value.at)))) new) ∙ told in
    bool_cases (is_taken key value.bytes before)
    (λ taken. let says = taken_says key value.bytes before taken in
    stops_behind before p more all rest (pairs_read text_len (before ++ p ∷ []) more all rest (fine_push before word value key fine is (not_filled _ new) says.0 says.1) (sym (ap (λ b. cond b next (Err (fault_at kinds.Head value.at))) taken) ∙ told2)))
    (λ bad. let bad2 = sym (ap (λ b. cond b next (Err (fault_at kinds.Head value.at))) bad) ∙ told2 in absurd (cc))))
