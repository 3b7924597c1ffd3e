-- A head is read as what it says, and what is read as a head is one.
use Rattle.std.proofs.Common.{◌≡◌, ℕ, ◌*◌, ◌≤◌, ◌<◌, Bool, true, false, ◌&&◌, cond, List, [], ◌∷◌, ◌++◌, length, map, Some, None, Result, Ok, Err, refl, sym, ap, subst, ◌∙◌, append_assoc, mul_comm, mul-le-mul_left, le_trans, arith}
use Rattle.std.specs.Prelude.{is_some, is_none, nat_lt, unwrap_or}
use Rattle.std.specs.declared.option.Option.{Option}
use Rattle.std.specs.Option.{option_and_then}
use Rattle.std.specs.List.{list_all}
use Rattle.std.proofs.lemmas.List.{append-nil, length-map}
use Rattle.std.proofs.lemmas.List.Elements.{filter-append}
use Rattle.std.proofs.lemmas.List.Folds.{list_all-append}
use Rattle.std.proofs.lemmas.Bool.{and_parts, and_from, le-ltb, ltb-true, not_from_false}
use Rattle.grid_text.specs.declared.key.Key.{Key}
use Rattle.grid_text.specs.declared.key.Key.TheVariants.{Cols, Rows, X, Y, Size, Nodata}
use Rattle.grid_text.specs.declared.grid.Head.{Head}
use Rattle.grid_text.specs.declared.fault.GridFault.{GridFault}
use Rattle.grid_text.specs.declared.fault.GridKind.TheVariants as kinds
use Rattle.text_base.specs.Tokens.{Token}
use Rattle.text_base.specs.Numbers.{whole_number_of}
use Rattle.grid_text.specs.Key.{key_of, is_required, is_value_of, above_zero, side_of}
use Rattle.grid_text.specs.Form.{Pair, tokens_of_pairs, names, is_pair_of, pairs_of, values_of, may_stand, is_head_pair, ends_pairs, placed, nodata_of, IsHead}
use Rattle.grid_text.specs.Faults.{fault_at, side_before, are_too_many, is_too_large}
use Rattle.grid_text.specs.inside.Reading.{is_filled, is_taken, pair_taken, word_alone, pairs_from, Heading, first_or, some_or, heading_of}
use Rattle.text_base.proofs.Callers.{option_cases, bool_cases, bind_gives, bind_fails, ok_is, err_is, some_is, head_is}
use Rattle.grid_text.proofs.Tools.{one_of, one_long, nothing_before}
use Rattle.grid_text.proofs.Pairs.{IsFine, same_key-true, pairs_of-same}

-- ---- what a head has

nodata_long : (ps : List Pair) (nodata : List ℕ) → nodata_of (map (λ (p : Pair). p.value.bytes) ps) ≡ Some nodata → length ps ≤ 1
nodata_long [] nodata e = omega arith
nodata_long (p ∷ []) nodata e = omega arith
nodata_long (p ∷ q ∷ ps) nodata e = absurd (cc)

single_of : (pairs : List Pair) (rows cols : ℕ) (head : Head) (nodata : List ℕ) → IsHead pairs rows cols head nodata → (key : Key) → length (pairs_of key pairs) ≤ 1
single_of pairs rows cols head nodata h Cols = let o = one_of side_of (values_of Cols pairs) (Some cols) h.has_cols in one_long (λ (p : Pair). p.value.bytes) (pairs_of Cols pairs) o.element o.alone
single_of pairs rows cols head nodata h Rows = let o = one_of side_of (values_of Rows pairs) (Some rows) h.has_rows in one_long (λ (p : Pair). p.value.bytes) (pairs_of Rows pairs) o.element o.alone
single_of pairs rows cols head nodata h X = one_long placed (pairs_of X pairs) _ h.has_x
single_of pairs rows cols head nodata h Y = one_long placed (pairs_of Y pairs) _ h.has_y
single_of pairs rows cols head nodata h Size = one_long (λ (p : Pair). p.value.bytes) (pairs_of Size pairs) _ h.has_size
single_of pairs rows cols head nodata h Nodata = nodata_long (pairs_of Nodata pairs) nodata h.has_nodata

-- a list with an image of one element is not empty
not_empty : {A B : Type 0} (f : A → B) (xs : List A) (b : B) → map f xs ≡ b ∷ [] → xs ≡ [] → ⊥
not_empty f [] b e h = absurd (cc)
not_empty f (x ∷ xs) b e h = absurd (cc)

-- no required key lacks in a head
pub none_lacks : (pairs : List Pair) (rows cols : ℕ) (head : Head) (nodata : List ℕ) → IsHead pairs rows cols head nodata → (key : Key) → is_required key ≡ true → pairs_of key pairs ≡ [] → ⊥
none_lacks pairs rows cols head nodata h Cols needed = let o = one_of side_of (values_of Cols pairs) (Some cols) h.has_cols in not_empty (λ (p : Pair). p.value.bytes) (pairs_of Cols pairs) o.element o.alone
none_lacks pairs rows cols head nodata h Rows needed = let o = one_of side_of (values_of Rows pairs) (Some rows) h.has_rows in not_empty (λ (p : Pair). p.value.bytes) (pairs_of Rows pairs) o.element o.alone
none_lacks pairs rows cols head nodata h X needed = not_empty placed (pairs_of X pairs) _ h.has_x
none_lacks pairs rows cols head nodata h Y needed = not_empty placed (pairs_of Y pairs) _ h.has_y
none_lacks pairs rows cols head nodata h Size needed = not_empty (λ (p : Pair). p.value.bytes) (pairs_of Size pairs) _ h.has_size
none_lacks pairs rows cols head nodata h Nodata needed = absurd (cc)

-- ---- a head is read

-- the side before is no greater than the side of the whole
side_within : (before more : List Pair) (n : ℕ) → 0 < n → map side_of (map (λ (p : Pair). p.value.bytes) (before ++ more)) ≡ Some n ∷ [] → side_before (map (λ (p : Pair). p.value.bytes) before) ≤ n
side_within [] more n above e = omega arith
side_within (p ∷ before) more n above e =
    let is : side_of p.value.bytes ≡ Some n = head_is _ _ _ _ e in
    subst (λ o. unwrap_or o 1 ≤ n) (sym is) (omega arith)

few_so_far : (o : Option ℕ) (n m other : ℕ) → o ≡ Some n → other ≤ m → n * m ≤ 4194304 → are_too_many o other ≡ false
few_so_far o n m other is less few =
    let within : n * other ≤ 4194304 = le_trans (mul-le-mul_left n less) few in
    ap (λ p. are_too_many p other) is ∙ le-ltb 4194304 (n * other) within

-- the value that stands for a side of the whole
side_here : (key : Key) (before : List Pair) (p : Pair) (more : List Pair) (n : ℕ) → key_of p.word.bytes ≡ Some key → pairs_of key before ≡ [] → map side_of (values_of key (before ++ p ∷ more)) ≡ Some n ∷ [] → side_of p.value.bytes ≡ Some n
side_here key before p more n is new e =
    let whole : pairs_of key (before ++ p ∷ more) ≡ p ∷ pairs_of key more = filter-append (is_pair_of key) before (p ∷ more) ∙ ap (λ ps. ps ++ pairs_of key (p ∷ more)) new ∙ pairs_of-same key p more is in
    head_is _ _ _ _ (sym (ap (λ ps. map side_of (map (λ (q : Pair). q.value.bytes) ps)) whole) ∙ e)

side_other : (key : Key) (before : List Pair) (p : Pair) (more : List Pair) (n : ℕ) → 0 < n → map side_of (values_of key (before ++ p ∷ more)) ≡ Some n ∷ [] → side_before (values_of key before) ≤ n
side_other key before p more n above e =
    side_within (pairs_of key before) (pairs_of key (p ∷ more)) n above (sym (ap (λ ps. map side_of (map (λ (q : Pair). q.value.bytes) ps)) (filter-append (is_pair_of key) before (p ∷ more))) ∙ e)

not_large : (key : Key) (before : List Pair) (p : Pair) (more : List Pair) (rows cols : ℕ) (head : Head) (nodata : List ℕ) → IsHead (before ++ p ∷ more) rows cols head nodata → key_of p.word.bytes ≡ Some key → pairs_of key before ≡ [] → is_too_large key p.value.bytes before ≡ false
not_large Cols before p more rows cols head nodata h is new =
    few_so_far (side_of p.value.bytes) cols rows (side_before (values_of Rows before)) (side_here Cols before p more cols is new h.has_cols) (side_other Rows before p more rows h.within.some_rows h.has_rows) (subst (λ n. n ≤ 4194304) (mul_comm rows cols) h.within.few)
not_large Rows before p more rows cols head nodata h is new =
    few_so_far (side_of p.value.bytes) rows cols (side_before (values_of Cols before)) (side_here Rows before p more rows is new h.has_rows) (side_other Cols before p more cols h.within.some_cols h.has_cols) h.within.few
not_large X before p more rows cols head nodata h is new = refl
not_large Y before p more rows cols head nodata h is new = refl
not_large Size before p more rows cols head nodata h is new = refl
not_large Nodata before p more rows cols head nodata h is new = refl

pub ended_is : (token : Token) (more : List Token) → ends_pairs (token ∷ more) ≡ true → key_of token.bytes ≡ None
ended_is token more ended = option_cases (key_of token.bytes) (λ none. none) (λ key is. let bad : is_none (Some key) ≡ true = sym (ap (λ (o : Option Key). is_none o) is) ∙ ended in absurd (cc))

-- the pairs end at a token that is no key word
pub ends_read : (text_len : ℕ) (before : List Pair) (rest : List Token) → ends_pairs rest ≡ true → pairs_from text_len before rest ≡ Ok (before, rest)
unfolding pairs_from
ends_read text_len before [] ended = refl
ends_read text_len before (word ∷ []) ended = ap (word_alone text_len before word) (ended_is word [] ended)
ends_read text_len before (word ∷ value ∷ more) ended = ap (λ o. pair_taken before word value more o (pairs_from text_len (before ++ record { word = word; value = value } ∷ []) more)) (ended_is word (value ∷ more) ended)

-- a pair that is taken
pub pair_read : (text_len : ℕ) (before : List Pair) (p : Pair) (rest : List Token) (key : Key) → key_of p.word.bytes ≡ Some key → pairs_of key before ≡ [] → is_value_of key p.value.bytes ≡ true → is_too_large key p.value.bytes before ≡ false
    → pairs_from text_len before (p.word ∷ p.value ∷ rest) ≡ pairs_from text_len (before ++ p ∷ []) rest
unfolding pairs_from
pair_read text_len before p rest key is new good small =
    let next : Result (List Pair × List Token) GridFault = pairs_from text_len (before ++ p ∷ []) rest in
    let taken : is_taken key p.value.bytes before ≡ true = and_from _ _ good (not_from_false _ small) in
    ap (λ o. pair_taken before p.word p.value rest o next) is
    ∙ ap (λ ps. cond (is_filled ps) (Err (fault_at kinds.Head p.word.at)) (cond (is_taken key p.value.bytes before) next (Err (fault_at kinds.Head p.value.at)))) new
    ∙ ap (λ b. cond b next (Err (fault_at kinds.Head p.value.at))) taken

-- the key of a pair
key_is : {P : Type 0} (p : Pair) → is_head_pair p ≡ true → ((key : Key) → key_of p.word.bytes ≡ Some key → is_value_of key p.value.bytes ≡ true → P) → P
key_is p valued k = option_cases (key_of p.word.bytes)
    (λ none. let bad : may_stand None p.value.bytes ≡ true = sym (ap (λ o. may_stand o p.value.bytes) none) ∙ valued in absurd (cc))
    (λ key is. k key is (sym (ap (λ o. may_stand o p.value.bytes) is) ∙ valued))

pub pairs_run : (text_len : ℕ) (before more : List Pair) (rest : List Token) (rows cols : ℕ) (head : Head) (nodata : List ℕ) → IsHead (before ++ more) rows cols head nodata → ends_pairs rest ≡ true → pairs_from text_len before (tokens_of_pairs more ++ rest) ≡ Ok (before ++ more, rest)
pairs_run text_len before [] rest rows cols head nodata h ended = ends_read text_len before rest ended ∙ ap (λ ps. Ok (ps, rest)) (sym (append-nil before))
pairs_run text_len before (p ∷ more) rest rows cols head nodata h ended =
    let valued = and_parts (is_head_pair p) (list_all is_head_pair more) (and_parts (list_all is_head_pair before) (is_head_pair p && list_all is_head_pair more) (sym (list_all-append is_head_pair before (p ∷ more)) ∙ h.valued)).1 in
    key_is p valued.0 (λ key is good.
    let once : length (pairs_of key before ++ p ∷ pairs_of key more) ≤ 1 = subst (λ (ps : List Pair). length ps ≤ 1) (filter-append (is_pair_of key) before (p ∷ more) ∙ ap (λ ps. pairs_of key before ++ ps) (pairs_of-same key p more is)) (single_of (before ++ p ∷ more) rows cols head nodata h key) in
    let new : pairs_of key before ≡ [] = nothing_before (pairs_of key before) (pairs_of key more) p once in
    let joined : (before ++ p ∷ []) ++ more ≡ before ++ p ∷ more = append_assoc before (p ∷ []) more in
    pair_read text_len before p (tokens_of_pairs more ++ rest) key is new good (not_large key before p more rows cols head nodata h is new)
    ∙ pairs_run text_len (before ++ p ∷ []) more rest rows cols head nodata (subst (λ ps. IsHead ps rows cols head nodata) (sym joined) h) ended
    ∙ ap (λ ps. Ok (ps, rest)) joined)

-- ---- what a head says is read from it

front_ok : (fault : GridFault) (pairs : List Pair) (c r s : List ℕ) (cols rows : ℕ) (x y : Bool × List ℕ) (nodata : List ℕ)
    → values_of Cols pairs ≡ c ∷ [] → side_of c ≡ Some cols → values_of Rows pairs ≡ r ∷ [] → side_of r ≡ Some rows
    → map placed (pairs_of X pairs) ≡ x ∷ [] → map placed (pairs_of Y pairs) ≡ y ∷ [] → values_of Size pairs ≡ s ∷ [] → nodata_of (values_of Nodata pairs) ≡ Some nodata
    → heading_of fault pairs ≡ Ok (record { rows = rows; cols = cols; head = record { x_center = x.0; y_center = y.0; x = x.1; y = y.1; size = s }; nodata = nodata })
unfolding heading_of
front_ok fault pairs c r s cols rows x y nodata ec ec2 er er2 ex ey es en = rw (ec, ec2, er, er2, ex, ey, es, en) refl

pub front_is : (fault : GridFault) (pairs : List Pair) (rows cols : ℕ) (head : Head) (nodata : List ℕ) → IsHead pairs rows cols head nodata → heading_of fault pairs ≡ Ok (record { rows = rows; cols = cols; head = head; nodata = nodata })
front_is fault pairs rows cols head nodata h =
    let c = one_of side_of (values_of Cols pairs) (Some cols) h.has_cols in
    let r = one_of side_of (values_of Rows pairs) (Some rows) h.has_rows in
    front_ok fault pairs c.element r.element head.size cols rows (head.x_center, head.x) (head.y_center, head.y) nodata c.alone c.image r.alone r.image h.has_x h.has_y h.has_size h.has_nodata

-- ---- what is read as a head is one

first_one : {A : Type 0} (fault : GridFault) (xs : List A) (x : A) → length xs ≤ 1 → first_or fault xs ≡ Ok x → xs ≡ x ∷ []
first_one fault [] x short e = absurd (cc)
first_one fault (y ∷ []) x short e = ap (λ z. z ∷ []) (ok_is _ _ e)
first_one fault (y ∷ z ∷ zs) x short e = absurd (omega arith)

some_found : {A : Type 0} (fault : GridFault) (o : Option A) (x : A) → some_or fault o ≡ Ok x → o ≡ Some x
some_found fault None x e = absurd (cc)
some_found {A = A} fault (Some y) x e = ap (λ (z : A). Some z) (ok_is _ _ e)

above_pos : (m n : ℕ) → above_zero m ≡ Some n → 0 < n
above_pos m n e = bool_cases (nat_lt 0 m)
    (λ lt. let is : m ≡ n = some_is _ _ (sym (ap (λ b. cond b (Some m) None) lt) ∙ e) in subst (λ k. 0 < k) is (ltb-true 0 m lt))
    (λ not_lt. let bad : None ≡ Some n = sym (ap (λ b. cond b (Some m) None) not_lt) ∙ e in absurd (cc))

number_pos : (o : Option ℕ) (n : ℕ) → option_and_then above_zero o ≡ Some n → 0 < n
number_pos None n e = absurd (cc)
number_pos (Some m) n e = above_pos m n e

side_pos : (value : List ℕ) (n : ℕ) → side_of value ≡ Some n → 0 < n
unfolding side_of
side_pos value n e = number_pos (whole_number_of 7 value) n e

values_long : (key : Key) (pairs : List Pair) → length (pairs_of key pairs) ≤ 1 → length (values_of key pairs) ≤ 1
values_long key pairs h = subst (λ n. n ≤ 1) (sym (length-map (pairs_of key pairs) (λ (p : Pair). p.value.bytes))) h

placed_long : (key : Key) (pairs : List Pair) → length (pairs_of key pairs) ≤ 1 → length (map placed (pairs_of key pairs)) ≤ 1
placed_long key pairs h = subst (λ n. n ≤ 1) (sym (length-map (pairs_of key pairs) placed)) h

one_side : (value : List ℕ) (values : List (List ℕ)) (n : ℕ) → values ≡ value ∷ [] → side_of value ≡ Some n → map side_of values ≡ Some n ∷ []
one_side value values n alone is = ap (map side_of) alone ∙ ap (λ o. o ∷ []) is

head_made : (pairs : List Pair) (fine : IsFine pairs) (c r s : List ℕ) (cols rows : ℕ) (x y : Bool × List ℕ) (nodata : List ℕ)
    → values_of Cols pairs ≡ c ∷ [] → side_of c ≡ Some cols → values_of Rows pairs ≡ r ∷ [] → side_of r ≡ Some rows
    → map placed (pairs_of X pairs) ≡ x ∷ [] → map placed (pairs_of Y pairs) ≡ y ∷ [] → values_of Size pairs ≡ s ∷ [] → nodata_of (values_of Nodata pairs) ≡ Some nodata
    → IsHead pairs rows cols (record { x_center = x.0; y_center = y.0; x = x.1; y = y.1; size = s }) nodata
head_made pairs fine c r s cols rows x y nodata ec ec2 er er2 ex ey es en = record {
  valued = fine.valued;
  has_cols = one_side c (values_of Cols pairs) cols ec ec2;
  has_rows = one_side r (values_of Rows pairs) rows er er2;
  has_x = ex;
  has_y = ey;
  has_size = es;
  has_nodata = en;
  within = record {
    some_rows = side_pos r rows er2;
    some_cols = side_pos c cols ec2;
    few = fine.small rows cols (one_side r (values_of Rows pairs) rows er er2) (one_side c (values_of Cols pairs) cols ec ec2);
  };
}

pub front_gives : (fault : GridFault) (pairs : List Pair) (front : Heading) → IsFine pairs → heading_of fault pairs ≡ Ok front → IsHead pairs front.rows front.cols front.head front.nodata
unfolding heading_of
front_gives fault pairs front fine e =
    bind_gives (first_or fault (values_of Cols pairs)) _ front e (λ c ec e1.
    bind_gives (some_or fault (side_of c)) _ front e1 (λ cols ecols e2.
    bind_gives (first_or fault (values_of Rows pairs)) _ front e2 (λ r er e3.
    bind_gives (some_or fault (side_of r)) _ front e3 (λ rows erows e4.
    bind_gives (first_or fault (map placed (pairs_of X pairs))) _ front e4 (λ x ex e5.
    bind_gives (first_or fault (map placed (pairs_of Y pairs))) _ front e5 (λ y ey e6.
    bind_gives (first_or fault (values_of Size pairs)) _ front e6 (λ s es e7.
    bind_gives (some_or fault (nodata_of (values_of Nodata pairs))) _ front e7 (λ nodata en e8.
    subst (λ (f : Heading). IsHead pairs f.rows f.cols f.head f.nodata) (ok_is _ _ e8)
    (head_made pairs fine c r s cols rows x y nodata
    (first_one fault _ c (values_long Cols pairs (fine.single Cols)) ec) (some_found fault _ cols ecols)
    (first_one fault _ r (values_long Rows pairs (fine.single Rows)) er) (some_found fault _ rows erows)
    (first_one fault _ x (placed_long X pairs (fine.single X)) ex)
    (first_one fault _ y (placed_long Y pairs (fine.single Y)) ey)
    (first_one fault _ s (values_long Size pairs (fine.single Size)) es)
    (some_found fault _ nodata en))))))))))

-- ---- where no head is read a key lacks

-- a required key has no pair, and the fault is this one
pub record Lacks (pairs : List Pair) (fault told : GridFault) : Type 0 where
  pub key : Key
  pub needed : is_required key ≡ true
  pub none : pairs_of key pairs ≡ []
  pub is : told ≡ fault

first_lacks : {A B : Type 0} (fault told : GridFault) (f : A → B) (xs : List A) → first_or fault (map f xs) ≡ Err told → (xs ≡ []) × (told ≡ fault)
first_lacks fault told f [] e = (refl, sym (err_is _ _ e))
first_lacks fault told f (x ∷ xs) e = absurd (cc)

some_lacks : {A : Type 0} (fault told : GridFault) (o : Option A) → some_or fault o ≡ Err told → o ≡ None
some_lacks fault told None e = refl
some_lacks fault told (Some x) e = absurd (cc)

-- the word of a pair of the key names it
names_is : (o : Option Key) (key : Key) → names o key ≡ true → o ≡ Some key
names_is None key e = absurd (cc)
names_is (Some named) key e = ap (λ (k : Key). Some k) (same_key-true named key e)

-- a value of the key is one that it may have
pub value_is : (key : Key) (pairs : List Pair) (p : Pair) (ps : List Pair) → list_all is_head_pair pairs ≡ true → pairs_of key pairs ≡ p ∷ ps → is_value_of key p.value.bytes ≡ true
value_is key [] p ps valued e = absurd (cc)
value_is key (q ∷ qs) p ps valued e =
    let parts = and_parts (is_head_pair q) (list_all is_head_pair qs) valued in
    bool_cases (is_pair_of key q)
    (λ own. let here : q ∷ pairs_of key qs ≡ p ∷ ps = sym (ap (λ b. cond b (q ∷ pairs_of key qs) (pairs_of key qs)) own) ∙ e in
    let good : is_value_of key q.value.bytes ≡ true = sym (ap (λ o. may_stand o q.value.bytes) (names_is (key_of q.word.bytes) key own)) ∙ parts.0 in
    subst (λ (w : Pair). is_value_of key w.value.bytes ≡ true) (head_is _ _ _ _ here) good)
    (λ other. value_is key qs p ps parts.1 (sym (ap (λ b. cond b (q ∷ pairs_of key qs) (pairs_of key qs)) other) ∙ e))

-- a side that stands first is one
side_stands : (key : Key) (ps : List Pair) (fault : GridFault) (value : List ℕ) → ((p : Pair) (qs : List Pair) → ps ≡ p ∷ qs → is_some (side_of p.value.bytes) ≡ true) → first_or fault (map (λ (p : Pair). p.value.bytes) ps) ≡ Ok value → side_of value ≡ None → ⊥
side_stands key [] fault value good e none = absurd (cc)
side_stands key (p ∷ ps) fault value good e none =
    let is : p.value.bytes ≡ value = ok_is _ _ e in
    let empty : Option ℕ = None in
    let bad : is_some empty ≡ true = sym (ap (λ (o : Option ℕ). is_some o) (ap side_of is ∙ none)) ∙ good p ps refl in
    absurd (cc)

nodata_stands : (values : List (List ℕ)) → length values ≤ 1 → nodata_of values ≡ None → ⊥
nodata_stands [] short e = absurd (cc)
nodata_stands (v ∷ []) short e = absurd (cc)
nodata_stands (v ∷ w ∷ ws) short e = absurd (omega arith)

pub front_lacks : (fault told : GridFault) (pairs : List Pair) → IsFine pairs → heading_of fault pairs ≡ Err told → Lacks pairs fault told
unfolding heading_of
front_lacks fault told pairs fine e =
    bind_fails (first_or fault (values_of Cols pairs)) _ told e
    (λ none. let l = first_lacks fault told _ (pairs_of Cols pairs) none in record { key = Cols; needed = refl; none = l.0; is = l.1 })
    (λ c ec e1. bind_fails (some_or fault (side_of c)) _ told e1
    (λ none. absurd (side_stands Cols (pairs_of Cols pairs) fault c (λ p ps is. value_is Cols pairs p ps fine.valued is) ec (some_lacks fault told _ none)))
    (λ cols ecols e2. bind_fails (first_or fault (values_of Rows pairs)) _ told e2
    (λ none. let l = first_lacks fault told _ (pairs_of Rows pairs) none in record { key = Rows; needed = refl; none = l.0; is = l.1 })
    (λ r er e3. bind_fails (some_or fault (side_of r)) _ told e3
    (λ none. absurd (side_stands Rows (pairs_of Rows pairs) fault r (λ p ps is. value_is Rows pairs p ps fine.valued is) er (some_lacks fault told _ none)))
    (λ rows erows e4. bind_fails (first_or fault (map placed (pairs_of X pairs))) _ told e4
    (λ none. let l = first_lacks fault told _ (pairs_of X pairs) none in record { key = X; needed = refl; none = l.0; is = l.1 })
    (λ x ex e5. bind_fails (first_or fault (map placed (pairs_of Y pairs))) _ told e5
    (λ none. let l = first_lacks fault told _ (pairs_of Y pairs) none in record { key = Y; needed = refl; none = l.0; is = l.1 })
    (λ y ey e6. bind_fails (first_or fault (values_of Size pairs)) _ told e6
    (λ none. let l = first_lacks fault told _ (pairs_of Size pairs) none in record { key = Size; needed = refl; none = l.0; is = l.1 })
    (λ s es e7. bind_fails (some_or fault (nodata_of (values_of Nodata pairs))) _ told e7
    (λ none. absurd (nodata_stands (values_of Nodata pairs) (values_long Nodata pairs (fine.single Nodata)) (some_lacks fault told _ none)))
    (λ nodata en e8. absurd (cc)))))))))
