-- The first fault of a head.
use Rattle.std.proofs.Common.{◌≡◌, ℕ, ◌+◌, ◌≤◌, ◌<◌, true, false, not, cond, List, [], ◌∷◌, ◌++◌, Some, None, Result, Ok, Err, refl, sym, ap, subst, ◌∙◌, append_assoc, ◌⊎◌, inl, inr, arith}
use Rattle.std.specs.Prelude.{is_some}
use Rattle.std.specs.declared.option.Option.{Option}
use Rattle.std.specs.List.{list_all}
use Rattle.std.proofs.lemmas.List.{append-nil}
use Rattle.std.proofs.lemmas.Bool.{and_parts, and_from, and_cases, not-false}
use Rattle.grid_text.specs.declared.key.Key.{Key}
use Rattle.grid_text.specs.declared.fault.GridFault.{GridFault}
use Rattle.grid_text.specs.declared.fault.GridKind.TheVariants as kinds
use Rattle.text_base.specs.Tokens.{Token}
use Rattle.grid_text.specs.Key.{key_of, is_value_of}
use Rattle.grid_text.specs.Form.{Pair, tokens_of_pairs, pairs_of, ends_pairs}
use Rattle.grid_text.specs.Faults.{fault_at, place_of, is_too_large, HeadFault, Again, NoValue, TooLarge, Lacking, Alone}
use Rattle.grid_text.specs.inside.Reading.{is_filled, is_taken, pair_taken, word_alone, pairs_from}
use Rattle.text_base.proofs.Callers.{InOrder, bool_cases, err_is, head_is, ok_is, option_cases, order_behind, order_end, some_is, tail_is}
use Rattle.grid_text.proofs.Tools.{not_filled, filled_or_not, filled}
use Rattle.grid_text.proofs.Pairs.{taken_says, ends_at}
use Rattle.grid_text.proofs.Heads.{ended_is, Lacks}

-- one fault stands before the other, or they are one
abbrev pub Apart : GridFault → GridFault → Type 0
Apart first other = (first.at < other.at) ⊎ (first ≡ other)

abbrev pub Keyed : List Pair → Type 0
Keyed pairs = list_all (λ (pair : Pair). is_some (key_of pair.word.bytes)) pairs ≡ true

module _ (text_len : ℕ) where
  -- ---- what a fault is, by where it stands

  -- a fault behind pairs stands behind them
  fault_behind : (from : ℕ) (pairs : List Pair) (rest : List Token) (g : GridFault) → InOrder from text_len rest → HeadFault text_len pairs rest g → from ≤ g.at
  fault_behind from pairs rest g order (Again word more key parts is again at) =
      let o = subst (InOrder from text_len) parts order in
      let place : g.at ≡ word.at = ap (λ (f : GridFault). f.at) at in omega (arith, o.0)
  fault_behind from pairs rest g order (NoValue word value more key parts is bad at) =
      let o = subst (InOrder from text_len) parts order in
      let place : g.at ≡ value.at = ap (λ (f : GridFault). f.at) at in
      omega (arith, o.0, o.1.0)
  fault_behind from pairs rest g order (TooLarge word value more key parts is bad at) =
      let o = subst (InOrder from text_len) parts order in
      let place : g.at ≡ value.at = ap (λ (f : GridFault). f.at) at in
      omega (arith, o.0, o.1.0)
  fault_behind from pairs rest g order (Lacking key ended needed none at) =
      let place : g.at ≡ place_of text_len rest = ap (λ (f : GridFault). f.at) at in
      subst (λ n. from ≤ n) (sym place) (place_behind from rest order)
    where
      place_behind : (from : ℕ) (rest : List Token) → InOrder from text_len rest → from ≤ place_of text_len rest
      place_behind from [] order = order
      place_behind from (t ∷ ts) order = order.0
  fault_behind from pairs rest g order (Alone word key parts is at) =
      let place : g.at ≡ text_len = ap (λ (f : GridFault). f.at) at in
      subst (λ n. from ≤ n) (sym place) (order_end from text_len rest order)

  -- a key word and its value that are taken have no fault
  taken_right : (pairs : List Pair) (word value : Token) (more : List Token) (key : Key) (g : GridFault) → key_of word.bytes ≡ Some key → pairs_of key pairs ≡ [] → is_taken key value.bytes pairs ≡ true → HeadFault text_len pairs (word ∷ value ∷ more) g → ⊥
  taken_right pairs word value more key g is new taken (Again w m k parts is2 again at) =
      let same : k ≡ key = some_is _ _ (sym (subst (λ (t : Token). key_of t.bytes ≡ Some k) (sym (head_is _ _ _ _ parts)) is2) ∙ is) in
      again (ap (λ q. pairs_of q pairs) same ∙ new)
  taken_right pairs word value more key g is new taken (NoValue w v m k parts is2 bad at) =
      let same : k ≡ key = some_is _ _ (sym (subst (λ (t : Token). key_of t.bytes ≡ Some k) (sym (head_is _ _ _ _ parts)) is2) ∙ is) in
      let here : v ≡ value = sym (head_is _ _ _ _ (tail_is _ _ _ _ parts)) in
      let wrong : is_value_of key value.bytes ≡ false = subst (λ (q : Key). is_value_of q value.bytes ≡ false) same (subst (λ (t : Token). is_value_of k t.bytes ≡ false) here bad) in
      let right = taken_says key value.bytes pairs taken in absurd (cc)
  taken_right pairs word value more key g is new taken (TooLarge w v m k parts is2 bad at) =
      let same : k ≡ key = some_is _ _ (sym (subst (λ (t : Token). key_of t.bytes ≡ Some k) (sym (head_is _ _ _ _ parts)) is2) ∙ is) in
      let here : v ≡ value = sym (head_is _ _ _ _ (tail_is _ _ _ _ parts)) in
      let wrong : is_too_large key value.bytes pairs ≡ true = subst (λ (q : Key). is_too_large q value.bytes pairs ≡ true) same (subst (λ (t : Token). is_too_large k t.bytes pairs ≡ true) here bad) in
      let right = taken_says key value.bytes pairs taken in absurd (cc)
  taken_right pairs word value more key g is new taken (Lacking k ended needed none at) =
      let no_key : key_of word.bytes ≡ None = ended_is word (value ∷ more) ended in absurd (cc)
  taken_right pairs word value more key g is new taken (Alone w k parts is2 at) = absurd (cc)

  -- where the pairs end a key lacks
  end_lacks : (pairs : List Pair) (rest : List Token) (g : GridFault) → ends_pairs rest ≡ true → HeadFault text_len pairs rest g → Lacks pairs (fault_at kinds.Head (place_of text_len rest)) g
  end_lacks pairs rest g ended (Again w m k parts is again at) = let no_key : key_of w.bytes ≡ None = ended_is w m (subst (λ ts. ends_pairs ts ≡ true) parts ended) in absurd (cc)
  end_lacks pairs rest g ended (NoValue w v m k parts is bad at) = let no_key : key_of w.bytes ≡ None = ended_is w (v ∷ m) (subst (λ ts. ends_pairs ts ≡ true) parts ended) in absurd (cc)
  end_lacks pairs rest g ended (TooLarge w v m k parts is bad at) = let no_key : key_of w.bytes ≡ None = ended_is w (v ∷ m) (subst (λ ts. ends_pairs ts ≡ true) parts ended) in absurd (cc)
  end_lacks pairs rest g ended (Lacking k ended2 needed none at) = record { key = k; needed = needed; none = none; is = at }
  end_lacks pairs rest g ended (Alone w k parts is at) = let no_key : key_of w.bytes ≡ None = ended_is w [] (subst (λ ts. ends_pairs ts ≡ true) parts ended) in absurd (cc)

  -- ---- a fault that is told stands there

  pub record FailsAt (before : List Pair) (tokens : List Token) (f : GridFault) : Type 0 where
    pub more : List Pair
    pub rest : List Token
    pub parts : tokens ≡ tokens_of_pairs more ++ rest
    pub keyed : Keyed more
    pub fault : HeadFault text_len (before ++ more) rest f

  fails_here : (before : List Pair) (tokens : List Token) (f : GridFault) → HeadFault text_len before tokens f → FailsAt before tokens f
  fails_here before tokens f fault = record { more = []; rest = tokens; parts = refl; keyed = refl; fault = subst (λ ps. HeadFault text_len ps tokens f) (sym (append-nil before)) fault }

  fails_behind : (before : List Pair) (p : Pair) (key : Key) (tokens : List Token) (f : GridFault) → key_of p.word.bytes ≡ Some key → FailsAt (before ++ p ∷ []) tokens f → FailsAt before (p.word ∷ p.value ∷ tokens) f
  fails_behind before p key tokens f is s = record {
    more = p ∷ s.more;
    rest = s.rest;
    parts = ap (λ ts. p.word ∷ p.value ∷ ts) s.parts;
    keyed = and_from _ _ (ap (λ (o : Option Key). is_some o) is) s.keyed;
    fault = subst (λ ps. HeadFault text_len ps s.rest f) (append_assoc before (p ∷ []) s.more) s.fault;
  }

  -- a value that is not taken is at fault
  not_taken : (before : List Pair) (word value : Token) (more : List Token) (key : Key) → key_of word.bytes ≡ Some key → is_taken key value.bytes before ≡ false → HeadFault text_len before (word ∷ value ∷ more) (fault_at kinds.Head value.at)
  not_taken before word value more key is bad =
      elim (and_cases (is_value_of key value.bytes) (not (is_too_large key value.bytes before)) bad) [
        | inl no_value ↦ NoValue word value more key refl is no_value refl
        | inr large ↦ TooLarge word value more key refl is (not-false _ large) refl
      ]

  pub fails_at : (before : List Pair) (tokens : List Token) (f : GridFault) → pairs_from text_len before tokens ≡ Err f → FailsAt before tokens f
  unfolding pairs_from
  fails_at before [] f e = absurd (cc)
  fails_at before (word ∷ []) f e =
      option_cases (key_of word.bytes)
      (λ none. let bad = sym (ap (word_alone text_len before word) none) ∙ e in absurd (cc))
      (λ key is. let told : fault_at kinds.Head (cond (is_filled (pairs_of key before)) word.at text_len) ≡ f = err_is _ _ (sym (ap (word_alone text_len before word) is) ∙ e) in
      fails_here before (word ∷ []) f (bool_cases (is_filled (pairs_of key before))
      (λ again. Again word [] key refl is (filled_or_not _ again) (sym told ∙ ap (λ b. fault_at kinds.Head (cond b word.at text_len)) again))
      (λ new. Alone word key refl is (sym told ∙ ap (λ b. fault_at kinds.Head (cond b word.at text_len)) new))))
  fails_at before (word ∷ value ∷ more) f e =
      let p : Pair = record { word = word; value = value } in
      let next : Result (List Pair × List Token) GridFault = pairs_from text_len (before ++ p ∷ []) more in
      option_cases (key_of word.bytes)
      (λ none. let bad = sym (ap (λ o. pair_taken before word value more o next) none) ∙ e in absurd (cc))
      (λ key is. let told : pair_taken before word value more (Some key) next ≡ Err f = sym (ap (λ o. pair_taken before word value more o next) is) ∙ e in
      bool_cases (is_filled (pairs_of key before))
      (λ again. let here : fault_at kinds.Head word.at ≡ f = err_is _ _ (sym (ap (λ b. cond b (Err (fault_at kinds.Head word.at)) (cond (is_taken key value.bytes before) next (Err (fault_at kinds.Head value.at)))) again) ∙ told) in
      fails_here before (word ∷ value ∷ more) f (Again word (value ∷ more) key refl is (filled_or_not _ again) (sym here)))
      (λ new. let told2 : cond (is_taken key value.bytes before) next (Err (fault_at kinds.Head value.at)) ≡ Err f = sym (ap (λ b. cond b (Err (fault_at kinds.Head word.at)) (cond (is_taken key value.bytes before) next (Err (fault_at kinds.Head value.at)))) new) ∙ told in
      bool_cases (is_taken key value.bytes before)
      (λ taken. fails_behind before p key more f is (fails_at (before ++ p ∷ []) more f (sym (ap (λ b. cond b next (Err (fault_at kinds.Head value.at))) taken) ∙ told2)))
      (λ bad. let here : fault_at kinds.Head value.at ≡ f = err_is _ _ (sym (ap (λ b. cond b next (Err (fault_at kinds.Head value.at))) bad) ∙ told2) in
      fails_here before (word ∷ value ∷ more) f (subst (HeadFault text_len before (word ∷ value ∷ more)) here (not_taken before word value more key is bad)))))

  -- ---- no fault stands before the one that is told

  -- a fault at a key word at the text's end
  word_apart : (before : List Pair) (word : Token) (key : Key) (f g : GridFault) → word.at < text_len → key_of word.bytes ≡ Some key → fault_at kinds.Head (cond (is_filled (pairs_of key before)) word.at text_len) ≡ f → HeadFault text_len before (word ∷ []) g → Apart f g
  word_apart before word key f g inside is told (Again w m k parts is2 again at) =
      let here : w ≡ word = sym (head_is _ _ _ _ parts) in
      let same : k ≡ key = some_is _ _ (sym (subst (λ (t : Token). key_of t.bytes ≡ Some k) here is2) ∙ is) in
      let filled : is_filled (pairs_of key before) ≡ true = filled (pairs_of key before) (subst (λ (q : Key). pairs_of q before ≡ [] → ⊥) same again) in
      inr (sym told ∙ ap (λ b. fault_at kinds.Head (cond b word.at text_len)) filled ∙ ap (λ (t : Token). fault_at kinds.Head t.at) (sym here) ∙ sym at)
  word_apart before word key f g inside is told (NoValue w v m k parts is2 bad at) = absurd (cc)
  word_apart before word key f g inside is told (TooLarge w v m k parts is2 bad at) = absurd (cc)
  word_apart before word key f g inside is told (Lacking k ended needed none at) = let no_key : key_of word.bytes ≡ None = ended_is word [] ended in absurd (cc)
  word_apart before word key f g inside is told (Alone w k parts is2 at) =
      bool_cases (is_filled (pairs_of key before))
      (λ again. let place : word.at ≡ f.at = ap (λ (q : GridFault). q.at) (sym (ap (λ b. fault_at kinds.Head (cond b word.at text_len)) again) ∙ told) in
      let last : g.at ≡ text_len = ap (λ (q : GridFault). q.at) at in
      inl (omega arith))
      (λ new. inr (sym told ∙ ap (λ b. fault_at kinds.Head (cond b word.at text_len)) new ∙ sym at))

  -- a fault at a key word that stands again
  again_apart : (before : List Pair) (word value : Token) (more : List Token) (key : Key) (f g : GridFault) → word.at + 1 ≤ value.at → key_of word.bytes ≡ Some key → fault_at kinds.Head word.at ≡ f → HeadFault text_len before (word ∷ value ∷ more) g → Apart f g
  again_apart before word value more key f g later is told (Again w m k parts is2 again at) =
      inr (sym told ∙ ap (λ (t : Token). fault_at kinds.Head t.at) (head_is _ _ _ _ parts) ∙ sym at)
  again_apart before word value more key f g later is told (NoValue w v m k parts is2 bad at) =
      let here : value ≡ v = head_is _ _ _ _ (tail_is _ _ _ _ parts) in
      let place : word.at ≡ f.at = ap (λ (q : GridFault). q.at) told in
      let other : g.at ≡ value.at = ap (λ (q : GridFault). q.at) at ∙ ap (λ (t : Token). t.at) (sym here) in
      inl (omega arith)
  again_apart before word value more key f g later is told (TooLarge w v m k parts is2 bad at) =
      let here : value ≡ v = head_is _ _ _ _ (tail_is _ _ _ _ parts) in
      let place : word.at ≡ f.at = ap (λ (q : GridFault). q.at) told in
      let other : g.at ≡ value.at = ap (λ (q : GridFault). q.at) at ∙ ap (λ (t : Token). t.at) (sym here) in
      inl (omega arith)
  again_apart before word value more key f g later is told (Lacking k ended needed none at) = let no_key : key_of word.bytes ≡ None = ended_is word (value ∷ more) ended in absurd (cc)
  again_apart before word value more key f g later is told (Alone w k parts is2 at) = absurd (cc)

  -- a fault at a value
  value_apart : (before : List Pair) (word value : Token) (more : List Token) (key : Key) (f g : GridFault) → key_of word.bytes ≡ Some key → pairs_of key before ≡ [] → fault_at kinds.Head value.at ≡ f → HeadFault text_len before (word ∷ value ∷ more) g → Apart f g
  value_apart before word value more key f g is new told (Again w m k parts is2 again at) =
      let same : k ≡ key = some_is _ _ (sym (subst (λ (t : Token). key_of t.bytes ≡ Some k) (sym (head_is _ _ _ _ parts)) is2) ∙ is) in
      absurd (again (ap (λ q. pairs_of q before) same ∙ new))
  value_apart before word value more key f g is new told (NoValue w v m k parts is2 bad at) =
      inr (sym told ∙ ap (λ (t : Token). fault_at kinds.Head t.at) (head_is _ _ _ _ (tail_is _ _ _ _ parts)) ∙ sym at)
  value_apart before word value more key f g is new told (TooLarge w v m k parts is2 bad at) =
      inr (sym told ∙ ap (λ (t : Token). fault_at kinds.Head t.at) (head_is _ _ _ _ (tail_is _ _ _ _ parts)) ∙ sym at)
  value_apart before word value more key f g is new told (Lacking k ended needed none at) = let no_key : key_of word.bytes ≡ None = ended_is word (value ∷ more) ended in absurd (cc)
  value_apart before word value more key f g is new told (Alone w k parts is2 at) = absurd (cc)

  -- a fault behind this pair stands behind the place
  behind_apart : (word value : Token) (tokens : List Token) (more : List Pair) (rest : List Token) (pairs : List Pair) (f g : GridFault) → InOrder (value.at + 1) text_len tokens → tokens ≡ tokens_of_pairs more ++ rest → f.at ≤ value.at → HeadFault text_len pairs rest g → Apart f g
  behind_apart word value tokens more rest pairs f g order parts before fault =
      let behind : InOrder (value.at + 1) text_len rest = order_behind (value.at + 1) text_len (tokens_of_pairs more) rest (subst (InOrder (value.at + 1) text_len) parts order) in
      let place : value.at + 1 ≤ g.at = fault_behind (value.at + 1) pairs rest g behind fault in
      inl (omega arith)

  -- the fault, moved to the pairs before it
  moved : (before : List Pair) (rest : List Token) (g : GridFault) → HeadFault text_len (before ++ []) rest g → HeadFault text_len before rest g
  moved before rest g fault = subst (λ ps. HeadFault text_len ps rest g) (append-nil before) fault

  same_pair : (q p : Pair) → q.word ≡ p.word → q.value ≡ p.value → q ≡ p
  same_pair q p w v = ap (λ (x : Token). let r : Pair = record { word = x; value = q.value } in r) w ∙ ap (λ (x : Token). let r : Pair = record { word = p.word; value = x } in r) v

  pub head_first : (from : ℕ) (before : List Pair) (tokens : List Token) (f : GridFault) (more : List Pair) (rest : List Token) (g : GridFault)
      → InOrder from text_len tokens → pairs_from text_len before tokens ≡ Err f → tokens ≡ tokens_of_pairs more ++ rest → HeadFault text_len (before ++ more) rest g → Apart f g
  unfolding pairs_from
  head_first from before [] f more rest g order e parts fault = absurd (cc)
  head_first from before (word ∷ []) f [] rest g order e parts fault =
      option_cases (key_of word.bytes)
      (λ none. let bad = sym (ap (word_alone text_len before word) none) ∙ e in absurd (cc))
      (λ key is. let told : fault_at kinds.Head (cond (is_filled (pairs_of key before)) word.at text_len) ≡ f = err_is _ _ (sym (ap (word_alone text_len before word) is) ∙ e) in
      word_apart before word key f g (omega (arith, order.1)) is told (moved before (word ∷ []) g (subst (λ ts. HeadFault text_len (before ++ []) ts g) (sym parts) fault)))
  head_first from before (word ∷ []) f (q ∷ more) rest g order e parts fault = absurd (cc)
  head_first from before (word ∷ value ∷ tokens) f [] rest g order e parts fault =
      let p : Pair = record { word = word; value = value } in
      let next : Result (List Pair × List Token) GridFault = pairs_from text_len (before ++ p ∷ []) tokens in
      let here : HeadFault text_len before (word ∷ value ∷ tokens) g = moved before (word ∷ value ∷ tokens) g (subst (λ ts. HeadFault text_len (before ++ []) ts g) (sym parts) fault) in
      option_cases (key_of word.bytes)
      (λ none. let bad = sym (ap (λ o. pair_taken before word value tokens o next) none) ∙ e in absurd (cc))
      (λ key is. let told : pair_taken before word value tokens (Some key) next ≡ Err f = sym (ap (λ o. pair_taken before word value tokens o next) is) ∙ e in
      bool_cases (is_filled (pairs_of key before))
      (λ again. again_apart before word value tokens key f g order.1.0 is (err_is _ _ (sym (ap (λ b. cond b (Err (fault_at kinds.Head word.at)) (cond (is_taken key value.bytes before) next (Err (fault_at kinds.Head value.at)))) again) ∙ told)) here)
      (λ new. let told2 : cond (is_taken key value.bytes before) next (Err (fault_at kinds.Head value.at)) ≡ Err f = sym (ap (λ b. cond b (Err (fault_at kinds.Head word.at)) (cond (is_taken key value.bytes before) next (Err (fault_at kinds.Head value.at)))) new) ∙ told in
      bool_cases (is_taken key value.bytes before)
      (λ taken. absurd (taken_right before word value tokens key g is (not_filled _ new) taken here))
      (λ bad. value_apart before word value tokens key f g is (not_filled _ new) (err_is _ _ (sym (ap (λ b. cond b next (Err (fault_at kinds.Head value.at))) bad) ∙ told2)) here)))
  head_first from before (word ∷ value ∷ tokens) f (q ∷ more) rest g order e parts fault =
      let p : Pair = record { word = word; value = value } in
      let next : Result (List Pair × List Token) GridFault = pairs_from text_len (before ++ p ∷ []) tokens in
      let others : tokens ≡ tokens_of_pairs more ++ rest = tail_is _ _ _ _ (tail_is _ _ _ _ parts) in
      option_cases (key_of word.bytes)
      (λ none. let bad = sym (ap (λ o. pair_taken before word value tokens o next) none) ∙ e in absurd (cc))
      (λ key is. let told : pair_taken before word value tokens (Some key) next ≡ Err f = sym (ap (λ o. pair_taken before word value tokens o next) is) ∙ e in
      bool_cases (is_filled (pairs_of key before))
      (λ again. let place : word.at ≡ f.at = ap (λ (x : GridFault). x.at) (err_is _ _ (sym (ap (λ b. cond b (Err (fault_at kinds.Head word.at)) (cond (is_taken key value.bytes before) next (Err (fault_at kinds.Head value.at)))) again) ∙ told)) in
      behind_apart word value tokens more rest (before ++ q ∷ more) f g order.1.1 others (omega (arith, order.1.0)) fault)
      (λ new. let told2 : cond (is_taken key value.bytes before) next (Err (fault_at kinds.Head value.at)) ≡ Err f = sym (ap (λ b. cond b (Err (fault_at kinds.Head word.at)) (cond (is_taken key value.bytes before) next (Err (fault_at kinds.Head value.at)))) new) ∙ told in
      bool_cases (is_taken key value.bytes before)
      (λ taken. let q_is : q ≡ p = same_pair q p (sym (head_is _ _ _ _ parts)) (sym (head_is _ _ _ _ (tail_is _ _ _ _ parts))) in
      let fault2 : HeadFault text_len ((before ++ p ∷ []) ++ more) rest g = subst (λ ps. HeadFault text_len ps rest g) (sym (append_assoc before (p ∷ []) more)) (subst (λ x. HeadFault text_len (before ++ x ∷ more) rest g) q_is fault) in
      head_first (value.at + 1) (before ++ p ∷ []) tokens f more rest g order.1.1 (sym (ap (λ b. cond b next (Err (fault_at kinds.Head value.at))) taken) ∙ told2) others fault2)
      (λ bad. let place : value.at ≡ f.at = ap (λ (x : GridFault). x.at) (err_is _ _ (sym (ap (λ b. cond b next (Err (fault_at kinds.Head value.at))) bad) ∙ told2)) in
      behind_apart word value tokens more rest (before ++ q ∷ more) f g order.1.1 others (omega arith) fault)))

  -- ---- where the pairs are read to their end

  -- where nothing more is read
  stop_lacks : (before : List Pair) (tokens : List Token) (all : List Pair) (stop rest : List Token) (g : GridFault) → ends_pairs tokens ≡ true → ◌≡◌ {A = Result (List Pair × List Token) GridFault} (Ok (before, tokens)) (Ok (all, stop)) → tokens ≡ rest → HeadFault text_len (before ++ []) rest g → Lacks all (fault_at kinds.Head (place_of text_len stop)) g
  stop_lacks before tokens all stop rest g ended e parts fault =
      let same : (before, tokens) ≡ (all, stop) = ok_is _ _ e in
      let lacks : Lacks before (fault_at kinds.Head (place_of text_len tokens)) g = end_lacks before tokens g ended (moved before tokens g (subst (λ ts. HeadFault text_len (before ++ []) ts g) (sym parts) fault)) in
      subst (λ (x : List Pair × List Token). Lacks x.0 (fault_at kinds.Head (place_of text_len x.1)) g) same lacks

  -- a pair that is read is taken
  taken_then : {P : Type 0} (before : List Pair) (word value : Token) (tokens : List Token) (key : Key) (next : Result (List Pair × List Token) GridFault) (all : List Pair) (stop : List Token) → pair_taken before word value tokens (Some key) next ≡ Ok (all, stop)
      → (pairs_of key before ≡ [] → is_taken key value.bytes before ≡ true → next ≡ Ok (all, stop) → P) → P
  taken_then before word value tokens key next all stop told k =
      bool_cases (is_filled (pairs_of key before))
      (λ again. let bad = sym (ap (λ b. cond b (Err (fault_at kinds.Head word.at)) (cond (is_taken key value.bytes before) next (Err (fault_at kinds.Head value.at)))) again) ∙ told in absurd (cc))
      (λ new. let told2 : cond (is_taken key value.bytes before) next (Err (fault_at kinds.Head value.at)) ≡ Ok (all, stop) = sym (ap (λ b. cond b (Err (fault_at kinds.Head word.at)) (cond (is_taken key value.bytes before) next (Err (fault_at kinds.Head value.at)))) new) ∙ told in
      bool_cases (is_taken key value.bytes before)
      (λ taken. k (not_filled _ new) taken (sym (ap (λ b. cond b next (Err (fault_at kinds.Head value.at))) taken) ∙ told2))
      (λ bad. let bad2 = sym (ap (λ b. cond b next (Err (fault_at kinds.Head value.at))) bad) ∙ told2 in absurd (cc)))

  pub read_lacks : (before : List Pair) (tokens : List Token) (all : List Pair) (stop : List Token) (more : List Pair) (rest : List Token) (g : GridFault)
      → pairs_from text_len before tokens ≡ Ok (all, stop) → tokens ≡ tokens_of_pairs more ++ rest → Keyed more → HeadFault text_len (before ++ more) rest g → Lacks all (fault_at kinds.Head (place_of text_len stop)) g
  unfolding pairs_from
  read_lacks before [] all stop [] rest g e parts keyed fault = stop_lacks before [] all stop rest g refl e parts fault
  read_lacks before [] all stop (q ∷ more) rest g e parts keyed fault = absurd (cc)
  read_lacks before (word ∷ []) all stop [] rest g e parts keyed fault =
      option_cases (key_of word.bytes)
      (λ none. stop_lacks before (word ∷ []) all stop rest g (ends_at word [] none) (sym (ap (word_alone text_len before word) none) ∙ e) parts fault)
      (λ key is. let bad = sym (ap (word_alone text_len before word) is) ∙ e in absurd (cc))
  read_lacks before (word ∷ []) all stop (q ∷ more) rest g e parts keyed fault = absurd (cc)
  read_lacks before (word ∷ value ∷ tokens) all stop [] rest g e parts keyed fault =
      let p : Pair = record { word = word; value = value } in
      let next : Result (List Pair × List Token) GridFault = pairs_from text_len (before ++ p ∷ []) tokens in
      option_cases (key_of word.bytes)
      (λ none. stop_lacks before (word ∷ value ∷ tokens) all stop rest g (ends_at word (value ∷ tokens) none) (sym (ap (λ o. pair_taken before word value tokens o next) none) ∙ e) parts fault)
      (λ key is. let told : pair_taken before word value tokens (Some key) next ≡ Ok (all, stop) = sym (ap (λ o. pair_taken before word value tokens o next) is) ∙ e in
      taken_then before word value tokens key next all stop told (λ new taken behind. absurd (taken_right before word value tokens key g is new taken (moved before (word ∷ value ∷ tokens) g (subst (λ ts. HeadFault text_len (before ++ []) ts g) (sym parts) fault)))))
  read_lacks before (word ∷ value ∷ tokens) all stop (q ∷ more) rest g e parts keyed fault =
      let p : Pair = record { word = word; value = value } in
      let next : Result (List Pair × List Token) GridFault = pairs_from text_len (before ++ p ∷ []) tokens in
      let others : tokens ≡ tokens_of_pairs more ++ rest = tail_is _ _ _ _ (tail_is _ _ _ _ parts) in
      let q_is : q ≡ p = same_pair q p (sym (head_is _ _ _ _ parts)) (sym (head_is _ _ _ _ (tail_is _ _ _ _ parts))) in
      let parts_keyed = and_parts (is_some (key_of q.word.bytes)) (list_all (λ (pair : Pair). is_some (key_of pair.word.bytes)) more) keyed in
      option_cases (key_of word.bytes)
      (λ none. let bad : is_some (key_of word.bytes) ≡ true = subst (λ (x : Pair). is_some (key_of x.word.bytes) ≡ true) q_is parts_keyed.0 in
      let nothing : Option Key = None in
      let worse : is_some nothing ≡ true = sym (ap (λ (o : Option Key). is_some o) none) ∙ bad in absurd (cc))
      (λ key is. let told : pair_taken before word value tokens (Some key) next ≡ Ok (all, stop) = sym (ap (λ o. pair_taken before word value tokens o next) is) ∙ e in
      taken_then before word value tokens key next all stop told (λ new taken behind.
      let fault2 : HeadFault text_len ((before ++ p ∷ []) ++ more) rest g = subst (λ ps. HeadFault text_len ps rest g) (sym (append_assoc before (p ∷ []) more)) (subst (λ x. HeadFault text_len (before ++ x ∷ more) rest g) q_is fault) in
      read_lacks (before ++ p ∷ []) tokens all stop more rest g behind others parts_keyed.1 fault2))
