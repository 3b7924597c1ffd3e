-- Entries of a history by the authors of a seat.
use Rattle.std.proofs.Common.{◌≡◌, ℕ, ◌⊎◌, Bool, true, false, cond, ◌||◌, ◌==◌, filter, List, [], ◌∷◌, ◌++◌, length}
use Rattle.std.proofs.Common.{refl, sym, ap, ◌∙◌, inl, inr, subst, true≢false, append-nil, ⊎_elim}
use Rattle.std.proofs.lemmas.List.{append_cancel_left}
use Rattle.std.proofs.lemmas.List.Elements.{filter-append}
use Rattle.std.proofs.lemmas.List.Folds.{list_any-append}
use Rattle.std.proofs.lemmas.Bool.{cases_Bool}
use mathlib.Core.List.{IsPrefix}
use Rattle.turn_cell.specs.Histories.{is_author, entries_by}
use Rattle.turn_cell.proofs.ListLemmas.{prefix_trans}

module _ {E : Type 0} where
  filter_at : (p : E → Bool) (x : E) (xs : List E) (c : Bool) → p x ≡ c → filter p (x ∷ xs) ≡ cond c (x ∷ filter p xs) (filter p xs)
  filter_at p x xs c e = ap (λ (d : Bool). cond d (x ∷ filter p xs) (filter p xs)) e

  -- where nothing passes, neither does the first nor the rest
  nothing_in : (p : E → Bool) (x : E) (xs : List E) → filter p (x ∷ xs) ≡ [] → (p x ≡ false) × (filter p xs ≡ [])
  nothing_in p x xs h =
      elim (cases_Bool (p x)) [
        | inl t ↦ let e : x ∷ filter p xs ≡ [] = sym (filter_at p x xs true t) ∙ h in cc
        | inr f ↦ (f, sym (filter_at p x xs false f) ∙ h)
      ]

  pub nil_front : (xs ys : List E) → xs ++ ys ≡ [] → xs ≡ []
  nil_front [] ys h = refl
  nil_front (x ∷ xs) ys h = let e : x ∷ (xs ++ ys) ≡ [] = h in cc

  -- what passes one of two tests that nothing passes
  pub nothing_of : (p q s : E → Bool) → ((e : E) → s e ≡ true → (p e ≡ true) ⊎ (q e ≡ true)) → (xs : List E) → filter p xs ≡ [] → filter q xs ≡ [] → filter s xs ≡ []
  nothing_of p q s either [] hp hq = refl
  nothing_of p q s either (x ∷ xs) hp hq =
      let np = nothing_in p x xs hp in
      let nq = nothing_in q x xs hq in
      elim (cases_Bool (s x)) [
        | inl t ↦ elim (either x t) [ inl a ↦ absurd (true≢false (sym a ∙ np.0)) | inr b ↦ absurd (true≢false (sym b ∙ nq.0)) ]
        | inr f ↦ filter_at s x xs false f ∙ nothing_of p q s either xs np.1 nq.1
      ]

  -- what is the same in the whole as in the front has nothing in the rest
  pub nothing_behind : (p : E → Bool) (seen log : List E) (b : IsPrefix seen log) → filter p log ≡ filter p seen → filter p b.0 ≡ []
  nothing_behind p seen log b same = append_cancel_left (filter p seen) (filter p b.0) [] (sym (filter-append p seen b.0) ∙ (ap (filter p) b.1 ∙ (same ∙ sym (append-nil (filter p seen)))))

  -- and the other way round
  pub same_front : (p : E → Bool) (seen log : List E) (b : IsPrefix seen log) → filter p b.0 ≡ [] → filter p log ≡ filter p seen
  same_front p seen log b none = ap (filter p) (sym b.1) ∙ (filter-append p seen b.0 ∙ (ap (λ (l : List E). filter p seen ++ l) none ∙ append-nil (filter p seen)))

  -- what is the same in the whole as in a front is so in between
  pub same_between : (p : E → Bool) (seen mid log : List E) → IsPrefix seen mid → IsPrefix mid log → filter p log ≡ filter p seen → filter p mid ≡ filter p seen
  same_between p seen mid log b c same =
      let all = prefix_trans seen mid log b c in
      let none : filter p (b.0 ++ c.0) ≡ [] = nothing_behind p seen log all same in
      same_front p seen mid b (nil_front (filter p b.0) (filter p c.0) (sym (filter-append p b.0 c.0) ∙ none))

  -- fewer tests pass no more
  pub same_of : (p q s : E → Bool) → ((e : E) → s e ≡ true → (p e ≡ true) ⊎ (q e ≡ true)) → (seen log : List E) → IsPrefix seen log → filter p log ≡ filter p seen → filter q log ≡ filter q seen
      → filter s log ≡ filter s seen
  same_of p q s either seen log b hp hq = same_front s seen log b (nothing_of p q s either b.0 (nothing_behind p seen log b hp) (nothing_behind q seen log b hq))

  -- two tests that differ at nothing that stands there
  pub same_parts : (p q s : E → Bool) → ((e : E) → p e ≡ true → (s e ≡ true) ⊎ (q e ≡ true)) → ((e : E) → s e ≡ true → p e ≡ true) → (xs : List E) → filter q xs ≡ [] → filter s xs ≡ filter p xs
  same_parts p q s either up [] none = refl
  same_parts p q s either up (x ∷ xs) none =
      let n = nothing_in q x xs none in
      let r = same_parts p q s either up xs n.1 in
      elim (cases_Bool (s x)) [
        | inl t ↦ filter_at s x xs true t ∙ (ap (λ (l : List E). x ∷ l) r ∙ sym (filter_at p x xs true (up x t)))
        | inr f ↦ filter_at s x xs false f ∙ (r ∙ sym (filter_at p x xs false (elim (cases_Bool (p x)) [
          | inl t ↦ elim (either x t) [ inl a ↦ absurd (true≢false (sym a ∙ f)) | inr b ↦ absurd (true≢false (sym b ∙ n.0)) ]
          | inr g ↦ g
        ])))
      ]

  -- one more entry that does not pass
  pub same_longer : (p : E → Bool) (log : List E) (e : E) → p e ≡ false → filter p (log ++ e ∷ []) ≡ filter p log
  same_longer p log e h = filter-append p log (e ∷ []) ∙ (ap (λ (l : List E). filter p log ++ l) (filter_at p e [] false h) ∙ append-nil (filter p log))

  -- and one that does
  pub more_longer : (p : E → Bool) (log : List E) (e : E) → p e ≡ true → filter p (log ++ e ∷ []) ≡ filter p log ++ e ∷ []
  more_longer p log e h = filter-append p log (e ∷ []) ∙ ap (λ (l : List E). filter p log ++ l) (filter_at p e [] true h)

  -- nobody has entries
  pub by_nobody : (author : E → ℕ) (log : List E) → entries_by author [] log ≡ []
  by_nobody author [] = refl
  by_nobody author (x ∷ xs) = by_nobody author xs

or_cases : (b c : Bool) → (b || c) ≡ true → (b ≡ true) ⊎ (c ≡ true)
or_cases true c h = inl refl
or_cases false c h = inr h

-- an author of two lists together is one of either
pub author_cases : (a : ℕ) (xs ys : List ℕ) → is_author a (xs ++ ys) ≡ true → (is_author a xs ≡ true) ⊎ (is_author a ys ≡ true)
author_cases a xs ys h = or_cases (is_author a xs) (is_author a ys) (sym (list_any-append (λ b. a == b) xs ys) ∙ h)
