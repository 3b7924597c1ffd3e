-- What each new view knows of the history so far, and what is left of a rule's parts where a view changes.
use Rattle.std.proofs.Common.{◌≡◌, ℕ, ◌+◌, ◌<◌, ◌≤◌, ◌≢◌, ◌⊎◌, Bool, true, false, ◌||◌, ◌==◌, List, [], ◌∷◌, ◌++◌, length, set, filter, Some, Option}
use Rattle.std.proofs.Common.{refl, sym, ap, ◌∙◌, inl, inr, ⊎_elim, subst, arith, true≢false, length-append}
use Rattle.std.proofs.lemmas.List.Folds.{list_any-append}
use mathlib.Core.Option.{some, some-injective}
use mathlib.Core.Logic.{dite}
use mathlib.Core.List.{IsPrefix}
use native.Mathlib.Decide.{ℕ_discrete}
use lib.ListN.{get_elem?}
use Rattle.atomic_table.specs.Table.{State}
use Rattle.atomic_table.proofs.Lists.{at_set, set_here, set_else, at_longer, at_snoc}
use Rattle.turn_cell.specs.declared.view.View.{View}
use Rattle.turn_cell.specs.Authors.{greatest_author, without_author, AreDistinct}
use Rattle.turn_cell.specs.Histories.{is_author, entries_by, longer}
use Rattle.turn_cell.specs.inside.Views.{left_view, newcomer_view, told_view, spent_view, settled_view, holding_view, idle_view, HasSettled}
use Rattle.turn_cell.specs.inside.Ruled.{FitsHistory, IsReached, IsTurnFree, IsTurnTaken}
use Rattle.turn_cell.proofs.ListLemmas.{inside_of, prefix_refl, prefix_trans, prefix_whole, longer_prefix}
use Rattle.turn_cell.proofs.AuthorLemmas.{zero_stays, without_is, alone_is, greatest_in, length_without}
use Rattle.turn_cell.proofs.EntryLemmas.{same_of, same_between, same_longer, by_nobody, author_cases, nil_front}

prefix_length : {E : Type 0} (xs ys : List E) → IsPrefix xs ys → length xs ≤ length ys
prefix_length xs ys b = let l = length-append xs b.0 in let m = ap length b.1 in omega arith

module _ {P E : Type 0} (author : E → ℕ) (p : P) where
  -- of a part of its authors a view has no further entry either
  own_part : (log : List E) (v : View P E) (part : List ℕ) → FitsHistory author p log v → ((a : ℕ) → is_author a part ≡ true → is_author a v.authors ≡ true)
      → entries_by author part log ≡ entries_by author part v.seen
  own_part log v part f sub =
      let own : E → Bool = λ e. is_author (author e) v.authors in
      same_of own own (λ e. is_author (author e) part) (λ e h. inl (sub (author e) h)) v.seen log f.begins f.own_seen f.own_seen

  pub fits_left : (log : List E) (v : View P E) → FitsHistory author p log v → 2 ≤ length v.authors → AreDistinct v.authors → FitsHistory author p log (left_view v)
  fits_left log v f two d =
      let g : ℕ = greatest_author v.authors in
      let l = length_without g v.authors in
      let once = d g in
      record {
        begins = f.begins;
        begins_told = (log, refl);
        own_seen = own_part log v (without_author g v.authors) f (λ a h. without_is a g v.authors h);
        own_told = by_nobody author log;
        met = f.met;
        planned = λ _. f.planned (omega arith);
        single = λ _. zero_stays v.authors two d (f.single two);
        spent = λ h. absurd (omega arith);
      }

  pub fits_given : (log : List E) (v : View P E) → FitsHistory author p log v → 0 < length v.authors → FitsHistory author p log (newcomer_view v)
  fits_given log v f some_author =
      let g : ℕ = greatest_author v.authors in
      record {
        begins = f.begins;
        begins_told = (log, refl);
        own_seen = own_part log v (g ∷ []) f (λ a h. ap (λ (k : ℕ). is_author k v.authors) (alone_is a g h) ∙ greatest_in v.authors some_author);
        own_told = by_nobody author log;
        met = λ h. absurd (true≢false (sym h));
        planned = λ _. f.planned some_author;
        single = λ h. absurd (omega arith);
        spent = λ h. absurd (omega arith);
      }

  pub fits_told : (log : List E) (v w : View P E) → FitsHistory author p log v → FitsHistory author p log w → 0 < length v.authors → FitsHistory author p log (told_view v w)
  fits_told log v w f g some_author = record {
    begins = f.begins;
    begins_told = g.begins;
    own_seen = f.own_seen;
    own_told = g.own_seen;
    met = f.met;
    planned = f.planned;
    single = f.single;
    spent = λ h. absurd (omega arith);
  }

  pub fits_spent : (log : List E) → FitsHistory author p log spent_view
  fits_spent log = record {
    begins = (log, refl);
    begins_told = (log, refl);
    own_seen = by_nobody author log;
    own_told = by_nobody author log;
    met = λ h. absurd (true≢false (sym h));
    planned = λ h. absurd (omega arith);
    single = λ h. absurd (omega arith);
    spent = λ _. (refl, refl);
  }

  pub fits_settled : (log : List E) (v : View P E) → FitsHistory author p log v → is_author 0 v.authors ≡ true → 0 < length v.authors → FitsHistory author p log (settled_view v)
  fits_settled log v f root some_author =
      let whole : List E = longer v.seen v.told in
      let b = longer_prefix v.seen v.told log f.begins f.begins_told in
      let own : E → Bool = λ e. is_author (author e) v.authors in
      let told : E → Bool = λ e. is_author (author e) v.told_authors in
      let l = length-append v.authors v.told_authors in
      record {
        begins = b.2;
        begins_told = (log, refl);
        own_seen = same_of own told (λ e. is_author (author e) (v.authors ++ v.told_authors)) (λ e h. author_cases (author e) v.authors v.told_authors h) whole log b.2
            (f.own_seen ∙ sym (same_between own v.seen whole log b.0 b.2 f.own_seen)) (f.own_told ∙ sym (same_between told v.told whole log b.1 b.2 f.own_told));
        own_told = by_nobody author log;
        met = f.met;
        planned = λ _. f.planned some_author;
        single = λ _. list_any-append (λ k. 0 == k) v.authors v.told_authors ∙ ap (λ (c : Bool). c || is_author 0 v.told_authors) root;
        spent = λ h. absurd (omega arith);
      }

  pub fits_holding : (log met : List E) (v : View P E) → FitsHistory author p log v → met ≡ log → FitsHistory author p log (holding_view v met)
  fits_holding log met v f is = record {
    begins = f.begins;
    begins_told = f.begins_told;
    own_seen = f.own_seen;
    own_told = f.own_told;
    met = λ _. is;
    planned = f.planned;
    single = f.single;
    spent = f.spent;
  }

  pub fits_idle : (log left : List E) (v : View P E) → FitsHistory author p log v → 0 < length v.authors → FitsHistory author p left (idle_view v left)
  fits_idle log left v f some_author = record {
    begins = prefix_refl left;
    begins_told = (left, refl);
    own_seen = refl;
    own_told = by_nobody author left;
    met = λ h. absurd (true≢false (sym h));
    planned = f.planned;
    single = f.single;
    spent = λ h. absurd (omega arith);
  }

  -- one more entry, by none of the view's authors
  pub fits_later : (log : List E) (v : View P E) (e : E) → FitsHistory author p log v → v.holds ≡ false → is_author (author e) v.authors ≡ false → is_author (author e) v.told_authors ≡ false
      → FitsHistory author p (log ++ e ∷ []) v
  fits_later log v e f idle none none_told = record {
    begins = prefix_trans v.seen log (log ++ e ∷ []) f.begins (e ∷ [], refl);
    begins_told = prefix_trans v.told log (log ++ e ∷ []) f.begins_told (e ∷ [], refl);
    own_seen = same_longer (λ x. is_author (author x) v.authors) log e none ∙ f.own_seen;
    own_told = same_longer (λ x. is_author (author x) v.told_authors) log e none_told ∙ f.own_told;
    met = λ h. absurd (true≢false (sym h ∙ idle));
    planned = f.planned;
    single = f.single;
    spent = f.spent;
  }

module _ {P E : Type 0} where
  -- the view has seen all, or was told of all
  abbrev pub Reaches : List E → View P E → Type 0
  Reaches log v = (v.seen ≡ log) ⊎ (v.told ≡ log)

  pub reaches_seen : (log : List E) (v : View P E) → HasSettled v → IsPrefix v.seen log → Reaches log v → v.seen ≡ log
  reaches_seen log v s b (inl e) = e
  reaches_seen log v s b (inr t) = let z : log ≡ [] = sym t ∙ s.1 in nil_front v.seen b.0 (b.1 ∙ z) ∙ sym z

  pub settled_reaches : (log : List E) (v : View P E) → IsPrefix v.seen log → IsPrefix v.told log → Reaches log v → Reaches log (settled_view v)
  settled_reaches log v b c h =
      let whole : List E = longer v.seen v.told in
      let k = longer_prefix v.seen v.told log b c in
      let m = prefix_length v.seen whole k.0 in
      let n = prefix_length v.told whole k.1 in
      elim h [
        | inl e ↦ let l = ap length e in inl (prefix_whole whole log k.2 (omega arith))
        | inr e ↦ let l = ap length e in inl (prefix_whole whole log k.2 (omega arith))
      ]

  pub same_view : (views : List (View P E)) (i j : ℕ) (v w : View P E) → get_elem? views i ≡ some v → get_elem? views j ≡ some w → j ≡ i → w ≡ v
  same_view views i j v w at bt e = some-injective w v (sym bt ∙ (ap (get_elem? views) e ∙ at))

  pub reached_set : (log : List E) (views : List (View P E)) (id : ℕ) (v w : View P E) → get_elem? views id ≡ some v → (Reaches log v → Reaches log w) → IsReached log views → IsReached log (set views id w)
  reached_set log views id v w at more r =
      dite (ℕ_discrete r.0 id)
      (λ e. (id, w, set_here views id w (inside_of views id v at), more (subst (Reaches log) (same_view views id r.0 v r.1 at r.2 e) r.3)))
      (λ n. (r.0, r.1, set_else views id r.0 w n ∙ r.2, r.3))

  pub reached_snoc : (log : List E) (views : List (View P E)) (w : View P E) → IsReached log views → IsReached log (views ++ w ∷ [])
  reached_snoc log views w r = (r.0, r.1, at_longer views (w ∷ []) r.0 r.1 r.2, r.3)

  -- what holds of each view, after one changed
  pub each_set : (F : View P E → Type 0) (views : List (View P E)) (id : ℕ) (w : View P E) → F w → ((j : ℕ) (u : View P E) → get_elem? views j ≡ some u → F u)
      → (j : ℕ) (u : View P E) → get_elem? (set views id w) j ≡ some u → F u
  each_set F views id w here others j u at = ⊎_elim (λ (t : (j ≡ id) × (w ≡ u)). subst F t.1 here) (λ (t : (j ≢ id) × (get_elem? views j ≡ some u)). others j u t.1) (at_set views id j w u at)

  pub each_snoc : (F : View P E → Type 0) (views : List (View P E)) (w : View P E) → F w → ((j : ℕ) (u : View P E) → get_elem? views j ≡ some u → F u)
      → (j : ℕ) (u : View P E) → get_elem? (views ++ w ∷ []) j ≡ some u → F u
  each_snoc F views w here others j u at = ⊎_elim (λ (t : get_elem? views j ≡ some u). others j u t) (λ (t : w ≡ u). subst F t here) (at_snoc views w u j at)

module _ {B P E : Type 0} (plan : B → P) (history : B → List E) (p : P) (log : List E) where
  abbrev pub with_views : State (Option B) (View P E) → List (View P E) → State (Option B) (View P E)
  with_views s views = record { words = s.words; homes = s.homes; views = views }

  abbrev pub TurnOf : State (Option B) (View P E) → Type 0
  TurnOf s = IsTurnFree plan history p log s ⊎ IsTurnTaken s

  -- the turn stays where it is, if a view changes that holds it as before
  pub turn_set : (s : State (Option B) (View P E)) (id : ℕ) (v w : View P E) → get_elem? s.views id ≡ some v → w.holds ≡ v.holds → (v.holds ≡ true → 0 < length w.authors) → TurnOf s
      → TurnOf (with_views s (set s.views id w))
  turn_set s id v w at same some_author (inl f) = inl (f.0, f.1, each_set (λ u. u.holds ≡ false) s.views id w (same ∙ f.2 id v at) f.2)
  turn_set s id v w at same some_author (inr t) =
      let h = t.1 in
      dite (ℕ_discrete h.0 id)
      (λ e. let holds : v.holds ≡ true = sym (ap (λ (x : View P E). x.holds) (same_view s.views id h.0 v h.1 at h.2 e)) ∙ h.3 in
      inr (
        t.0,
        (
          id,
          w,
          set_here s.views id w (inside_of s.views id v at),
          same ∙ holds,
          some_author holds,
          (λ i u bt n. h.5 i u (sym (set_else s.views id i w n) ∙ bt) (λ k. n (k ∙ e))),
        ),
      ))
      (λ n. inr (
        t.0,
        (
          h.0,
          h.1,
          set_else s.views id h.0 w n ∙ h.2,
          h.3,
          h.4,
          (λ i u bt m. ⊎_elim (λ (k : (i ≡ id) × (w ≡ u)). sym (ap (λ (x : View P E). x.holds) k.1) ∙ (same ∙ h.5 id v at (λ j. n (sym j))))
              (λ (k : (i ≢ id) × (get_elem? s.views i ≡ some u)). h.5 i u k.1 m) (at_set s.views id i w u bt)),
        ),
      ))

  -- and if a view comes that does not hold it
  pub turn_snoc : (s : State (Option B) (View P E)) (w : View P E) → w.holds ≡ false → TurnOf s → TurnOf (with_views s (s.views ++ w ∷ []))
  turn_snoc s w idle (inl f) = inl (f.0, f.1, each_snoc (λ u. u.holds ≡ false) s.views w idle f.2)
  turn_snoc s w idle (inr t) =
      let h = t.1 in
      inr (
        t.0,
        (
          h.0,
          h.1,
          at_longer s.views (w ∷ []) h.0 h.1 h.2,
          h.3,
          h.4,
          (λ i u bt m. ⊎_elim (λ (k : get_elem? s.views i ≡ some u). h.5 i u k m) (λ (k : w ≡ u). sym (ap (λ (x : View P E). x.holds) k) ∙ idle) (at_snoc s.views w u i bt)),
        ),
      )

  -- who holds the turn has an author, and nobody else holds it
  pub holder : (s : State (Option B) (View P E)) (id : ℕ) (v : View P E) → get_elem? s.views id ≡ some v → v.holds ≡ true → TurnOf s
      → (0 < length v.authors) × ((i : ℕ) (u : View P E) → get_elem? s.views i ≡ some u → i ≢ id → u.holds ≡ false)
  holder s id v at holds (inl f) = absurd (true≢false (sym holds ∙ f.2 id v at))
  holder s id v at holds (inr t) =
      let h = t.1 in
      dite (ℕ_discrete h.0 id)
      (λ e. (subst (λ (x : View P E). 0 < length x.authors) (same_view s.views id h.0 v h.1 at h.2 e) h.4, λ i u bt n. h.5 i u bt (λ k. n (k ∙ e))))
      (λ n. absurd (true≢false (sym holds ∙ h.5 id v at (λ j. n (sym j)))))
