-- Each kind of step keeps the rule, and tells what it should.
use Rattle.std.proofs.Common.{◌≡◌, ℕ, ◌+◌, ◌<◌, ◌≤◌, ◌≢◌, ◌⊎◌, ◌==◌, Bool, true, false, if◌then◌else◌, List, [], ◌∷◌, ◌++◌, length, set, get_or, slice_index, Some, None, Option}
use Rattle.std.proofs.Common.{refl, sym, ap, ◌∙◌, inl, inr, ⊎_elim, subst, arith, true≢false, length-append, length-set, get_or-set_same}
use Rattle.std.proofs.lemmas.List.{set-get_or}
use mathlib.Core.Option.{none, some, some-injective}
use mathlib.Core.Logic.{dite}
use mathlib.Core.List.{IsPrefix}
use native.Mathlib.Decide.{ℕ_discrete}
use lib.ListN.{get_elem?}
use prog.Atomic.{either}
use Rattle.atomic_table.specs.Table.{State, Me, step, Act, keeps, takes, gives, Valid, carried_after, stepped, Allows, Splits, Joins, opening, Final, Seen}
use Rattle.atomic_table.proofs.Lists.{at_set, set_here, set_else, set_again, at_longer, at_snoc, exchanged}
use Rattle.turn_cell.specs.declared.view.View.{View}
use Rattle.turn_cell.specs.Authors.{authors_below, least_author, greatest_author, without_author, times_among, AreDistinct}
use Rattle.turn_cell.specs.Histories.{Appends, is_author, entries_by, longer}
use Rattle.turn_cell.specs.inside.Views.{opening_view, left_view, newcomer_view, told_view, spent_view, settled_view, holding_view, idle_view}
use Rattle.turn_cell.specs.inside.Views.{HasSettled, MayFind, SettlesView, looked, settled_both, took_turn, gave_turn}
use Rattle.turn_cell.specs.inside.Ruled.{sum_over, once_below, times_in, share_in, FitsHistory, IsReached, IsTurnFree, IsTurnTaken, KeepsTurns}
use Rattle.turn_cell.proofs.ListLemmas.{inside_of, alone_at, sum_set, sum_snoc, sum_one, sum_two, longer_prefix, prefix_refl}
use Rattle.turn_cell.proofs.AuthorLemmas.{none_among, some_among, times_append, times_parts, greatest_once, least_in, length_without, once_le, times_below, length_below, zero_below}
use Rattle.turn_cell.proofs.EntryLemmas.{same_between, nil_front}
use Rattle.turn_cell.proofs.ViewLemmas.{fits_left, fits_given, fits_told, fits_spent, fits_settled, fits_holding, fits_idle, fits_later}
use Rattle.turn_cell.proofs.ViewLemmas.{same_view, Reaches, reaches_seen, settled_reaches, reached_set, reached_snoc, each_set, each_snoc, with_views, TurnOf, turn_set, turn_snoc, holder}

module _ {B P E : Type 0} (plan : B → P) (history : B → List E) (author : E → ℕ) (p : P) (seats : ℕ) where
  abbrev V : Type 0
  V = View P E

  abbrev S : Type 0
  S = Option B

  abbrev pub Rule : State S V → Type 0
  Rule = KeepsTurns plan history author p seats

  -- a step that changes no word but the view
  unmoved : (s : State S V) (id : ℕ) (carried : List (ℕ × S)) (w : V) → Rule (with_views plan history p [] s (set s.views id w)) → Rule (stepped s 0 (get_or s.words 0 0) id carried w keeps)
  unmoved s id carried w r = subst (λ (ws : List ℕ). Rule record { words = ws; homes = s.homes; views = set s.views id w }) (sym (set-get_or s.words 0 0)) r

  same_state : (s : State S V) (id : ℕ) (carried : List (ℕ × S)) (v : V) → get_elem? s.views id ≡ some v → Rule s → Rule (stepped s 0 (get_or s.words 0 0) id carried v keeps)
  same_state s id carried v at r = unmoved s id carried v (subst (λ (vs : List V). Rule record { words = s.words; homes = s.homes; views = vs }) (sym (set_again s.views id v at)) r)

  -- the load of the turn
  pub looks : (slots id : ℕ) (m : Me S V) → Allows Rule slots id m 0 (λ n. n) (looked (step slots 0 0 0 none) m)
  looks slots id m s r len at small = (m.0, keeps, tt, same_state s id m.1 m.0 at r, refl)

  -- the load that settles what a join told
  pub settles : (slots id : ℕ) (m : Me S V) → is_author 0 m.0.authors ≡ true → 0 < length m.0.authors → Allows Rule slots id m 0 (λ n. n) (settled_both author (step slots 0 0 0 none) m)
  settles slots id m root some_author s r len at small =
      let v : V = m.0 in
      let w : V = settled_view v in
      let f = r.each id v at in
      let b = longer_prefix v.seen v.told r.log f.begins f.begins_told in
      let l = length-append v.authors v.told_authors in
      let rule : Rule (with_views plan history p r.log s (set s.views id w)) = record {
        log = r.log;
        one_word = r.one_word;
        one_slot = r.one_slot;
        each = each_set (FitsHistory author p r.log) s.views id w (fits_settled author p r.log v f root some_author) r.each;
        reached = reached_set r.log s.views id v w at (settled_reaches r.log v f.begins f.begins_told) r.reached;
        dealt = λ a. (let h = sum_set (times_in a) s.views id v w at in let k = r.dealt a in let t = times_append a v.authors v.told_authors in omega arith);
        shared = (let h = sum_set share_in s.views id v w at in let k = r.shared in omega arith);
        turn = turn_set plan history p r.log s id v w at refl (λ _. omega arith) r.turn;
      } in (
        w,
        keeps,
        tt,
        unmoved s id m.1 w rule,
        (
          record {
            is = refl;
            begins = b.0;
            begins_told = b.1;
            own_seen = same_between (λ e. is_author (author e) v.authors) v.seen w.seen r.log b.0 b.2 f.own_seen;
            own_told = same_between (λ e. is_author (author e) v.told_authors) v.told w.seen r.log b.1 b.2 f.own_told;
            distinct = λ a. (let h = sum_one (times_in a) s.views id v at in let k = r.dealt a in let o = once_le a seats in let t = times_append a v.authors v.told_authors in omega arith);
          },
          refl,
        ),
      )

  -- the compare-and-exchange that takes the turn
  pub takes_turn : (slots id : ℕ) (m : Me S V) → 0 < length m.0.authors → Allows Rule slots id m 0 (λ n. either (n == 0) 1 n) (took_turn plan history author (step slots 0 0 1 none) m)
  takes_turn slots id m some_author s r len at small =
      let v : V = m.0 in
      let n : ℕ = get_or s.words 0 0 in
      let F : ℕ → Type 0 = λ k. (w : V) × (a : Act S) × Valid s.homes m.1 a × Rule (stepped s 0 k id m.1 w a) × took_turn plan history author (step slots 0 0 1 none) m n (w, carried_after m.1 a) in
      exchanged n 0 1 F
      (λ free. elim r.turn [
        | inl f ↦
            let b : B = f.1.0 in
            let w : V = holding_view v (history b) in
            let h = r.each id v at in (
              w,
              takes 0 (Some b),
              f.1.1,
              record {
                log = r.log;
                one_word = length-set s.words 0 1 ∙ r.one_word;
                one_slot = length-set s.homes 0 none ∙ r.one_slot;
                each = each_set (FitsHistory author p r.log) s.views id w (fits_holding author p r.log (history b) v h f.1.2) r.each;
                reached = reached_set r.log s.views id v w at (λ k. k) r.reached;
                dealt = λ a. (let k = sum_set (times_in a) s.views id v w at in let o = r.dealt a in omega arith);
                shared = (let k = sum_set share_in s.views id v w at in let o = r.shared in omega arith);
                turn = (let one = r.one_word in inr (
                  get_or-set_same s.words 0 1 0 (omega arith),
                  (
                    id,
                    w,
                    set_here s.views id w (inside_of s.views id v at),
                    refl,
                    some_author,
                    (λ i u bt other. f.2 i u (sym (set_else s.views id i w other) ∙ bt)),
                  ),
                ));
              },
              (
                (λ _. (
                  b,
                  refl,
                  record {
                    planned = h.planned some_author ∙ ap (λ (x : P). Some x) (sym f.1.3);
                    begins = subst (IsPrefix v.seen) (sym f.1.2) h.begins;
                    own = ap (entries_by author v.authors) f.1.2 ∙ h.own_seen;
                  },
                )),
                (λ other. absurd (other free)),
              ),
            )
        | inr t ↦ (let one = t.0 in absurd (omega arith))
      ])
      (λ taken. (v, keeps, tt, same_state s id m.1 v at r, ((λ free. absurd (taken free)), (λ _. refl))))

  -- what the others know after a turn
  others_fit : (s : State S V) (r : Rule s) (id j : ℕ) (v u : V) (left : List E) → get_elem? s.views id ≡ some v → get_elem? s.views j ≡ some u → j ≢ id → u.holds ≡ false → 0 < length v.authors
      → Appends author (least_author v.authors) r.log left → FitsHistory author p left u
  others_fit s r id j v u left at bt other idle some_author (inl same) = subst (λ (l : List E). FitsHistory author p l u) (sym same) (r.each j u bt)
  others_fit s r id j v u left at bt other idle some_author (inr t) =
      let e : E = t.0 in
      let a : ℕ = author e in
      let mine : 1 ≤ times_among a v.authors = subst (λ (k : ℕ). 1 ≤ times_among k v.authors) (sym t.1) (some_among (least_author v.authors) v.authors (least_in v.authors some_author)) in
      let both = sum_two (times_in a) s.views id j v u at bt (λ k. other (sym k)) in
      let all = r.dealt a in
      let once = once_le a seats in
      let F : List E → Type 0 = λ l. FitsHistory author p l u in
      subst F (sym t.2) (fits_later author p r.log u e (r.each j u bt) idle (none_among a u.authors (omega arith)) (none_among a u.told_authors (omega arith)))

  -- the store that gives the turn back
  pub gives_turn : (slots id : ℕ) (v : V) (b : B) (rest : List (ℕ × S)) → v.holds ≡ true → HasSettled v → v.plan ≡ Some (plan b) → Appends author (least_author v.authors) v.met (history b)
      → Allows Rule slots id (v, (0, Some b) ∷ rest) 0 (λ _. 0) (λ _. gave_turn history (step slots 0 0 0 none) (v, (0, Some b) ∷ rest) 0)
  gives_turn slots id v b rest holds settled planned grows s r len at small =
      let left : List E = history b in
      let w : V = idle_view v left in
      let f = r.each id v at in
      let h = holder plan history p r.log s id v at holds r.turn in
      let more : Appends author (least_author v.authors) r.log left = subst (λ (l : List E). Appends author (least_author v.authors) l left) (f.met holds) grows in
      let none_told = λ (a : ℕ). ap (times_among a) settled.0 in
      let share_told = ap length settled.0 in (
        w,
        gives,
        tt,
        record {
          log = left;
          one_word = length-set s.words 0 0 ∙ r.one_word;
          one_slot = length-set s.homes 0 (some (Some b)) ∙ r.one_slot;
          each = λ j u bt. ⊎_elim (λ (t : (j ≡ id) × (w ≡ u)). subst (FitsHistory author p left) t.1 (fits_idle author p r.log left v f h.0))
              (λ (t : (j ≢ id) × (get_elem? s.views j ≡ some u)). others_fit s r id j v u left at t.1 t.0 (h.1 j u t.1 t.0) h.0 more) (at_set s.views id j w u bt);
          reached = (id, w, set_here s.views id w (inside_of s.views id v at), inl refl);
          dealt = λ a. (let k = sum_set (times_in a) s.views id v w at in let o = r.dealt a in let z = none_told a in omega arith);
          shared = (let k = sum_set share_in s.views id v w at in let o = r.shared in omega arith);
          turn = (let one = r.one_word in let slot = r.one_slot in inl (
            get_or-set_same s.words 0 0 0 (omega arith),
            (b, set_here s.homes 0 (some (Some b)) (omega arith), refl, (let q : v.plan ≡ Some p = f.planned h.0 in cc)),
            (λ j u bt. ⊎_elim (λ (t : (j ≡ id) × (w ≡ u)). sym (ap (λ (x : V). x.holds) t.1)) (λ (t : (j ≢ id) × (get_elem? s.views j ≡ some u)). h.1 j u t.1 t.0) (at_set s.views id j w u bt)),
          ));
        },
        (b, rest, refl, refl),
      )

  -- and from where the job acted
  pub gives_back : (slots id : ℕ) (m : Me S V) (v : V) (met left : B) (by : ℕ) → m ≡ (holding_view v (history met), (0, Some left) ∷ []) → HasSettled v → MayFind plan history author v met → plan left ≡ plan met
      → by ≡ least_author v.authors → Appends author by (history met) (history left) → Allows Rule slots id m 0 (λ _. 0) (λ _. gave_turn history (step slots 0 0 0 none) m 0)
  gives_back slots id m v met left by is settled may same least grows =
      let w : V = holding_view v (history met) in
      let F : Me S V → Type 0 = λ k. Allows Rule slots id k 0 (λ _. 0) (λ _. gave_turn history (step slots 0 0 0 none) k 0) in
      let planned : v.plan ≡ Some (plan left) = may.planned ∙ ap (λ (x : P). Some x) (sym same) in
      subst F (sym is) (gives_turn slots id w left [] refl settled planned (subst (λ (a : ℕ). Appends author a (history met) (history left)) least grows))

  -- the split of a seat
  pub splits : (id : ℕ) (v : V) → 2 ≤ length v.authors → AreDistinct v.authors → v.holds ≡ false → HasSettled v → Splits Rule id v (left_view v) (newcomer_view v)
  splits id v two distinct idle settled s r at =
      let g : ℕ = greatest_author v.authors in
      let f = r.each id v at in
      let left : V = left_view v in
      let given : V = newcomer_view v in
      let once = greatest_once v.authors (omega arith) distinct in
      let l = length_without g v.authors in
      let share_told = ap length settled.0 in
      let one : State S V = with_views plan history p r.log s (set s.views id left) in
      record {
        log = r.log;
        one_word = r.one_word;
        one_slot = r.one_slot;
        each = each_snoc (FitsHistory author p r.log) (set s.views id left) given (fits_given author p r.log v f (omega arith))
            (each_set (FitsHistory author p r.log) s.views id left (fits_left author p r.log v f two distinct) r.each);
        reached = reached_snoc r.log (set s.views id left) given (reached_set r.log s.views id v left at (λ k. inl (reaches_seen r.log v settled f.begins k)) r.reached);
        dealt = λ a. (let k = sum_set (times_in a) s.views id v left at in let m = sum_snoc (times_in a) (set s.views id left) given in let o = r.dealt a in
            let t = times_parts a g v.authors once in let z = ap (times_among a) settled.0 in omega arith);
        shared = (let k = sum_set share_in s.views id v left at in let m = sum_snoc share_in (set s.views id left) given in let o = r.shared in omega arith);
        turn = turn_snoc plan history p r.log one given refl (turn_set plan history p r.log s id v left at refl (λ h. absurd (true≢false (sym h ∙ idle))) r.turn);
      }

  -- the join of two seats
  pub joins : (id other : ℕ) (v w : V) → 0 < length v.authors → HasSettled v → HasSettled w → w.holds ≡ false → Joins Rule id v other w (told_view v w) spent_view
  joins id other v w some_author settled settled_too idle s r at apart bt =
      let both : V = told_view v w in
      let f = r.each id v at in
      let at_other : get_elem? s.views other ≡ some w = sym (set_else s.views id other both apart) ∙ bt in
      let g = r.each other w at_other in
      let mid : List V = set s.views id both in
      let one : State S V = with_views plan history p r.log s mid in
      let here : get_elem? (set mid other spent_view) id ≡ some both = set_else mid other id spent_view (λ k. apart (sym k)) ∙ set_here s.views id both (inside_of s.views id v at) in
      let share_told = ap length settled.0 in
      let share_told_too = ap length settled_too.0 in
      record {
        log = r.log;
        one_word = r.one_word;
        one_slot = r.one_slot;
        each = each_set (FitsHistory author p r.log) mid other spent_view (fits_spent author p r.log) (each_set (FitsHistory author p r.log) s.views id both (fits_told author p r.log v w f g some_author) r.each);
        reached = (let k = r.reached in
            dite (ℕ_discrete k.0 other)
            (λ e. (id, both, here, inr (reaches_seen r.log w settled_too g.begins (subst (Reaches r.log) (same_view s.views other k.0 w k.1 at_other k.2 e) k.3))))
            (λ n. dite (ℕ_discrete k.0 id)
            (λ e. (id, both, here, inl (reaches_seen r.log v settled f.begins (subst (Reaches r.log) (same_view s.views id k.0 v k.1 at k.2 e) k.3))))
            (λ m. (k.0, k.1, set_else mid other k.0 spent_view n ∙ (set_else s.views id k.0 both m ∙ k.2), k.3))));
        dealt = λ a. (let k = sum_set (times_in a) s.views id v both at in let m = sum_set (times_in a) mid other w spent_view bt in let o = r.dealt a in
            let z = ap (times_among a) settled.0 in let y = ap (times_among a) settled_too.0 in omega arith);
        shared = (let k = sum_set share_in s.views id v both at in let m = sum_set share_in mid other w spent_view bt in let o = r.shared in omega arith);
        turn = turn_set plan history p r.log one other w spent_view bt (sym idle) (λ h. absurd (true≢false (sym h ∙ idle))) (turn_set plan history p r.log s id v both at refl (λ _. some_author) r.turn);
      }

  -- the table as it is made
  pub opens : (value : B) → history value ≡ [] → plan value ≡ p → 0 < seats → Rule (opening (0 ∷ []) (Some value ∷ []) (opening_view p seats))
  opens value empty is some_seat =
      let v : V = opening_view p seats in
      let fits : FitsHistory author p [] v = record {
        begins = prefix_refl [];
        begins_told = prefix_refl [];
        own_seen = refl;
        own_told = refl;
        met = λ h. absurd (true≢false (sym h));
        planned = λ _. refl;
        single = λ _. zero_below seats some_seat;
        spent = λ _. (refl, refl);
      } in
      let l = length_below seats in
      record {
        log = [];
        one_word = refl;
        one_slot = refl;
        each = λ j u at. alone_at (FitsHistory author p []) v u j at fits;
        reached = (0, v, refl, inl refl);
        dealt = λ a. (let t = times_below a seats in omega arith);
        shared = omega arith;
        turn = inl (refl, (value, refl, empty, is), λ j u at. alone_at (λ (x : V). x.holds ≡ false) v u j at refl);
      }

  -- the table as it is closed, by a seat with all authors
  pub closes : (id : ℕ) (v : V) (words : List ℕ) (slots : List S) → 0 < length v.authors → v.holds ≡ false → HasSettled v → length v.authors ≡ seats → Final (Seen Rule id v) words slots
      → (b : B) × (get_elem? slots 0 ≡ some (Some b)) × MayFind plan history author v b × (history b ≡ v.seen)
  closes id v words slots some_author idle settled all final =
      let s : State S V = final.0 in
      let r : Rule s = final.1.0 in
      let at : get_elem? s.views id ≡ some v = final.1.1 in
      let f = r.each id v at in
      let sum = r.shared in
      let nothing : r.log ≡ [] → v.seen ≡ r.log = λ z. nil_front v.seen f.begins.0 (f.begins.1 ∙ z) ∙ sym z in
      let k = r.reached in
      let whole : v.seen ≡ r.log =
      dite (ℕ_discrete k.0 id)
      (λ e. reaches_seen r.log v settled f.begins (subst (Reaches r.log) (same_view s.views id k.0 v k.1 at k.2 e) k.3))
      (λ n. let two = sum_two share_in s.views id k.0 v k.1 at k.2 (λ e. n (sym e)) in
      let spent = (r.each k.0 k.1 k.2).spent (omega arith) in
      nothing (⊎_elim (λ (t : k.1.seen ≡ r.log). sym t ∙ spent.0) (λ (t : k.1.told ≡ r.log). sym t ∙ spent.1) k.3))
      in
      elim r.turn [
        | inl t ↦
            let b : B = t.1.0 in (
              b,
              final.4 0 (Some b) t.1.1,
              record {
                planned = f.planned some_author ∙ ap (λ (x : P). Some x) (sym t.1.3);
                begins = subst (IsPrefix v.seen) (sym t.1.2) f.begins;
                own = ap (entries_by author v.authors) t.1.2 ∙ f.own_seen;
              },
              t.1.2 ∙ sym whole,
            )
        | inr t ↦
            let h = t.1 in
            absurd (dite (ℕ_discrete h.0 id)
            (λ e. true≢false (sym h.3 ∙ (ap (λ (x : V). x.holds) (same_view s.views id h.0 v h.1 at h.2 e) ∙ idle)))
            (λ n. let two = sum_two share_in s.views id h.0 v h.1 at h.2 (λ e. n (sym e)) in let one = h.4 in omega arith))
      ]

  -- the same of a list that is known to have just the value
  pub opens_with : (slots : List S) (value : B) → slots ≡ Some value ∷ [] → history value ≡ [] → plan value ≡ p → 0 < seats → Rule (opening (0 ∷ []) slots (opening_view p seats))
  opens_with slots value one empty is some_seat = subst (λ (xs : List S). Rule (opening (0 ∷ []) xs (opening_view p seats))) (sym one) (opens value empty is some_seat)

  pub closes_with : (id : ℕ) (v : V) (words : List ℕ) (slots : List S) (slot : S) → 0 < length v.authors → v.holds ≡ false → HasSettled v → length v.authors ≡ seats → Final (Seen Rule id v) words slots → get_elem? slots 0 ≡ some slot
      → (b : B) × (slot ≡ Some b) × MayFind plan history author v b × (history b ≡ v.seen)
  closes_with id v words slots slot some_author idle settled all final at =
      let k = closes id v words slots some_author idle settled all final in
      (k.0, some-injective slot (Some k.0) (sym at ∙ k.1), k.2, k.3)
