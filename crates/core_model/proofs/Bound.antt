-- A run has at most so many steps: what each kind of step uses up.
use Rattle.std.proofs.Common.{◌≡◌, ◌≢◌, ℕ, zero, suc, ◌+◌, ◌*◌, ◌<◌, ◌≤◌, Bool, true, false, cond, ◌==◌, ◌&&◌, ◌||◌, eq-eqb, ne_eqb, inl, ⊎_elim, List, [], ◌∷◌, ◌++◌, length, refl, ap, sym, ◌∙◌, subst, arith}
use mathlib.Core.Logic.{dite}
use native.Mathlib.Decide.{ℕ_discrete}
use Rattle.core_model.specs.Graphs.{Feed, inside, over_edge, Graph, In, FeedsWell, IsSoundGraph, edge_at, into_task}
use Rattle.core_model.specs.declared.step.Step.{Step}
use Rattle.core_model.specs.declared.step.Step.TheVariants.{Claim, Publish, Send, Take, Park, PutDown}
use Rattle.core_model.specs.Cores.{Status, ready, held, parked, published, Core, upd, opening}
use Rattle.core_model.specs.inside.Settling.{feed_has_come, is_settled}
use Rattle.core_model.specs.Steps.{rest_of, NoneWaits, CanTake, Allows, effect}
use Rattle.core_model.specs.Runs.{after_from, LegalFrom, after}
use Rattle.core_model.specs.Counts.{tally, flag}
use Rattle.core_model.specs.Laws.{puts_down, Bounded}
use Rattle.core_model.proofs.Find.{upd_same, upd_other, upd_cases, bool_cases, find_least, each_from}
use Rattle.core_model.proofs.Settled.{settled_is, fed_well, each_all_fed}
use Rattle.core_model.proofs.Kept.{Kept, opening_kept, step_kept, run_kept, no_true}
use Rattle.core_model.specs.Counts.{sum_below}
use Rattle.core_model.proofs.Sums.{sum_same, sum_le, sum_change, sum_at, sum_zero, sum_ones, sum_add, sum_shared, any_below, any_here, any_none, any_same}
use Rattle.core_model.proofs.Stuck.{is_empty, filled_is, not_b, not_is, not_not, both, both_are, either_not, same_eqb}

abbrev claims_of : Step → ℕ
claims_of (Claim w t) = 1
claims_of (Publish w t) = 0
claims_of (Send w t e) = 0
claims_of (Take w t e) = 0
claims_of (Park w t) = 0
claims_of (PutDown w t) = 0

abbrev publishes_of : Step → ℕ
publishes_of (Claim w t) = 0
publishes_of (Publish w t) = 1
publishes_of (Send w t e) = 0
publishes_of (Take w t e) = 0
publishes_of (Park w t) = 0
publishes_of (PutDown w t) = 0

abbrev sends_of : Step → ℕ
sends_of (Claim w t) = 0
sends_of (Publish w t) = 0
sends_of (Send w t e) = 1
sends_of (Take w t e) = 0
sends_of (Park w t) = 0
sends_of (PutDown w t) = 0

abbrev takes_of : Step → ℕ
takes_of (Claim w t) = 0
takes_of (Publish w t) = 0
takes_of (Send w t e) = 0
takes_of (Take w t e) = 1
takes_of (Park w t) = 0
takes_of (PutDown w t) = 0

abbrev parks_of : Step → ℕ
parks_of (Claim w t) = 0
parks_of (Publish w t) = 0
parks_of (Send w t e) = 0
parks_of (Take w t e) = 0
parks_of (Park w t) = 1
parks_of (PutDown w t) = 0

all_kinds : (xs : List Step) → length xs ≡ tally claims_of xs + tally publishes_of xs + tally sends_of xs + tally takes_of xs + tally parks_of xs + tally puts_down xs
all_kinds [] = refl
all_kinds (Claim w t ∷ xs) = let r = all_kinds xs in omega arith
all_kinds (Publish w t ∷ xs) = let r = all_kinds xs in omega arith
all_kinds (Send w t e ∷ xs) = let r = all_kinds xs in omega arith
all_kinds (Take w t e ∷ xs) = let r = all_kinds xs in omega arith
all_kinds (Park w t ∷ xs) = let r = all_kinds xs in omega arith
all_kinds (PutDown w t ∷ xs) = let r = all_kinds xs in omega arith

abbrev pub_of : Status → ℕ
pub_of ready = 0
pub_of (held w) = 0
pub_of parked = 0
pub_of published = 1

abbrev held_of : Status → ℕ
held_of ready = 0
held_of (held w) = 1
held_of parked = 0
held_of published = 0

abbrev is_parked : Status → Bool
is_parked ready = false
is_parked (held w) = false
is_parked parked = true
is_parked published = false

pub_held : (st : Status) → pub_of st + held_of st ≤ 1
pub_held ready = omega arith
pub_held (held w) = omega arith
pub_held parked = omega arith
pub_held published = omega arith

pub flag_most : (b : Bool) → flag b ≤ 1
flag_most true = omega arith
flag_most false = omega arith

flag_one : (b : Bool) → flag (not_b b) + flag b ≡ 1
flag_one true = refl
flag_one false = refl

or_yes : (b : Bool) → flag (b || true) ≡ 1
or_yes true = refl
or_yes false = refl

and_no : (b : Bool) → (b && false) ≡ false
and_no true = refl
and_no false = refl

full_is : (l : List ℕ) → l ≢ [] → not_b (is_empty l) ≡ true
full_is [] h = absurd (h refl)
full_is (x ∷ xs) h = refl

snoc_full : (l : List ℕ) (e : ℕ) → not_b (is_empty (l ++ e ∷ [])) ≡ true
snoc_full [] e = refl
snoc_full (x ∷ xs) e = refl

parked_is : (st : Status) → is_parked st ≡ true → st ≡ parked
parked_is ready e = no_true (sym e)
parked_is (held w) e = no_true (sym e)
parked_is parked e = refl
parked_is published e = no_true (sym e)

-- flag more flag is set
pub flag_sum : (n : ℕ) (f : ℕ → Bool) (i : ℕ) → i < n → f i ≡ false → sum_below n (λ e. flag (upd f i true e)) ≡ sum_below n (λ e. flag (f e)) + 1
flag_sum n f i lt un =
    let r = sum_change n i (λ e. flag (f e)) (λ e. flag (upd f i true e)) lt (λ k l ne. ap flag (upd_other f i k true ne)) in
    let q : flag (upd f i true i) ≡ 1 = ap flag (upd_same f i true) in let z : flag (f i) ≡ 0 = ap flag un in omega arith

module _ (g : Graph) (n : ℕ) (sound : IsSoundGraph g) where
  P : Core → ℕ
  P s = sum_below g.tasks (λ t. pub_of (s.status t))

  H : Core → ℕ
  H s = sum_below g.tasks (λ t. held_of (s.status t))

  -- a sum over the tasks, where flag status is changed
  status_sum : (f : Status → ℕ) (status : ℕ → Status) (t : ℕ) (st : Status) → t < g.tasks → sum_below g.tasks (λ k. f (upd status t st k)) + f (status t) ≡ sum_below g.tasks (λ k. f (status k)) + f st
  status_sum f status t st lt =
      let r = sum_change g.tasks t (λ k. f (status k)) (λ k. f (upd status t st k)) lt (λ k l ne. ap f (upd_other status t k st ne)) in
      let q : f (upd status t st t) ≡ f st = ap f (upd_same status t st) in omega arith

  published_step : (s : Core) (x : Step) → Allows g s x → publishes_of x + P s ≡ P (effect g s x)
  unfolding P
  published_step s (Claim w t) en = let r = status_sum pub_of s.status t (held w) en.0 in let q : pub_of (s.status t) ≡ 0 = ⊎_elim (λ a. ap pub_of a.0) (λ a. ap pub_of a.0) en.2 in omega arith
  published_step s (Publish w t) en = let r = status_sum pub_of s.status t published en.0 in let q : pub_of (s.status t) ≡ 0 = ap pub_of en.1 in omega arith
  published_step s (Send w t e) en = omega arith
  published_step s (Take w t e) en = omega arith
  published_step s (Park w t) en = let r = status_sum pub_of s.status t parked en.0 in let q : pub_of (s.status t) ≡ 0 = ap pub_of en.1.0 in omega arith
  published_step s (PutDown w t) en = let r = status_sum pub_of s.status t ready en.0 in let q : pub_of (s.status t) ≡ 0 = ap pub_of en.1 in omega arith

  held_step : (s : Core) (x : Step) → Allows g s x → claims_of x + H s ≡ H (effect g s x) + publishes_of x + parks_of x + puts_down x
  unfolding H
  held_step s (Claim w t) en = let r = status_sum held_of s.status t (held w) en.0 in let q : held_of (s.status t) ≡ 0 = ⊎_elim (λ a. ap held_of a.0) (λ a. ap held_of a.0) en.2 in omega arith
  held_step s (Publish w t) en = let r = status_sum held_of s.status t published en.0 in let q : held_of (s.status t) ≡ 1 = ap held_of en.1 in omega arith
  held_step s (Send w t e) en = omega arith
  held_step s (Take w t e) en = omega arith
  held_step s (Park w t) en = let r = status_sum held_of s.status t parked en.0 in let q : held_of (s.status t) ≡ 1 = ap held_of en.1.0 in omega arith
  held_step s (PutDown w t) en = let r = status_sum held_of s.status t ready en.0 in let q : held_of (s.status t) ≡ 1 = ap held_of en.1 in omega arith

  sent_sum_step : (s : Core) (x : Step) → Allows g s x → sends_of x + sum_below g.edges (λ e. flag (s.sent e)) ≡ sum_below g.edges (λ e. flag ((effect g s x).sent e))
  sent_sum_step s (Claim w t) en = omega arith
  sent_sum_step s (Publish w t) en = omega arith
  sent_sum_step s (Send w t e) en = let r = flag_sum g.edges s.sent (edge_at g t e) en.2 en.5 in omega arith
  sent_sum_step s (Take w t e) en = omega arith
  sent_sum_step s (Park w t) en = omega arith
  sent_sum_step s (PutDown w t) en = omega arith

  taken_was : (s : Core) (w t e : ℕ) → Kept g n s → CanTake g s w t e → s.taken e ≡ false
  taken_was s w t e k en = (k.waits (g.channel_of e) e (subst (λ (l : List ℕ). In e l) (sym en.4.1) (inl refl))).3

  taken_sum_step : (s : Core) (x : Step) → Kept g n s → Allows g s x → takes_of x + sum_below g.edges (λ e. flag (s.taken e)) ≡ sum_below g.edges (λ e. flag ((effect g s x).taken e))
  taken_sum_step s (Claim w t) k en = omega arith
  taken_sum_step s (Publish w t) k en = omega arith
  taken_sum_step s (Send w t e) k en = omega arith
  taken_sum_step s (Take w t e) k en = let r = flag_sum g.edges s.taken (edge_at g t e) en.2 (taken_was s w t (edge_at g t e) k en) in omega arith
  taken_sum_step s (Park w t) k en = omega arith
  taken_sum_step s (PutDown w t) k en = omega arith

  -- a message waits for the task
  abbrev waits_for : (ℕ → List ℕ) → ℕ → Bool
  waits_for waiting t = any_below g.channels (λ c. (g.into c == t) && not_b (is_empty (waiting c)))

  -- it is parked, or a message waits for it
  abbrev due : Core → ℕ → ℕ
  due s t = flag (is_parked (s.status t) || waits_for s.waiting t)

  abbrev Spent : Core → ℕ
  Spent s = sum_below g.edges (λ e. flag (s.taken e)) + sum_below g.tasks (due s)

  waits_same : (waiting : ℕ → List ℕ) (c t : ℕ) (l : List ℕ) → g.into c ≢ t → waits_for (upd waiting c l) t ≡ waits_for waiting t
  waits_same waiting c t l ne = any_same g.channels (λ c'. (g.into c' == t) && not_b (is_empty (upd waiting c l c'))) (λ c'. (g.into c' == t) && not_b (is_empty (waiting c')))
      (λ c' lt. upd_cases (λ (z : List ℕ). ((g.into c' == t) && not_b (is_empty z)) ≡ ((g.into c' == t) && not_b (is_empty (waiting c')))) waiting c c' l
      (λ q. let f : (g.into c' == t) ≡ false = ne_eqb (g.into c') t (λ z. ne (ap g.into (sym q) ∙ z)) in
      ap (λ b. b && not_b (is_empty l)) f ∙ sym (ap (λ b. b && not_b (is_empty (waiting c'))) f))
      (λ _. refl))

  due_most : (s : Core) (t : ℕ) → due s t ≤ 1
  due_most s t = elim (is_parked (s.status t) || waits_for s.waiting t) as (λ b. flag b ≤ 1) [ true ↦ omega arith | false ↦ omega arith ]

  -- where flag status changes and the due of its task does not fall
  due_status : (s : Core) (t : ℕ) (st : Status) → t < g.tasks → sum_below g.tasks (λ k. flag (is_parked (upd s.status t st k) || waits_for s.waiting k)) + due s t ≡ sum_below g.tasks (due s) + flag (is_parked st || waits_for s.waiting t)
  due_status s t st lt =
      let r = sum_change g.tasks t (due s) (λ k. flag (is_parked (upd s.status t st k) || waits_for s.waiting k)) lt (λ k l ne. ap (λ (z : Status). flag (is_parked z || waits_for s.waiting k)) (upd_other s.status t k st ne)) in
      let q : flag (is_parked (upd s.status t st t) || waits_for s.waiting t) ≡ flag (is_parked st || waits_for s.waiting t) = ap (λ (z : Status). flag (is_parked z || waits_for s.waiting t)) (upd_same s.status t st) in omega arith

  waits_at : (s : Core) (c t : ℕ) → c < g.channels → g.into c ≡ t → s.waiting c ≢ [] → waits_for s.waiting t ≡ true
  waits_at s c t lt i full = any_here g.channels c (λ c. (g.into c == t) && not_b (is_empty (s.waiting c))) lt (both_are (g.into c == t) (not_b (is_empty (s.waiting c))) (eq-eqb (g.into c) t i) (full_is (s.waiting c) full))

  none_at : (s : Core) (t : ℕ) → NoneWaits g s t → waits_for s.waiting t ≡ false
  none_at s t none' = any_none g.channels (λ c. (g.into c == t) && not_b (is_empty (s.waiting c))) (λ c lt. dite (ℕ_discrete (g.into c) t)
      (λ e. ap (λ (l : List ℕ). (g.into c == t) && not_b (is_empty l)) (none' c lt e) ∙ and_no (g.into c == t))
      (λ ne. ap (λ b. b && not_b (is_empty (s.waiting c))) (ne_eqb (g.into c) t ne)))

  -- what is spent grows with each park
  spent_step : (s : Core) (x : Step) → Kept g n s → Allows g s x → parks_of x + Spent s ≤ Spent (effect g s x)
  spent_step s (Claim w t) k en =
      let r = due_status s t (held w) en.0 in
      ⊎_elim
      (λ a. let q : due s t ≡ flag (false || waits_for s.waiting t) = ap (λ (z : Status). flag (is_parked z || waits_for s.waiting t)) a.0 in omega arith)
      (λ a. let q : flag (false || waits_for s.waiting t) ≡ 1 = ap flag (waits_at s a.1.0 t a.1.1 a.1.2 a.1.3) in let m = due_most s t in omega arith)
      en.2
  spent_step s (Publish w t) k en = let r = due_status s t published en.0 in let q : due s t ≡ flag (false || waits_for s.waiting t) = ap (λ (z : Status). flag (is_parked z || waits_for s.waiting t)) en.1 in omega arith
  spent_step s (Send w t d) k en =
      let e : ℕ = edge_at g t d in
      let c : ℕ = g.channel_of e in
      let u : ℕ = g.into c in
      let l : List ℕ = s.waiting c ++ e ∷ [] in
      let c_lt = (sound.edges_join e en.2).channel_in in
      let j = sound.channels_join c c_lt in
      let r = sum_change g.tasks u (due s) (λ t'. flag (is_parked (s.status t') || waits_for (upd s.waiting c l) t')) j.into_in (λ t' lt ne. ap (λ b. flag (is_parked (s.status t') || b)) (waits_same s.waiting c t' l (λ z. ne (sym z)))) in
      let filled : waits_for (upd s.waiting c l) u ≡ true = any_here g.channels c (λ c'. (g.into c' == u) && not_b (is_empty (upd s.waiting c l c'))) c_lt
      (both_are (g.into c == u) (not_b (is_empty (upd s.waiting c l c))) (eq-eqb (g.into c) u refl) (ap (λ (z : List ℕ). not_b (is_empty z)) (upd_same s.waiting c l) ∙ snoc_full (s.waiting c) e)) in
      let q : flag (is_parked (s.status u) || waits_for (upd s.waiting c l) u) ≡ 1 = ap (λ b. flag (is_parked (s.status u) || b)) filled ∙ or_yes (is_parked (s.status u)) in
      let m = due_most s u in omega arith
  spent_step s (Take w t d) k en =
      let e : ℕ = edge_at g t d in
      let c : ℕ = g.channel_of e in
      let l : List ℕ = rest_of (s.waiting c) in
      let r = sum_change g.tasks t (due s) (λ t'. flag (is_parked (s.status t') || waits_for (upd s.waiting c l) t')) en.0 (λ t' lt ne. ap (λ b. flag (is_parked (s.status t') || b)) (waits_same s.waiting c t' l (λ z. ne (sym z ∙ en.3)))) in
      let f = flag_sum g.edges s.taken e en.2 (taken_was s w t e k en) in
      let m = due_most s t in omega arith
  spent_step s (Park w t) k en =
      let r = due_status s t parked en.0 in
      let q : due s t ≡ 0 = ap (λ (z : Status). flag (is_parked z || waits_for s.waiting t)) en.1.0 ∙ ap flag (none_at s t en.4) in omega arith
  spent_step s (PutDown w t) k en = let r = due_status s t ready en.0 in let q : due s t ≡ flag (false || waits_for s.waiting t) = ap (λ (z : Status). flag (is_parked z || waits_for s.waiting t)) en.1 in omega arith

  feed_all : (taken : ℕ → Bool) (t x n : ℕ) → g.owner x ≡ t → g.load x < suc n → ((e : ℕ) → e < g.edges → into_task g e ≡ t → taken e ≡ true) → ((d : ℕ) → g.load d < n → d < g.points → g.owner d ≡ t → is_settled g taken d ≡ true)
      → (f : Feed) → FeedsWell g x f → feed_has_come taken (is_settled g taken) f ≡ true
  feed_all taken t x n own low all ih (inside d) w = ih d (let a = w.2 in omega arith) w.0 (w.1 ∙ own)
  feed_all taken t x n own low all ih (over_edge e) w = all e w.0 (sym (sound.edges_join e w.0).target_owner ∙ ap g.owner w.1 ∙ own)

  -- where all messages into a tile were taken, its points are settled
  all_settled : (taken : ℕ → Bool) (t : ℕ) → ((e : ℕ) → e < g.edges → into_task g e ≡ t → taken e ≡ true) → (n x : ℕ) → g.load x < n → x < g.points → g.owner x ≡ t → is_settled g taken x ≡ true
  all_settled taken t all zero x low lt own = absurd (omega arith)
  all_settled taken t all (suc n) x low lt own =
      settled_is g sound taken x lt ∙ each_all_fed (feed_has_come taken (is_settled g taken)) (g.feeds x) (each_from _ (g.feeds x) (λ f i. feed_all taken t x n own low all (λ d l d_lt o. all_settled taken t all n d l d_lt o) f (fed_well g sound x f lt i)))

  abbrev untaken_into : Core → ℕ → ℕ
  untaken_into s t = sum_below g.edges (λ e. cond (into_task g e == t) (flag (not_b (s.taken e))) 0)

  untaken_at : (s : Core) (t e : ℕ) → e < g.edges → into_task g e ≡ t → s.taken e ≡ false → 1 ≤ untaken_into s t
  untaken_at s t e lt i un =
      let r = sum_at g.edges e (λ e. cond (into_task g e == t) (flag (not_b (s.taken e))) 0) lt in
      let q : cond (into_task g e == t) (flag (not_b (s.taken e))) 0 ≡ 1 = ap (λ b. cond b (flag (not_b (s.taken e))) 0) (eq-eqb (into_task g e) t i) ∙ ap (λ b. flag (not_b b)) un in omega arith

  -- a task that is due has a message that was not taken
  due_untaken : (s : Core) → Kept g n s → (t : ℕ) → t < g.tasks → due s t ≤ untaken_into s t
  due_untaken s k t lt = bool_cases (is_parked (s.status t))
      (λ p. let x = (k.parks t lt (parked_is (s.status t) p)).1 in
      ⊎_elim
      (λ e. let b = both (into_task g e.0 == t) (not_b (s.taken e.0)) e.2 in let r = untaken_at s t e.0 e.1 (same_eqb (into_task g e.0) t b.0) (not_is (s.taken e.0) b.1) in let m = due_most s t in omega arith)
      (λ none'. no_true (sym (all_settled s.taken t (λ e l i. not_not (s.taken e) (either_not (into_task g e == t) (not_b (s.taken e)) (none' e l) (eq-eqb (into_task g e) t i))) (suc (g.load x.0)) x.0 (omega arith) x.1 x.2) ∙ x.3))
      (find_least g.edges (λ e. (into_task g e == t) && not_b (s.taken e))))
      (λ n. ⊎_elim
      (λ c. let b = both (g.into c.0 == t) (not_b (is_empty (s.waiting c.0))) c.2 in
      let l = filled_is (s.waiting c.0) (not_is (is_empty (s.waiting c.0)) b.1) in
      let h = k.waits c.0 l.0 (subst (λ (z : List ℕ). In l.0 z) (sym l.1.1) (inl refl)) in
      let r = untaken_at s t l.0 h.0 (ap g.into h.1 ∙ same_eqb (g.into c.0) t b.0) h.3 in let m = due_most s t in omega arith)
      (λ none'. let q : due s t ≡ 0 = ap (λ b. flag (b || waits_for s.waiting t)) n ∙ ap flag (any_none g.channels (λ c. (g.into c == t) && not_b (is_empty (s.waiting c))) none') in omega arith)
      (find_least g.channels (λ c. (g.into c == t) && not_b (is_empty (s.waiting c)))))

  spent_most : (s : Core) → Kept g n s → Spent s ≤ g.edges
  spent_most s k =
      let a = sum_le g.tasks (due s) (untaken_into s) (due_untaken s k) in
      let b = sum_shared g.tasks g.edges (into_task g) (λ e. flag (not_b (s.taken e))) in
      let c = sum_add g.edges (λ e. flag (not_b (s.taken e))) (λ e. flag (s.taken e)) in
      let d = sum_same g.edges (λ e. flag (not_b (s.taken e)) + flag (s.taken e)) (λ _. 1) (λ e _. flag_one (s.taken e)) in
      let f = sum_ones g.edges in omega arith

  record Uses (s : Core) (xs : List Step) : Type 0 where
    published : tally publishes_of xs + P s ≡ P (after_from g s xs)
    held : tally claims_of xs + H s ≡ H (after_from g s xs) + tally publishes_of xs + tally parks_of xs + tally puts_down xs
    sent : tally sends_of xs + sum_below g.edges (λ e. flag (s.sent e)) ≡ sum_below g.edges (λ e. flag ((after_from g s xs).sent e))
    taken : tally takes_of xs + sum_below g.edges (λ e. flag (s.taken e)) ≡ sum_below g.edges (λ e. flag ((after_from g s xs).taken e))
    parked : tally parks_of xs + Spent s ≤ Spent (after_from g s xs)

  uses : (s : Core) (xs : List Step) → Kept g n s → LegalFrom g n s xs → Uses s xs
  uses s [] k l = record { published = omega arith; held = omega arith; sent = omega arith; taken = omega arith; parked = omega arith }
  uses s (x ∷ xs) k l =
      let r = uses (effect g s x) xs (step_kept g n sound s x k l.0) l.1 in
      let en = l.0.1 in
      let a = published_step s x en in let b = held_step s x en in let c = sent_sum_step s x en in let d = taken_sum_step s x k en in let f = spent_step s x k en in
      let r1 = r.published in let r2 = r.held in let r3 = r.sent in let r4 = r.taken in let r5 = r.parked in
      record { published = omega arith; held = omega arith; sent = omega arith; taken = omega arith; parked = omega arith }

  tasks_most : (s : Core) → P s + H s ≤ g.tasks
  unfolding P H
  tasks_most s =
      let a = sum_add g.tasks (λ t. pub_of (s.status t)) (λ t. held_of (s.status t)) in
      let b = sum_le g.tasks (λ t. pub_of (s.status t) + held_of (s.status t)) (λ _. 1) (λ t _. pub_held (s.status t)) in
      let c = sum_ones g.tasks in omega arith

  flags_most : (f : ℕ → Bool) → sum_below g.edges (λ e. flag (f e)) ≤ g.edges
  flags_most f = let b = sum_le g.edges (λ e. flag (f e)) (λ _. 1) (λ e _. flag_most (f e)) in let c = sum_ones g.edges in omega arith

  opens_with : P opening + H opening ≡ 0
  unfolding P H
  opens_with = let a = sum_zero g.tasks in omega arith

  bound : (xs : List Step) → LegalFrom g n opening xs → length xs ≤ 2 * g.tasks + 4 * g.edges + 2 * tally puts_down xs
  bound xs l =
      let k = run_kept g n sound opening xs (opening_kept g n) l in
      let u = uses opening xs (opening_kept g n) l in
      let s : Core = after g xs in
      let a = tasks_most s in let b = flags_most s.sent in let c = flags_most s.taken in let d = spent_most s k in let o = opens_with in let kinds = all_kinds xs in
      let u1 = u.published in let u2 = u.held in let u3 = u.sent in let u4 = u.taken in let u5 = u.parked in omega arith

pub bounded : Bounded
bounded g n xs sound legal = bound g n sound xs legal
