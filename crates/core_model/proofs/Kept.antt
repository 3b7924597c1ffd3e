-- What every state that a run reaches keeps.
use Rattle.std.proofs.Common.{◌≡◌, ◌≢◌, ℕ, ◌<◌, ◌≤◌, Bool, true, false, inl, inr, ⊎_elim, List, [], ◌∷◌, ◌++◌, refl, ap, sym, ◌∙◌, subst}
use Rattle.core_model.specs.Graphs.{Graph, In, IsSoundGraph, edge_at, from_task, into_task}
use Rattle.core_model.specs.declared.step.Step.{Step}
use Rattle.core_model.specs.declared.step.Step.TheVariants.{Claim, Publish, Send, Take, Park, PutDown}
use Rattle.core_model.specs.Cores.{Status, ready, held, parked, published, Core, upd, opening}
use Rattle.core_model.specs.inside.Settling.{is_settled}
use Rattle.core_model.specs.Steps.{rest_of, AllSettled, AllSent, CanSend, CanTake, Enabled, sent_on, taken_in, effect}
use Rattle.core_model.specs.Runs.{after_from, LegalFrom}
use Rattle.core_model.proofs.Find.{upd_same, upd_other, upd_cases, in_snoc, in_longer, in_last, NoDup, no_dup_snoc}
use Rattle.core_model.proofs.Settled.{settled_same}

-- the messages that wait in a channel, and the edges that they are of
pub record Kept (g : Graph) (n : ℕ) (s : Core) : Type 0 where
  pub holders : (t w : ℕ) → s.status t ≡ held w → w ≤ n
  pub waits : (c e : ℕ) → In e (s.waiting c) → (e < g.edges) × (g.channel_of e ≡ c) × (s.sent e ≡ true) × (s.taken e ≡ false)
  pub once : (c : ℕ) → NoDup (s.waiting c)
  pub lies : (e : ℕ) → e < g.edges → s.sent e ≡ true → s.taken e ≡ false → In e (s.waiting (g.channel_of e))
  pub was_sent : (e : ℕ) → s.taken e ≡ true → s.sent e ≡ true
  pub parks : (t : ℕ) → t < g.tasks → s.status t ≡ parked → (g.is_flow t ≡ true) × ((x : ℕ) × (x < g.points) × (g.owner x ≡ t) × (is_settled g s.taken x ≡ false))
      × ((e : ℕ) → e < g.edges → from_task g e ≡ t → is_settled g s.taken (g.source e) ≡ true → s.sent e ≡ true)
  pub ends : (t : ℕ) → t < g.tasks → g.is_flow t ≡ true → s.status t ≡ published → AllSettled g s t × AllSent g s t

pub no_true : {A : Type 0} → true ≡ false → A
no_true e = absurd (cc)

pub opening_kept : (g : Graph) (n : ℕ) → Kept g n opening
opening_kept g n = record {
  holders = λ t w e. absurd (cc);
  waits = λ c e i. absurd i;
  once = λ c. tt;
  lies = λ e lt s t. no_true (sym s);
  was_sent = λ e t. no_true (sym t);
  parks = λ t lt e. absurd (cc);
  ends = λ t lt f e. absurd (cc);
}

module _ (g : Graph) (n : ℕ) (sound : IsSoundGraph g) where
  -- a step that changes one task's status alone
  status_kept : (s : Core) (t : ℕ) (st : Status) (pd : ℕ → Bool) → Kept g n s
      → ((w : ℕ) → st ≡ held w → w ≤ n)
      → (t < g.tasks → st ≡ parked → (g.is_flow t ≡ true) × ((x : ℕ) × (x < g.points) × (g.owner x ≡ t) × (is_settled g s.taken x ≡ false)) × ((e : ℕ) → e < g.edges → from_task g e ≡ t → is_settled g s.taken (g.source e) ≡ true → s.sent e ≡ true))
      → (t < g.tasks → g.is_flow t ≡ true → st ≡ published → AllSettled g s t × AllSent g s t)
      → Kept g n record { status = upd s.status t st; sent = s.sent; taken = s.taken; waiting = s.waiting; has_put_down = pd }
  status_kept s t st pd k holders' parks' ends' = record {
    holders = λ u w. upd_cases (λ (z : Status). z ≡ held w → w ≤ n) s.status t u st (λ _ q. holders' w q) (λ _ q. k.holders u w q);
    waits = k.waits;
    once = k.once;
    lies = k.lies;
    was_sent = k.was_sent;
    parks = λ u lt. upd_cases (λ (z : Status). z ≡ parked → (g.is_flow u ≡ true) × ((x : ℕ) × (x < g.points) × (g.owner x ≡ u) × (is_settled g s.taken x ≡ false)) × ((e : ℕ) → e < g.edges → from_task g e ≡ u → is_settled g s.taken (g.source e) ≡ true → s.sent e ≡ true)) s.status t u st
        (λ e p. subst (λ (v : ℕ). (g.is_flow v ≡ true) × ((x : ℕ) × (x < g.points) × (g.owner x ≡ v) × (is_settled g s.taken x ≡ false)) × ((e : ℕ) → e < g.edges → from_task g e ≡ v → is_settled g s.taken (g.source e) ≡ true → s.sent e ≡ true)) (sym e) (parks' (subst (λ v. v < g.tasks) e lt) p))
        (λ ne p. k.parks u lt p);
    ends = λ u lt f. upd_cases (λ (z : Status). z ≡ published → AllSettled g s u × AllSent g s u) s.status t u st
        (λ e p. subst (λ (v : ℕ). AllSettled g s v × AllSent g s v) (sym e) (ends' (subst (λ v. v < g.tasks) e lt) (subst (λ v. g.is_flow v ≡ true) e f) p))
        (λ ne p. k.ends u lt f p);
  }

  not_taken : (s : Core) (e : ℕ) → Kept g n s → s.sent e ≡ false → s.taken e ≡ false
  not_taken s e k unsent = elim (s.taken e) as (λ b. s.taken e ≡ b → b ≡ false) [ true ↦ (λ q. no_true (sym (k.was_sent e q) ∙ unsent)) | false ↦ (λ q. refl) ] refl

  send_kept : (s : Core) (w t e : ℕ) → Kept g n s → CanSend g s w t e → Kept g n (sent_on g s e)
  send_kept s w t e k en =
      let c : ℕ = g.channel_of e in
      let not_there : In e (s.waiting c) → ⊥ = λ i. no_true (sym (k.waits c e i).2 ∙ en.5) in
      record {
        holders = k.holders;
        waits = λ c' e'. upd_cases (λ (l : List ℕ). In e' l → (e' < g.edges) × (g.channel_of e' ≡ c') × (upd s.sent e true e' ≡ true) × (s.taken e' ≡ false)) s.waiting c c' (s.waiting c ++ e ∷ [])
            (λ q i. ⊎_elim (λ old. let h = k.waits c e' old in (h.0, h.1 ∙ sym q, upd_cases (λ b. b ≡ true) s.sent e e' true (λ _. refl) (λ _. h.2), h.3))
            (λ here. (
              subst (λ z. z < g.edges) (sym here) en.2,
              ap g.channel_of here ∙ sym q,
              upd_cases (λ b. b ≡ true) s.sent e e' true (λ _. refl) (λ ne. absurd (ne here)),
              ap s.taken here ∙ not_taken s e k en.5,
            )) (in_snoc (s.waiting c) e' e i))
            (λ ne i. let h = k.waits c' e' i in (h.0, h.1, upd_cases (λ b. b ≡ true) s.sent e e' true (λ _. refl) (λ _. h.2), h.3));
        once = λ c'. upd_cases (λ (l : List ℕ). NoDup l) s.waiting c c' (s.waiting c ++ e ∷ []) (λ q. no_dup_snoc (s.waiting c) e (k.once c) not_there) (λ ne. k.once c');
        lies = λ e' lt. upd_cases (λ b. b ≡ true → s.taken e' ≡ false → In e' (upd s.waiting c (s.waiting c ++ e ∷ []) (g.channel_of e'))) s.sent e e' true
            (λ q _ _. subst (λ z. In z (upd s.waiting c (s.waiting c ++ e ∷ []) (g.channel_of z))) (sym q) (subst (λ (l : List ℕ). In e l) (sym (upd_same s.waiting c (s.waiting c ++ e ∷ []))) (in_last (s.waiting c) e)))
            (λ ne was not'. let old = k.lies e' lt was not' in
            upd_cases (λ (l : List ℕ). In e' l) s.waiting c (g.channel_of e') (s.waiting c ++ e ∷ []) (λ q. in_longer (s.waiting c) (e ∷ []) e' (subst (λ z. In e' (s.waiting z)) q old)) (λ _. old));
        was_sent = λ e' h. upd_cases (λ b. b ≡ true) s.sent e e' true (λ _. refl) (λ _. k.was_sent e' h);
        parks = λ u lt p. let h = k.parks u lt p in (h.0, h.1, λ e' l f st. upd_cases (λ b. b ≡ true) s.sent e e' true (λ _. refl) (λ _. h.2 e' l f st));
        ends = λ u lt f p. let h = k.ends u lt f p in (h.0, λ e' l q. upd_cases (λ b. b ≡ true) s.sent e e' true (λ _. refl) (λ _. h.1 e' l q));
      }

  take_kept : (s : Core) (w t e : ℕ) → Kept g n s → CanTake g s w t e → Kept g n (taken_in g s e)
  take_kept s w t e k en =
      let c : ℕ = g.channel_of e in
      let later : List ℕ = en.4.0 in
      let front : s.waiting c ≡ e ∷ later = en.4.1 in
      let lt' : upd s.waiting c (rest_of (s.waiting c)) c ≡ later = upd_same s.waiting c (rest_of (s.waiting c)) ∙ ap rest_of front in
      let once' : NoDup (e ∷ later) = subst NoDup front (k.once c) in
      let in_later : (e' : ℕ) → In e' later → In e' (s.waiting c) = λ e' i. subst (λ (l : List ℕ). In e' l) (sym front) (inr i) in
      let rest_is : rest_of (s.waiting c) ≡ later = ap rest_of front in
      let same_else : (u : ℕ) → u ≢ t → (e' : ℕ) → e' < g.edges → into_task g e' ≡ u → s.taken e' ≡ upd s.taken e true e' = λ u ne e' l q. sym (upd_other s.taken e e' true (λ z. ne (sym q ∙ ap (into_task g) z ∙ en.3))) in
      record {
        holders = k.holders;
        waits = λ c' e'. upd_cases (λ (l : List ℕ). In e' l → (e' < g.edges) × (g.channel_of e' ≡ c') × (s.sent e' ≡ true) × (upd s.taken e true e' ≡ false)) s.waiting c c' (rest_of (s.waiting c))
            (λ q i. let i' : In e' later = subst (λ (l : List ℕ). In e' l) rest_is i in let h = k.waits c e' (in_later e' i') in
            (h.0, h.1 ∙ sym q, h.2, upd_other s.taken e e' true (λ z. once'.0 (subst (λ v. In v later) z i')) ∙ h.3))
            (λ ne i. let h = k.waits c' e' i in (h.0, h.1, h.2, upd_other s.taken e e' true (λ z. ne (sym h.1 ∙ ap g.channel_of z)) ∙ h.3));
        once = λ c'. upd_cases (λ (l : List ℕ). NoDup l) s.waiting c c' (rest_of (s.waiting c)) (λ q. subst NoDup (sym rest_is) once'.1) (λ ne. k.once c');
        lies = λ e' lt was. upd_cases (λ b. b ≡ false → In e' (upd s.waiting c (rest_of (s.waiting c)) (g.channel_of e'))) s.taken e e' true
            (λ q z. no_true z)
            (λ ne z. let old = k.lies e' lt was z in
            upd_cases (λ (l : List ℕ). In e' l) s.waiting c (g.channel_of e') (rest_of (s.waiting c))
            (λ q. let here : In e' (e ∷ later) = subst (λ (l : List ℕ). In e' l) (ap s.waiting q ∙ front) old in subst (λ (l : List ℕ). In e' l) (sym rest_is) (⊎_elim (λ z'. absurd (ne z')) (λ i. i) here))
            (λ _. old));
        was_sent = λ e'. upd_cases (λ b. b ≡ true → s.sent e' ≡ true) s.taken e e' true (λ q _. ap s.sent q ∙ (k.waits c e (subst (λ (l : List ℕ). In e l) (sym front) (inl refl))).2) (λ _ h. k.was_sent e' h);
        parks = λ u lt p. let h = k.parks u lt p in let x = h.1 in
            let ne : u ≢ t = λ z. absurd (let q : held w ≡ parked = sym en.1.0 ∙ ap s.status (sym z) ∙ p in cc) in (
              h.0,
              (x.0, x.1, x.2, sym (settled_same g sound s.taken (upd s.taken e true) u (same_else u ne) x.0 x.1 x.2) ∙ x.3),
              λ e' l f st. h.2 e' l f (settled_same g sound s.taken (upd s.taken e true) u (same_else u ne) (g.source e') (sound.edges_join e' l).source_in ((sound.edges_join e' l).source_owner ∙ f) ∙ st),
            );
        ends = λ u lt f p. let h = k.ends u lt f p in
            let ne : u ≢ t = λ z. absurd (let q : held w ≡ published = sym en.1.0 ∙ ap s.status (sym z) ∙ p in cc) in
            (λ x l o. sym (settled_same g sound s.taken (upd s.taken e true) u (same_else u ne) x l o) ∙ h.0 x l o, h.1);
      }

  pub step_kept : (s : Core) (x : Step) → Kept g n s → Enabled g s n x → Kept g n (effect g s x)
  step_kept s (Claim w t) k en = status_kept s t (held w) s.has_put_down k (λ v q. subst (λ z. z ≤ n) (let h : w ≡ v = cc in h) en.0) (λ _ e. absurd (cc)) (λ _ _ e. absurd (cc))
  step_kept s (Publish w t) k en = status_kept s t published s.has_put_down k (λ v q. absurd (cc)) (λ _ e. absurd (cc)) (λ _ f _. en.1.2 f)
  step_kept s (Send w t e) k en = send_kept s w t (edge_at g t e) k en.1
  step_kept s (Take w t e) k en = take_kept s w t (edge_at g t e) k en.1
  step_kept s (Park w t) k en = status_kept s t parked s.has_put_down k (λ v q. absurd (cc)) (λ _ _. (en.1.1.1, en.1.2, en.1.3)) (λ _ _ e. absurd (cc))
  step_kept s (PutDown w t) k en = status_kept s t ready (upd s.has_put_down w true) k (λ v q. absurd (cc)) (λ _ e. absurd (cc)) (λ _ _ e. absurd (cc))

  pub run_kept : (s : Core) (xs : List Step) → Kept g n s → LegalFrom g n s xs → Kept g n (after_from g s xs)
  run_kept s [] k l = k
  run_kept s (x ∷ xs) k l = run_kept (effect g s x) xs (step_kept s x k l.0) l.1
