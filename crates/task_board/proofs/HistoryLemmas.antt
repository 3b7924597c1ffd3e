-- What a history lists of a task's edges, and what its state has of them.
use Rattle.std.proofs.Common.{◌≡◌, ℕ, ◌+◌, Bool, true, cond, ◌==◌, eq-eqb, ne_eqb, ◌⊎◌, inl, inr, ⊎_elim, List, [], ◌∷◌, ◌++◌, refl, ap, sym, ◌∙◌, subst, arith}
use mathlib.Core.Logic.{dite}
use native.Mathlib.Decide.{ℕ_discrete}
use Rattle.core_model.specs.declared.step.Step.{Step}
use Rattle.core_model.specs.declared.step.Step.TheVariants.{Claim, Publish, Send, Take, Park, PutDown}
use Rattle.core_model.specs.Graphs.{Graph, In, edge_at, from_task, into_task}
use Rattle.core_model.specs.Cores.{Core, upd}
use Rattle.core_model.specs.Steps.{Allows, effect}
use Rattle.core_model.specs.Runs.{LegalFrom, after_from}
use Rattle.core_model.specs.TaskHistories.{sends_for, sent_edges, taken_edges, takes_for}
use Rattle.core_model.proofs.Callers.{upd_cases, upd_same}

in_left : {A : Type 0} (a : A) (xs ys : List A) → In a xs → In a (xs ++ ys)
in_left a [] ys i = absurd i
in_left a (x ∷ xs) ys i = ⊎_elim (λ q. inl q) (λ j. inr (in_left a xs ys j)) i

in_right : {A : Type 0} (a : A) (xs ys : List A) → In a ys → In a (xs ++ ys)
in_right a [] ys i = i
in_right a (x ∷ xs) ys i = inr (in_right a xs ys i)

in_both : {A : Type 0} (a : A) (xs ys : List A) → In a (xs ++ ys) → In a xs ⊎ In a ys
in_both a [] ys i = inr i
in_both a (x ∷ xs) ys i = ⊎_elim (λ q. inl (inl q)) (λ j. ⊎_elim (λ k. inl (inr k)) (λ k. inr k) (in_both a xs ys j)) i

one_here : (u t d e : ℕ) → u ≡ t → d ≡ e → In e (cond (u == t) (d ∷ []) [])
one_here u t d e q r = subst (λ (b : Bool). In e (cond b (d ∷ []) [])) (sym (eq-eqb u t q)) (inl (sym r))

here_one : (u t d e : ℕ) → In e (cond (u == t) (d ∷ []) []) → (u ≡ t) × (d ≡ e)
here_one u t d e i = dite (ℕ_discrete u t)
    (λ q. (q, ⊎_elim (λ (k : e ≡ d). sym k) (λ k. absurd k) (subst (λ (b : Bool). In e (cond b (d ∷ []) [])) (eq-eqb u t q) i)))
    (λ ne. absurd (subst (λ (b : Bool). In e (cond b (d ∷ []) [])) (ne_eqb u t ne) i))

module _ (g : Graph) where
  same_edge : (t u e d : ℕ) → t ≡ u → edge_at g t e ≡ edge_at g u d → d ≡ e
  same_edge t u e d q r = let z : g.first_edge t + e ≡ g.first_edge t + d = r ∙ ap (λ k. g.first_edge k + d) (sym q) in omega arith

  -- an edge that a step sends is listed for its task
  sent_step : (s : Core) (x : Step) (t e : ℕ) → Allows g s x → from_task g (edge_at g t e) ≡ t → (effect g s x).sent (edge_at g t e) ≡ true → (s.sent (edge_at g t e) ≡ true) ⊎ In e (sends_for t x)
  sent_step s (Claim w u) t e en from is = inl is
  sent_step s (Publish w u) t e en from is = inl is
  sent_step s (Send w u d) t e en from is = dite (ℕ_discrete (edge_at g t e) (edge_at g u d))
      (λ q. let same : t ≡ u = sym from ∙ ap (from_task g) q ∙ en.3 in inr (one_here u t d e (sym same) (same_edge t u e d same q)))
      (λ ne. inl (upd_cases (λ (b : Bool). b ≡ true → s.sent (edge_at g t e) ≡ true) s.sent (edge_at g u d) (edge_at g t e) true (λ q _. absurd (ne q)) (λ _ k. k) is))
  sent_step s (Take w u d) t e en from is = inl is
  sent_step s (Park w u) t e en from is = inl is
  sent_step s (PutDown w u) t e en from is = inl is

  taken_step : (s : Core) (x : Step) (t e : ℕ) → Allows g s x → into_task g (edge_at g t e) ≡ t → (effect g s x).taken (edge_at g t e) ≡ true → (s.taken (edge_at g t e) ≡ true) ⊎ In e (takes_for t x)
  taken_step s (Claim w u) t e en into is = inl is
  taken_step s (Publish w u) t e en into is = inl is
  taken_step s (Send w u d) t e en into is = inl is
  taken_step s (Take w u d) t e en into is = dite (ℕ_discrete (edge_at g t e) (edge_at g u d))
      (λ q. let same : t ≡ u = sym into ∙ ap (into_task g) q ∙ en.3 in inr (one_here u t d e (sym same) (same_edge t u e d same q)))
      (λ ne. inl (upd_cases (λ (b : Bool). b ≡ true → s.taken (edge_at g t e) ≡ true) s.taken (edge_at g u d) (edge_at g t e) true (λ q _. absurd (ne q)) (λ _ k. k) is))
  taken_step s (Park w u) t e en into is = inl is
  taken_step s (PutDown w u) t e en into is = inl is

  -- what is sent stays sent
  sent_on_step : (s : Core) (x : Step) (f : ℕ) → s.sent f ≡ true → (effect g s x).sent f ≡ true
  sent_on_step s (Claim w u) f is = is
  sent_on_step s (Publish w u) f is = is
  sent_on_step s (Send w u d) f is = upd_cases (λ (b : Bool). b ≡ true) s.sent (edge_at g u d) f true (λ _. refl) (λ _. is)
  sent_on_step s (Take w u d) f is = is
  sent_on_step s (Park w u) f is = is
  sent_on_step s (PutDown w u) f is = is

  taken_on_step : (s : Core) (x : Step) (f : ℕ) → s.taken f ≡ true → (effect g s x).taken f ≡ true
  taken_on_step s (Claim w u) f is = is
  taken_on_step s (Publish w u) f is = is
  taken_on_step s (Send w u d) f is = is
  taken_on_step s (Take w u d) f is = upd_cases (λ (b : Bool). b ≡ true) s.taken (edge_at g u d) f true (λ _. refl) (λ _. is)
  taken_on_step s (Park w u) f is = is
  taken_on_step s (PutDown w u) f is = is

  sent_stays : (s : Core) (xs : List Step) (f : ℕ) → s.sent f ≡ true → (after_from g s xs).sent f ≡ true
  sent_stays s [] f is = is
  sent_stays s (x ∷ xs) f is = sent_stays (effect g s x) xs f (sent_on_step s x f is)

  taken_stays : (s : Core) (xs : List Step) (f : ℕ) → s.taken f ≡ true → (after_from g s xs).taken f ≡ true
  taken_stays s [] f is = is
  taken_stays s (x ∷ xs) f is = taken_stays (effect g s x) xs f (taken_on_step s x f is)

  -- what a step lists is sent after it
  step_sent : (s : Core) (x : Step) (t e : ℕ) → In e (sends_for t x) → (effect g s x).sent (edge_at g t e) ≡ true
  step_sent s (Claim w u) t e i = absurd i
  step_sent s (Publish w u) t e i = absurd i
  step_sent s (Send w u d) t e i = let q = here_one u t d e i in ap (upd s.sent (edge_at g u d) true) (ap (λ k. edge_at g k e) (sym q.0) ∙ ap (edge_at g u) (sym q.1)) ∙ upd_same s.sent (edge_at g u d) true
  step_sent s (Take w u d) t e i = absurd i
  step_sent s (Park w u) t e i = absurd i
  step_sent s (PutDown w u) t e i = absurd i

  step_taken : (s : Core) (x : Step) (t e : ℕ) → In e (takes_for t x) → (effect g s x).taken (edge_at g t e) ≡ true
  step_taken s (Claim w u) t e i = absurd i
  step_taken s (Publish w u) t e i = absurd i
  step_taken s (Send w u d) t e i = absurd i
  step_taken s (Take w u d) t e i = let q = here_one u t d e i in ap (upd s.taken (edge_at g u d) true) (ap (λ k. edge_at g k e) (sym q.0) ∙ ap (edge_at g u) (sym q.1)) ∙ upd_same s.taken (edge_at g u d) true
  step_taken s (Park w u) t e i = absurd i
  step_taken s (PutDown w u) t e i = absurd i

  module _ (n : ℕ) where
    -- an edge that was sent is listed for the task that it leaves
    pub sent_listed : (s : Core) (xs : List Step) (t e : ℕ) → LegalFrom g n s xs → from_task g (edge_at g t e) ≡ t → (after_from g s xs).sent (edge_at g t e) ≡ true → (s.sent (edge_at g t e) ≡ true) ⊎ In e (sent_edges t xs)
    sent_listed s [] t e l from is = inl is
    sent_listed s (x ∷ xs) t e l from is = ⊎_elim
        (λ q. ⊎_elim (λ k. inl k) (λ i. inr (in_left e (sends_for t x) (sent_edges t xs) i)) (sent_step s x t e l.0.1 from q))
        (λ i. inr (in_right e (sends_for t x) (sent_edges t xs) i))
        (sent_listed (effect g s x) xs t e l.1 from is)

    pub taken_listed : (s : Core) (xs : List Step) (t e : ℕ) → LegalFrom g n s xs → into_task g (edge_at g t e) ≡ t → (after_from g s xs).taken (edge_at g t e) ≡ true → (s.taken (edge_at g t e) ≡ true) ⊎ In e (taken_edges t xs)
    taken_listed s [] t e l into is = inl is
    taken_listed s (x ∷ xs) t e l into is = ⊎_elim
        (λ q. ⊎_elim (λ k. inl k) (λ i. inr (in_left e (takes_for t x) (taken_edges t xs) i)) (taken_step s x t e l.0.1 into q))
        (λ i. inr (in_right e (takes_for t x) (taken_edges t xs) i))
        (taken_listed (effect g s x) xs t e l.1 into is)

  -- and what is listed was sent
  pub listed_sent : (s : Core) (xs : List Step) (t e : ℕ) → In e (sent_edges t xs) → (after_from g s xs).sent (edge_at g t e) ≡ true
  listed_sent s [] t e i = absurd i
  listed_sent s (x ∷ xs) t e i = ⊎_elim
      (λ k. sent_stays (effect g s x) xs (edge_at g t e) (step_sent s x t e k))
      (λ k. listed_sent (effect g s x) xs t e k)
      (in_both e (sends_for t x) (sent_edges t xs) i)

  pub listed_taken : (s : Core) (xs : List Step) (t e : ℕ) → In e (taken_edges t xs) → (after_from g s xs).taken (edge_at g t e) ≡ true
  listed_taken s [] t e i = absurd i
  listed_taken s (x ∷ xs) t e i = ⊎_elim
      (λ k. taken_stays (effect g s x) xs (edge_at g t e) (step_taken s x t e k))
      (λ k. listed_taken (effect g s x) xs t e k)
      (in_both e (takes_for t x) (taken_edges t xs) i)
