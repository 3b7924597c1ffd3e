-- How often a step stands in a run.
use Rattle.std.proofs.Common.{◌≡◌, ℕ, ◌+◌, ◌≤◌, Bool, true, false, ◌==◌, eq-eqb, ne_eqb, inl, ⊎_elim, List, [], ◌∷◌, refl, ap, sym, ◌∙◌, subst, arith}
use Rattle.core_model.specs.Graphs.{Graph, In, IsSoundGraph, edge_at}
use Rattle.core_model.specs.declared.step.Step.{Step}
use Rattle.core_model.specs.declared.step.Step.TheVariants.{Claim, Publish, Send, Take, Park, PutDown}
use Rattle.core_model.specs.Cores.{Status, ready, held, parked, published, Core, opening}
use Rattle.core_model.specs.Steps.{Allows, effect}
use Rattle.core_model.specs.Runs.{after_from, LegalFrom, after}
use Rattle.core_model.specs.Counts.{tally, flag}
use Rattle.core_model.specs.Laws.{publishes, sends_edge, takes_edge, Once}
use Rattle.core_model.proofs.Find.{upd_cases}
use Rattle.core_model.proofs.Kept.{Kept, opening_kept, step_kept, run_kept}

pub is_published : Status → ℕ
is_published ready = 0
is_published (held w) = 0
is_published parked = 0
is_published published = 1

one_most : (b : Bool) → flag b ≤ 1
one_most true = omega arith
one_most false = omega arith

published_most : (s : Status) → is_published s ≤ 1
unfolding is_published
published_most ready = omega arith
published_most (held w) = omega arith
published_most parked = omega arith
published_most published = omega arith

one_le : (a b : Bool) → (a ≡ true → b ≡ true) → flag a ≤ flag b
one_le true b h = let q : flag b ≡ 1 = ap flag (h refl) in omega arith
one_le false b h = omega arith

add_up : (a b : ℕ) → a ≡ 1 → b ≡ 0 → a + b ≡ 1
add_up a b p q = omega arith

module _ (g : Graph) (n : ℕ) (sound : IsSoundGraph g) where
  pub_step : (s : Core) (x : Step) (u : ℕ) → Allows g s x → publishes u x + is_published (s.status u) ≤ is_published ((effect g s x).status u)
  unfolding is_published
  pub_step s (Claim w t) u en = upd_cases (λ (z : Status). 0 + is_published (s.status u) ≤ is_published z) s.status t u (held w)
      (λ e. ⊎_elim (λ r. let q : is_published (s.status u) ≡ 0 = ap (λ v. is_published (s.status v)) e ∙ ap is_published r.0 in omega arith) (λ r. let q : is_published (s.status u) ≡ 0 = ap (λ v. is_published (s.status v)) e ∙ ap is_published r.0 in omega arith) en.2)
      (λ ne. omega arith)
  pub_step s (Publish w t) u en = upd_cases (λ (z : Status). flag (t == u) + is_published (s.status u) ≤ is_published z) s.status t u published
      (λ e. let q : is_published (s.status u) ≡ 0 = ap (λ v. is_published (s.status v)) e ∙ ap is_published en.1 in let o = one_most (t == u) in omega arith)
      (λ ne. let q : flag (t == u) ≡ 0 = ap flag (ne_eqb t u (λ z. ne (sym z))) in omega arith)
  pub_step s (Send w t e) u en = omega arith
  pub_step s (Take w t e) u en = omega arith
  pub_step s (Park w t) u en = upd_cases (λ (z : Status). 0 + is_published (s.status u) ≤ is_published z) s.status t u parked
      (λ e. let q : is_published (s.status u) ≡ 0 = ap (λ v. is_published (s.status v)) e ∙ ap is_published en.1.0 in omega arith)
      (λ ne. omega arith)
  pub_step s (PutDown w t) u en = upd_cases (λ (z : Status). 0 + is_published (s.status u) ≤ is_published z) s.status t u ready
      (λ e. let q : is_published (s.status u) ≡ 0 = ap (λ v. is_published (s.status v)) e ∙ ap is_published en.1 in omega arith)
      (λ ne. omega arith)

  sent_step : (s : Core) (x : Step) (f : ℕ) → Allows g s x → sends_edge g f x + flag (s.sent f) ≡ flag ((effect g s x).sent f)
  sent_step s (Claim w t) f en = omega arith
  sent_step s (Publish w t) f en = omega arith
  sent_step s (Send w t d) f en = let e : ℕ = edge_at g t d in upd_cases (λ b. flag (e == f) + flag (s.sent f) ≡ flag b) s.sent e f true
      (λ q. add_up (flag (e == f)) (flag (s.sent f)) (ap flag (eq-eqb e f (sym q))) (ap (λ v. flag (s.sent v)) q ∙ ap flag en.5))
      (λ ne. let q : flag (e == f) ≡ 0 = ap flag (ne_eqb e f (λ z. ne (sym z))) in omega arith)
  sent_step s (Take w t e) f en = omega arith
  sent_step s (Park w t) f en = omega arith
  sent_step s (PutDown w t) f en = omega arith

  taken_step : (s : Core) (x : Step) (f : ℕ) → Kept g n s → Allows g s x → takes_edge g f x + flag (s.taken f) ≡ flag ((effect g s x).taken f)
  taken_step s (Claim w t) f k en = omega arith
  taken_step s (Publish w t) f k en = omega arith
  taken_step s (Take w t d) f k en = let e : ℕ = edge_at g t d in upd_cases (λ b. flag (e == f) + flag (s.taken f) ≡ flag b) s.taken e f true
      (λ q. let h = k.waits (g.channel_of e) e (subst (λ (l : List ℕ). In e l) (sym en.4.1) (inl refl)) in
      add_up (flag (e == f)) (flag (s.taken f)) (ap flag (eq-eqb e f (sym q))) (ap (λ v. flag (s.taken v)) q ∙ ap flag h.3))
      (λ ne. let q : flag (e == f) ≡ 0 = ap flag (ne_eqb e f (λ z. ne (sym z))) in omega arith)
  taken_step s (Send w t e) f k en = omega arith
  taken_step s (Park w t) f k en = omega arith
  taken_step s (PutDown w t) f k en = omega arith

  published_run : (s : Core) (xs : List Step) (u : ℕ) → LegalFrom g n s xs → tally (publishes u) xs + is_published (s.status u) ≤ is_published ((after_from g s xs).status u)
  published_run s [] u l = omega arith
  published_run s (x ∷ xs) u l = let h = pub_step s x u l.0.1 in let r = published_run (effect g s x) xs u l.1 in omega arith

  sent_run : (s : Core) (xs : List Step) (f : ℕ) → LegalFrom g n s xs → tally (sends_edge g f) xs + flag (s.sent f) ≡ flag ((after_from g s xs).sent f)
  sent_run s [] f l = omega arith
  sent_run s (x ∷ xs) f l = let h = sent_step s x f l.0.1 in let r = sent_run (effect g s x) xs f l.1 in omega arith

  taken_run : (s : Core) (xs : List Step) (f : ℕ) → Kept g n s → LegalFrom g n s xs → tally (takes_edge g f) xs + flag (s.taken f) ≡ flag ((after_from g s xs).taken f)
  taken_run s [] f k l = omega arith
  taken_run s (x ∷ xs) f k l = let h = taken_step s x f k l.0.1 in let r = taken_run (effect g s x) xs f (step_kept g n sound s x k l.0) l.1 in omega arith

pub happens_once : Once
unfolding is_published
happens_once g n xs sound legal = record {
  published_once = λ t. let r = published_run g n sound opening xs t legal in let m = published_most ((after g xs).status t) in omega arith;
  sent_once = λ e. let r = sent_run g n sound opening xs e legal in let m = one_most ((after g xs).sent e) in omega arith;
  taken_once = λ e.
      let r = taken_run g n sound opening xs e (opening_kept g n) legal in let q = sent_run g n sound opening xs e legal in
      let k = run_kept g n sound opening xs (opening_kept g n) legal in
      let m : flag ((after g xs).taken e) ≤ flag ((after g xs).sent e) = one_le ((after g xs).taken e) ((after g xs).sent e) (k.was_sent e) in omega arith;
}
