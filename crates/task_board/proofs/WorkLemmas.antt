-- Works of tasks, and what channels carry, along the steps of a history.
use Rattle.std.proofs.Common.{◌≡◌, ◌≢◌, ℕ, zero, suc, ◌<◌, cond, ◌==◌, ne_eqb, List, [], ◌∷◌, ◌++◌, length, get_or, set, map, Option, Some, None}
use Rattle.std.proofs.Common.{refl, ap, sym, ◌∙◌, arith, get_or-set_other, get_or-set_same}
use Rattle.std.proofs.lemmas.List.{append-nil}
use Rattle.std.specs.Option.{option_map}
use Rattle.core_model.specs.declared.step.Step.{Step}
use Rattle.core_model.specs.declared.step.Step.TheVariants.{Claim, Publish, Send, Take, Park, PutDown}
use Rattle.core_model.specs.Graphs.{Graph}
use Rattle.core_model.specs.Cores.{Core, held, parked, published, ready}
use Rattle.core_model.specs.Steps.{effect}
use Rattle.core_model.specs.TaskHistories.{sends_for, sent_edges, taken_edges, takes_for}
use Rattle.core_model.proofs.Callers.{sent_append, taken_append, upd_other}
use Rattle.drain_meaning.specs.declared.op.FlowOp.{FlowOp}
use Rattle.flow_task.specs.Works.{TileWork}
use Rattle.task_board.specs.Boards.{BoardValue}
use Rattle.task_board.specs.Tickets.{HasItsWork}
use Rattle.task_board.specs.inside.Held.{work_at}

-- the task of a step
abbrev pub task_of : Step → ℕ
task_of (Claim w t) = t
task_of (Publish w t) = t
task_of (Send w t e) = t
task_of (Take w t e) = t
task_of (Park w t) = t
task_of (PutDown w t) = t

-- a step leaves where each other task stands
pub other_status : (g : Graph) (s : Core) (x : Step) (u : ℕ) → u ≢ task_of x → (effect g s x).status u ≡ s.status u
other_status g s (Claim w t) u ne = upd_other s.status t u (held w) ne
other_status g s (Publish w t) u ne = upd_other s.status t u published ne
other_status g s (Send w t e) u ne = refl
other_status g s (Take w t e) u ne = refl
other_status g s (Park w t) u ne = upd_other s.status t u parked ne
other_status g s (PutDown w t) u ne = upd_other s.status t u ready ne

not_here : (t u e : ℕ) → u ≢ t → cond (t == u) (e ∷ []) [] ≡ []
not_here t u e ne = ap (λ b. cond b (e ∷ []) []) (ne_eqb t u (λ q. ne (sym q)))

-- it takes and sends nothing for another
pub other_takes : (x : Step) (u : ℕ) → u ≢ task_of x → takes_for u x ≡ []
other_takes (Claim w t) u ne = refl
other_takes (Publish w t) u ne = refl
other_takes (Send w t e) u ne = refl
other_takes (Take w t e) u ne = not_here t u e ne
other_takes (Park w t) u ne = refl
other_takes (PutDown w t) u ne = refl

pub other_sends : (x : Step) (u : ℕ) → u ≢ task_of x → sends_for u x ≡ []
other_sends (Claim w t) u ne = refl
other_sends (Publish w t) u ne = refl
other_sends (Send w t e) u ne = not_here t u e ne
other_sends (Take w t e) u ne = refl
other_sends (Park w t) u ne = refl
other_sends (PutDown w t) u ne = refl

-- one step more, which takes nothing for the task
pub taken_same : (xs : List Step) (x : Step) (u : ℕ) → takes_for u x ≡ [] → taken_edges u (xs ++ x ∷ []) ≡ taken_edges u xs
taken_same xs x u none' = taken_append u xs (x ∷ []) ∙ ap (λ (l : List ℕ). taken_edges u xs ++ (l ++ [])) none' ∙ append-nil (taken_edges u xs)

pub sent_same : (xs : List Step) (x : Step) (u : ℕ) → sends_for u x ≡ [] → sent_edges u (xs ++ x ∷ []) ≡ sent_edges u xs
sent_same xs x u none' = sent_append u xs (x ∷ []) ∙ ap (λ (l : List ℕ). sent_edges u xs ++ (l ++ [])) none' ∙ append-nil (sent_edges u xs)

-- the work of a task for which another history has taken and sent the same
pub work_stays : (b : BoardValue) (ys : List Step) (t : ℕ) (o : Option (TileWork FlowOp)) → taken_edges t ys ≡ taken_edges t b.history → sent_edges t ys ≡ sent_edges t b.history → HasItsWork b t o → HasItsWork (record b { history = ys }) t o
work_stays b ys t None takes sends h = (takes ∙ h.0, sends ∙ h.1)
work_stays b ys t (Some w) takes sends h = record { flow = h.flow; underway = h.underway; taken = h.taken ∙ sym takes; sent = h.sent ∙ sym sends }

-- after a step that takes and sends nothing for it
pub work_step : (b : BoardValue) (x : Step) (t : ℕ) (o : Option (TileWork FlowOp)) → takes_for t x ≡ [] → sends_for t x ≡ [] → HasItsWork b t o → HasItsWork (record b { history = b.history ++ x ∷ [] }) t o
work_step b x t o takes sends h = work_stays b (b.history ++ x ∷ []) t o (taken_same b.history x t takes) (sent_same b.history x t sends) h

-- works with one written over
module _ {W : Type 0} (f : W → TileWork FlowOp) where
  pub works_set : (ws : List (Option W)) (t : ℕ) (o : Option W) → map (option_map f) (set ws t o) ≡ set (map (option_map f) ws) t (option_map f o)
  works_set [] t o = refl
  works_set (w ∷ ws) zero o = refl
  works_set (w ∷ ws) (suc t) o = ap (λ (l : List (Option (TileWork FlowOp))). option_map f w ∷ l) (works_set ws t o)

  pub length-works : (ws : List (Option W)) → length (map (option_map f) ws) ≡ length ws
  length-works [] = refl
  length-works (w ∷ ws) = let r = length-works ws in omega arith

  pub work_mapped : (ws : List (Option W)) (t : ℕ) → work_at (map (option_map f) ws) t ≡ option_map f (get_or ws t None)
  work_mapped [] t = refl
  work_mapped (w ∷ ws) zero = refl
  work_mapped (w ∷ ws) (suc t) = work_mapped ws t

pub work_other : (ws : List (Option (TileWork FlowOp))) (t u : ℕ) (o : Option (TileWork FlowOp)) → u ≢ t → work_at (set ws t o) u ≡ work_at ws u
work_other ws t u o ne = get_or-set_other ws t u o None ne

pub work_same : (ws : List (Option (TileWork FlowOp))) (t : ℕ) (o : Option (TileWork FlowOp)) → t < length ws → work_at (set ws t o) t ≡ o
work_same ws t o lt = get_or-set_same ws t o None lt
