-- The steps of the core: where each is enabled, and what it does.
use Rattle.std.specs.Prelude.{◌≡◌, ◌≢◌, ℕ, ◌<◌, ◌≤◌, true, false, ◌⊎◌, List, [], ◌∷◌, ◌++◌}
use Rattle.core_model.specs.declared.step.Step.{Step}
use Rattle.core_model.specs.declared.step.Step.TheVariants.{Claim, Publish, Send, Take, Park, PutDown}
use Rattle.core_model.specs.Graphs.{Graph, Each, edge_at, from_task, into_task}
use Rattle.core_model.specs.Cores.{ready, held, parked, published, Core, upd}
use Rattle.core_model.specs.inside.Settling.{is_settled}

-- the worker that makes the step
abbrev pub worker_of : Step → ℕ
worker_of (Claim w t) = w
worker_of (Publish w t) = w
worker_of (Send w t e) = w
worker_of (Take w t e) = w
worker_of (Park w t) = w
worker_of (PutDown w t) = w

-- none of these steps is the worker's
abbrev pub IsByOthers : ℕ → List Step → Type 0
IsByOthers w xs = Each (λ x. worker_of x ≢ w) xs

-- the list without its first
abbrev pub rest_of : List ℕ → List ℕ
rest_of [] = []
rest_of (x ∷ xs) = xs

module _ (g : Graph) (s : Core) where
  -- each point of the task is settled
  abbrev pub AllSettled : ℕ → Type 0
  AllSettled t = (x : ℕ) → x < g.points → g.owner x ≡ t → is_settled g s.taken x ≡ true

  -- some point of the task is not settled
  abbrev pub SomeUnsettled : ℕ → Type 0
  SomeUnsettled t = (x : ℕ) × (x < g.points) × (g.owner x ≡ t) × (is_settled g s.taken x ≡ false)

  -- each edge that leaves the task was sent
  abbrev pub AllSent : ℕ → Type 0
  AllSent t = (e : ℕ) → e < g.edges → from_task g e ≡ t → s.sent e ≡ true

  -- each edge that leaves the task from a settled point was sent
  abbrev pub SettledSent : ℕ → Type 0
  SettledSent t = (e : ℕ) → e < g.edges → from_task g e ≡ t → is_settled g s.taken (g.source e) ≡ true → s.sent e ≡ true

  -- no message waits for the task
  abbrev pub NoneWaits : ℕ → Type 0
  NoneWaits t = (c : ℕ) → c < g.channels → g.into c ≡ t → s.waiting c ≡ []

  -- a message waits for the task
  abbrev pub SomeWaits : ℕ → Type 0
  SomeWaits t = (c : ℕ) × (c < g.channels) × (g.into c ≡ t) × (s.waiting c ≢ [])

  -- the worker holds no task
  abbrev pub HoldsNone : ℕ → Type 0
  HoldsNone w = (t : ℕ) → t < g.tasks → s.status t ≢ held w

  -- the task is ready and all that it reads is published, or it is parked and a message waits for it
  abbrev pub Claimable : ℕ → Type 0
  Claimable t = ((s.status t ≡ ready) × Each (λ n. s.status n ≡ published) (g.needs t)) ⊎ ((s.status t ≡ parked) × SomeWaits t)

  -- the worker holds the flow task
  abbrev pub HoldsFlow : ℕ → ℕ → Type 0
  HoldsFlow w t = (s.status t ≡ held w) × (g.is_flow t ≡ true)

  -- the edge leaves the flow task that the worker holds, its source is settled, and it was not sent
  abbrev pub CanSend : ℕ → ℕ → ℕ → Type 0
  CanSend w t e =
      (t < g.tasks) × HoldsFlow w t × (e < g.edges) × (from_task g e ≡ t) × (is_settled g s.taken (g.source e) ≡ true) × (s.sent e ≡ false)

  -- the edge's message is at the front of a channel into the flow task that the worker holds
  abbrev pub CanTake : ℕ → ℕ → ℕ → Type 0
  CanTake w t e =
      (t < g.tasks) × HoldsFlow w t × (e < g.edges) × (into_task g e ≡ t) × ((later : List ℕ) × (s.waiting (g.channel_of e) ≡ e ∷ later))

  -- where a step may be made, but for its worker's number
  abbrev pub Allows : Step → Type 0
  Allows (Claim w t) = (t < g.tasks) × HoldsNone w × Claimable t
  Allows (Publish w t) = (t < g.tasks) × (s.status t ≡ held w) × (g.is_flow t ≡ true → AllSettled t × AllSent t)
  Allows (Send w t e) = CanSend w t (edge_at g t e)
  Allows (Take w t e) = CanTake w t (edge_at g t e)
  Allows (Park w t) = (t < g.tasks) × HoldsFlow w t × SomeUnsettled t × SettledSent t × NoneWaits t
  Allows (PutDown w t) = (t < g.tasks) × (s.status t ≡ held w) × (s.has_put_down w ≡ false)

  -- where a step is enabled, with workers 0 to `workers`
  abbrev pub Enabled : ℕ → Step → Type 0
  Enabled workers x = (worker_of x ≤ workers) × Allows x

  -- the state with this edge sent
  abbrev pub sent_on : ℕ → Core
  sent_on e = record s { sent = upd s.sent e true; waiting = upd s.waiting (g.channel_of e) (s.waiting (g.channel_of e) ++ e ∷ []) }

  -- the state with this edge's message taken
  abbrev pub taken_in : ℕ → Core
  taken_in e = record s { taken = upd s.taken e true; waiting = upd s.waiting (g.channel_of e) (rest_of (s.waiting (g.channel_of e))) }

  -- the state after a step
  abbrev pub effect : Step → Core
  effect (Claim w t) = record s { status = upd s.status t (held w) }
  effect (Publish w t) = record s { status = upd s.status t published }
  effect (Send w t e) = sent_on (edge_at g t e)
  effect (Take w t e) = taken_in (edge_at g t e)
  effect (Park w t) = record s { status = upd s.status t parked }
  effect (PutDown w t) = record s { status = upd s.status t ready; has_put_down = upd s.has_put_down w true }
