-- The laws of the core, over every run.
use Rattle.std.specs.Prelude.{◌≡◌, ◌≢◌, ℕ, ◌+◌, ◌*◌, ◌<◌, ◌≤◌, Bool, true, ◌==◌, List, ◌++◌, length}
use Rattle.core_model.specs.declared.step.Step.{Step}
use Rattle.core_model.specs.declared.step.Step.TheVariants.{Claim, Publish, Send, Take, Park, PutDown}
use Rattle.core_model.specs.Counts.{tally, flag}
use Rattle.core_model.specs.Graphs.{Graph, IsSoundGraph, edge_at, from_task, into_task}
use Rattle.core_model.specs.Cores.{held, published, Core}
use Rattle.core_model.specs.inside.Settling.{feed_has_come, all_fed, is_settled}
use Rattle.core_model.specs.TaskHistories.{taken_edges, sent_edges}
use Rattle.core_model.specs.Steps.{worker_of, HoldsNone, Enabled, effect, IsByOthers}
use Rattle.core_model.specs.Runs.{after, Legal}

-- whether the step publishes the task
abbrev pub publishes : ℕ → Step → ℕ
publishes u (Claim w t) = 0
publishes u (Publish w t) = flag (t == u)
publishes u (Send w t e) = 0
publishes u (Take w t e) = 0
publishes u (Park w t) = 0
publishes u (PutDown w t) = 0

-- whether the step sends the edge, by its number among all
abbrev pub sends_edge : Graph → ℕ → Step → ℕ
sends_edge g f (Claim w t) = 0
sends_edge g f (Publish w t) = 0
sends_edge g f (Send w t e) = flag (edge_at g t e == f)
sends_edge g f (Take w t e) = 0
sends_edge g f (Park w t) = 0
sends_edge g f (PutDown w t) = 0

-- whether the step takes the edge's message, by its number among all
abbrev pub takes_edge : Graph → ℕ → Step → ℕ
takes_edge g f (Claim w t) = 0
takes_edge g f (Publish w t) = 0
takes_edge g f (Send w t e) = 0
takes_edge g f (Take w t e) = flag (edge_at g t e == f)
takes_edge g f (Park w t) = 0
takes_edge g f (PutDown w t) = 0

-- whether the step puts a task down
abbrev pub puts_down : Step → ℕ
puts_down (Claim w t) = 0
puts_down (Publish w t) = 0
puts_down (Send w t e) = 0
puts_down (Take w t e) = 0
puts_down (Park w t) = 0
puts_down (PutDown w t) = 1

-- each task is published at most once, each edge sent at most once and taken at most once, and taken only if it was sent
pub record HappensOnce (g : Graph) (xs : List Step) : Type 0 where
  pub published_once : (t : ℕ) → tally (publishes t) xs ≤ 1
  pub sent_once : (e : ℕ) → tally (sends_edge g e) xs ≤ 1
  pub taken_once : (e : ℕ) → tally (takes_edge g e) xs ≤ tally (sends_edge g e) xs

-- once: in every run
abbrev pub Once : Type 0
Once = (g : Graph) (workers : ℕ) (xs : List Step) → IsSoundGraph g → Legal g workers xs → HappensOnce g xs

-- a worker holds one task at most, in every state that a run leads to
abbrev pub HoldsOne : Type 0
HoldsOne = (g : Graph) (workers : ℕ) (xs : List Step) → Legal g workers xs → (w t u : ℕ) → t < g.tasks → u < g.tasks
    → (after g xs).status t ≡ held w → (after g xs).status u ≡ held w → t ≡ u

-- the worker's task is still held, with the messages taken and the edges sent that it had
pub record StaysHeld (g : Graph) (w t : ℕ) (s s' : Core) : Type 0 where
  pub still : s'.status t ≡ held w
  pub taken : (e : ℕ) → e < g.edges → into_task g e ≡ t → s'.taken e ≡ s.taken e
  pub sent : (e : ℕ) → e < g.edges → from_task g e ≡ t → s'.sent e ≡ s.sent e
  pub has_put_down : s'.has_put_down w ≡ s.has_put_down w

-- held stays: what a worker holds changes only by that worker's steps
abbrev pub HeldStays : Type 0
HeldStays = (g : Graph) (workers : ℕ) (s : Core) (x : Step) (w t : ℕ) → Enabled g s workers x → worker_of x ≢ w
    → t < g.tasks → s.status t ≡ held w → StaysHeld g w t s (effect g s x)

-- what others leave of a worker: the task that it holds, with the messages that were taken and the edges that were sent for it, in their
-- order; that it holds none; and whether it has put one down
pub record IsLeftByOthers (g : Graph) (w : ℕ) (seen more : List Step) : Type 0 where
  pub stays : (t : ℕ) → t < g.tasks → (after g seen).status t ≡ held w → StaysHeld g w t (after g seen) (after g (seen ++ more))
  pub takes : (t : ℕ) → t < g.tasks → (after g seen).status t ≡ held w → taken_edges t (seen ++ more) ≡ taken_edges t seen
  pub sends : (t : ℕ) → t < g.tasks → (after g seen).status t ≡ held w → sent_edges t (seen ++ more) ≡ sent_edges t seen
  pub free : HoldsNone g (after g seen) w → HoldsNone g (after g (seen ++ more)) w
  pub has_put_down : (after g (seen ++ more)).has_put_down w ≡ (after g seen).has_put_down w

-- left by others: so it is over all that came after what a worker saw, where none of it was its own
abbrev pub LeftByOthers : Type 0
LeftByOthers = (g : Graph) (workers : ℕ) (seen more : List Step) (w : ℕ) → Legal g workers (seen ++ more) → IsByOthers w more
    → IsLeftByOthers g w seen more

-- a run has no more put-downs than there are workers' numbers
abbrev pub PutsDownOnce : Type 0
PutsDownOnce = (g : Graph) (workers : ℕ) (xs : List Step) → Legal g workers xs → tally puts_down xs ≤ workers + 1

-- a run has at most two steps for each task, four for each edge, and two for each put-down
abbrev pub Bounded : Type 0
Bounded = (g : Graph) (workers : ℕ) (xs : List Step) → IsSoundGraph g → Legal g workers xs
    → length xs ≤ 2 * g.tasks + 4 * g.edges + 2 * tally puts_down xs

-- each holder has an enabled step; where nobody holds a task, some task can be claimed by each worker; some step is enabled
pub record IsNotStuck (g : Graph) (workers : ℕ) (s : Core) : Type 0 where
  pub holder : (w t : ℕ) → t < g.tasks → s.status t ≡ held w → (x : Step) × (worker_of x ≡ w) × Enabled g s workers x
  pub idle : ((t w : ℕ) → t < g.tasks → s.status t ≢ held w)
      → (t : ℕ) × (t < g.tasks) × ((w : ℕ) → w ≤ workers → Enabled g s workers (Claim w t))
  pub some : (x : Step) × Enabled g s workers x

-- never stuck: no run leads to a state that is not finished and has no enabled step
abbrev pub NeverStuck : Type 0
NeverStuck = (g : Graph) (workers : ℕ) (xs : List Step) → IsSoundGraph g → Legal g workers xs
    → ((t : ℕ) × (t < g.tasks) × ((after g xs).status t ≢ published)) → IsNotStuck g workers (after g xs)

-- the set holds each point all of whose feeds are in it or taken
abbrev pub IsClosed : Graph → (ℕ → Bool) → (ℕ → Bool) → Type 0
IsClosed g taken p = (x : ℕ) → x < g.points → all_fed (feed_has_come taken p) (g.feeds x) ≡ true → p x ≡ true

-- the settled points are such a set, and every such set has them
abbrev pub IsLeastClosed : Graph → (ℕ → Bool) → Type 0
IsLeastClosed g taken = IsClosed g taken (is_settled g taken)
    × ((p : ℕ → Bool) → IsClosed g taken p → (x : ℕ) → x < g.points → is_settled g taken x ≡ true → p x ≡ true)

-- settled: the least such set, whatever messages were taken
abbrev pub SettledLeast : Type 0
SettledLeast = (g : Graph) (taken : ℕ → Bool) → IsSoundGraph g → IsLeastClosed g taken
