-- How the states that are kept of tasks show the state of the core.
use Rattle.std.specs.Prelude.{◌≡◌, ℕ, ◌+◌, ◌<◌, ◌≤◌, ◌==◌}
use Rattle.std.specs.Prelude.{Bool, false, List, [], ◌∷◌, length}
use Rattle.std.specs.Prelude.{slice_index_or, slice_index, if◌then◌else◌, Option, Some, None, vec_capacity}
use Rattle.task_states.specs.declared.states.TaskState.{TaskState}
use Rattle.task_states.specs.declared.states.TaskState.TheVariants.{Ready, Held, Parked, Due, Published}
use Rattle.task_states.specs.declared.states.TaskStates.{TaskStates}
use Rattle.core_model.specs.Graphs.{Graph, Each}
use Rattle.core_model.specs.Cores.{Status, ready, held, parked, published, Core}
use Rattle.core_model.specs.Steps.{NoneWaits, SomeWaits}
use Rattle.number_lists.specs.Turned.{times}

-- the status that a state shows
abbrev pub shown_status : TaskState → Status
shown_status Ready = ready
shown_status (Held w) = held w
shown_status Parked = parked
shown_status Due = parked
shown_status Published = published

-- the state of a task
abbrev pub state_at : List TaskState → ℕ → TaskState
state_at states t = slice_index_or states t Ready

-- the task that a worker holds
abbrev pub held_by : List (Option ℕ) → ℕ → Option ℕ
held_by holding w = slice_index_or holding w None

-- 1 where the task can be claimed, by its state and the number of its needs that are unpublished
abbrev pub due : TaskState → ℕ → ℕ
due Ready unmet = if unmet == 0 then 1 else 0
due (Held w) unmet = 0
due Parked unmet = 0
due Due unmet = 1
due Published unmet = 0

-- 1 where it is not published
abbrev pub unpublished : Status → ℕ
unpublished ready = 1
unpublished (held w) = 1
unpublished parked = 1
unpublished published = 0

-- how many of these tasks are not published
abbrev pub unmet_of : (ℕ → Status) → List ℕ → ℕ
unmet_of status [] = 0
unmet_of status (n ∷ ns) = unpublished (status n) + unmet_of status ns

-- what a state says of the messages that wait for the task
abbrev pub Waits : Graph → Core → ℕ → TaskState → Type 0
Waits g s t Ready = Unit {0}
Waits g s t (Held w) = Unit {0}
Waits g s t Parked = NoneWaits g s t
Waits g s t Due = SomeWaits g s t
Waits g s t Published = Unit {0}

-- the lists show the state of the core: by task its state and how many of its needs are unpublished, the tasks that can be
-- claimed, by worker the task that it holds and whether it has put one down
pub record ShowsCore (g : Graph) (n : ℕ) (s : Core) (ss : List TaskState) (us cs : List ℕ) (hs : List (Option ℕ))
    (ps : List Bool) : Type 0 where
  pub all_states : length ss ≡ g.tasks
  pub states : (t : ℕ) → t < g.tasks → shown_status (state_at ss t) ≡ s.status t
  pub waits : (t : ℕ) → t < g.tasks → Waits g s t (state_at ss t)
  pub all_unmet : length us ≡ g.tasks
  pub unmet : (t : ℕ) → t < g.tasks → slice_index us t ≡ unmet_of s.status (g.needs t)
  pub claimable_in : Each (λ t. t < g.tasks) cs
  pub claimable : (t : ℕ) → t < g.tasks → times t cs ≡ due (state_at ss t) (slice_index us t)
  pub all_holding : length hs ≡ n + 1
  pub holding : (w t : ℕ) → held_by hs w ≡ Some t → (t < g.tasks) × (s.status t ≡ held w)
  pub held : (w t : ℕ) → t < g.tasks → s.status t ≡ held w → held_by hs w ≡ Some t
  pub all_put_downs : length ps ≡ n + 1
  pub put_downs : (w : ℕ) → w ≤ n → slice_index_or ps w false ≡ s.has_put_down w

-- what is kept of the tasks shows the state of the core, and has room for each task that can be claimed
pub record Reflects (g : Graph) (n : ℕ) (s : Core) (m : TaskStates) : Type 0 where
  pub shown : ShowsCore g n s m.states.items m.unmet.items m.claimable.items m.holding.items m.put_downs.items
  pub room : g.tasks ≤ vec_capacity m.claimable

-- these are the tasks that read the task, each as often as it does
abbrev pub ReadsIt : Graph → ℕ → List ℕ → Type 0
ReadsIt g t readers = Each (λ r. r < g.tasks) readers × ((r : ℕ) → r < g.tasks → times r readers ≡ times t (g.needs r))

-- these are the numbers of tasks that each task reads
abbrev pub CountsNeeds : Graph → List ℕ → Type 0
CountsNeeds g counts = (length counts ≡ g.tasks) × ((t : ℕ) → t < g.tasks → slice_index counts t ≡ length (g.needs t))
