-- What the parts of a board keep, and a board with one more step.
use Rattle.std.proofs.Common.{◌≡◌, ◌≢◌, ℕ, ◌<◌, ◌≤◌, Bool, true, false, ◌⊎◌, inl, inr, ⊎_elim, List, [], ◌∷◌, ◌++◌, length, get_or, set, Option, Some, None}
use Rattle.std.proofs.Common.{refl, ap, sym, ◌∙◌, subst, arith, length-append}
use Rattle.std.proofs.lemmas.List.{length-set}
use Rattle.std.specs.Option.{IsSomeAnd, IsSome}
use Rattle.std.specs.List.{AllZip}
use Rattle.std.specs.Arc.{arc_value}
use Rattle.std.specs.declared.sync.Arc.{Arc}
use Rattle.std.specs.Global.{Global}
use mathlib.Core.Logic.{dite}
use native.Mathlib.Decide.{dec_le, ℕ_discrete}
use Rattle.core_model.specs.declared.step.Step.{Step}
use Rattle.core_model.specs.declared.step.Step.TheVariants.{Claim, Publish, Send, Take, Park, PutDown}
use Rattle.core_model.specs.Graphs.{Graph, Each, In, NeedsWell}
use Rattle.core_model.specs.Cores.{Status, ready, held, parked, published, Core, upd, opening}
use Rattle.core_model.specs.Steps.{Allows, Claimable, Enabled, effect}
use Rattle.core_model.specs.Runs.{BegunHaveNeeds, after, Legal}
use Rattle.core_model.specs.TaskHistories.{sends_for, sent_edges, taken_edges, takes_for}
use Rattle.drain_meaning.specs.declared.op.FlowOp.{FlowOp}
use Rattle.border_channel.specs.Channels.{Queue}
use Rattle.flow_task.specs.Kits.{KnowsAll}
use Rattle.flow_task.specs.Works.{TileWork}
use Rattle.map_meaning.specs.Table.{is_transport}
use Rattle.core_model.proofs.Callers.{Kept, opening_kept, run_kept, run_begun, after_snoc, legal_snoc, bounded, puts_down_once, idle_enabled, upd_same, upd_cases, each_in, each_from}
use Rattle.number_lists.specs.Turned.{times}
use Rattle.plan_graph.specs.PlanGraphs.{graph_of, IsPlan, PlanGraphValue, list_at}
use Rattle.task_states.specs.States.{Reflects, ReadsIt, Waits, due, shown_status, state_at, unmet_of, unpublished}
use Rattle.task_states.specs.declared.states.TaskState.{TaskState}
use Rattle.task_states.specs.declared.states.TaskState.TheVariants.{Ready, Held, Parked, Due, Published}
use Rattle.task_states.specs.declared.states.TaskStates.{TaskStates}
use Rattle.task_states.proofs.Callers.{in_times, none_unmet, times_in, unmet_none, unmet_published, unmet_ready}
use Rattle.map_meaning.specs.declared.known.OverAt.{OverAt}
use Rattle.task_tiles.specs.declared.tile.Tile.{Tile}
use Rattle.task_board.specs.Boards.{BoardValue, IsOfItsSpan, IsTileFor, NoneClaimable}
use Rattle.task_board.specs.Tickets.{HasItsWork, IsGood}
use Rattle.task_board.specs.inside.Channels.{Carries}
use Rattle.task_board.specs.Tiles.{AreTilesOf, HasNoTile, hands_out_at}
use Rattle.task_board.specs.inside.Held.{IsBoard, IsCopy, IsLetGo, IsNeeded, IsNotNeeded, Parts, board_of, state_in, steps_at_most, tile_for, work_at}
use Rattle.task_board.specs.inside.Noted.{IsFirstNoted}
use Rattle.task_board.proofs.Lists.{zip_map}
use Rattle.task_board.proofs.NoteLemmas.{first_like, none_noted}
use Rattle.task_board.proofs.WorkLemmas.{other_sends, other_status, other_takes, task_of, work_other, work_same, work_step}

-- who reads a task, by the plan
pub reads_it : (p : PlanGraphValue) (t : ℕ) → IsPlan p → t < p.tasks → ReadsIt (graph_of p) t (list_at p.readers t)
reads_it p t plan lt = (
  each_from (λ r. r < (graph_of p).tasks) (list_at p.readers t) (λ r i. let a = each_in (λ k. k < p.tasks) (list_at p.readers t) r (plan.readers_in t lt) i in let k = plan.all_tasks in omega arith),
  λ r r_lt. let q : r < p.tasks = (let k = plan.all_tasks in omega arith) in plan.read_by t r lt q ∙ ap (times t) (sym (plan.reads r q)),
)

-- a task that can be claimed isn't published
pub claimable_unpublished : (g : Graph) (s : Core) (t : ℕ) → Claimable g s t → s.status t ≢ published
claimable_unpublished g s t c q = ⊎_elim (λ r. let z : ready ≡ published = sym r.0 ∙ q in cc) (λ r. let z : parked ≡ published = sym r.0 ∙ q in cc) c

-- a run has room for one more step
pub more_room : (p : PlanGraphValue) (n : ℕ) (xs : List Step) (x : Step) → IsPlan p → Legal (graph_of p) n xs → Enabled (graph_of p) (after (graph_of p) xs) n x → length xs < steps_at_most p n
more_room p n xs x plan legal en =
    let l = legal_snoc (graph_of p) n opening xs x legal en in
    let b = bounded (graph_of p) n (xs ++ x ∷ []) plan.sound l in
    let d = puts_down_once (graph_of p) n (xs ++ x ∷ []) l in
    let a = length-append xs (x ∷ []) in
    let t = plan.all_tasks in let e = plan.all_edges in omega arith

-- ---- what is published

-- the step publishes nothing
abbrev pub is_quiet : Step → Bool
is_quiet (Claim w t) = true
is_quiet (Publish w t) = false
is_quiet (Send w t e) = true
is_quiet (Take w t e) = true
is_quiet (Park w t) = true
is_quiet (PutDown w t) = true

-- of two that are published alike
pub published_like : (a b : Status) → unpublished a ≡ unpublished b → a ≡ published → b ≡ published
published_like a ready e q = let z : unpublished a ≡ 0 = ap unpublished q in absurd (omega arith)
published_like a (held w) e q = let z : unpublished a ≡ 0 = ap unpublished q in absurd (omega arith)
published_like a parked e q = let z : unpublished a ≡ 0 = ap unpublished q in absurd (omega arith)
published_like a published e q = refl

-- lists of tasks that are published alike
pub unmet_like : (f h : ℕ → Status) (ns : List ℕ) → ((u : ℕ) → unpublished (f u) ≡ unpublished (h u)) → unmet_of f ns ≡ unmet_of h ns
unmet_like f h [] e = refl
unmet_like f h (n ∷ ns) e = let a = e n in let r = unmet_like f h ns e in omega arith

-- a status is written over by one that is as little published
open_upd : (status : ℕ → Status) (t : ℕ) (st : Status) (u : ℕ) → unpublished st ≡ unpublished (status t) → unpublished (upd status t st u) ≡ unpublished (status u)
open_upd status t st u e = upd_cases (λ (z : Status). unpublished z ≡ unpublished (status u)) status t u st (λ i. e ∙ ap (λ k. unpublished (status k)) (sym i)) (λ _. refl)

-- a quiet step publishes nothing, and takes nothing back
pub quiet_step : (g : Graph) (s : Core) (x : Step) → is_quiet x ≡ true → Allows g s x → (u : ℕ) → unpublished ((effect g s x).status u) ≡ unpublished (s.status u)
quiet_step g s (Claim w t) q en u = open_upd s.status t (held w) u (sym (⊎_elim (λ r. ap unpublished r.0) (λ r. ap unpublished r.0) en.2))
quiet_step g s (Publish w t) q en u = absurd (cc)
quiet_step g s (Send w t e) q en u = refl
quiet_step g s (Take w t e) q en u = refl
quiet_step g s (Park w t) q en u = open_upd s.status t parked u (sym (ap unpublished en.1.0))
quiet_step g s (PutDown w t) q en u = open_upd s.status t ready u (sym (ap unpublished en.1))

-- ---- boards

-- the parts of a board on which nothing was done
pub opening_board : (x : Parts) → x.history ≡ [] → IsPlan x.plan → IsOfItsSpan (board_of x) → KnowsAll is_transport x.knows → x.workers ≤ 64
    → Reflects (graph_of x.plan) x.workers opening x.states → length x.tiles ≡ x.plan.tasks → ((k : ℕ) → tile_for x.tiles k ≡ None)
    → length x.unread ≡ x.plan.tasks → ((t : ℕ) → t < x.plan.tasks → get_or x.unread t 0 ≡ length (list_at x.plan.readers t))
    → length x.kept ≡ x.plan.tasks → ((t : ℕ) → t < x.plan.tasks → get_or x.kept t false ≡ hands_out_at x.plan.plan x.program x.plan.span t)
    → length x.works ≡ x.plan.tasks → ((t : ℕ) → work_at x.works t ≡ None) → Carries (board_of x) x.channels → steps_at_most x.plan x.workers ≤ x.room → x.over ≡ None → IsBoard x
opening_board x none' plan of kit few shows all_tiles no_tiles all_unread reads all_kept keeps all_works no_works carries enough no_over =
    let at : state_in x ≡ opening = ap (λ (l : List Step). after (graph_of x.plan) l) none' in
    record {
      plan = plan;
      of = of;
      kit = kit;
      few = few;
      legal = subst (λ (l : List Step). Legal (graph_of x.plan) x.workers l) (sym none') tt;
      shows = subst (λ (s : Core). Reflects (graph_of x.plan) x.workers s x.states) (sym at) shows;
      all_tiles = all_tiles;
      all_unread = all_unread;
      all_kept = all_kept;
      all_works = all_works;
      has_works = λ t lt _. subst (λ (o : Option (TileWork FlowOp)). HasItsWork (board_of x) t o) (sym (no_works t)) (ap (taken_edges t) none', ap (sent_edges t) none');
      carries = carries;
      reads = λ t lt. reads t lt ∙ sym (unmet_ready (list_at x.plan.readers t)) ∙ ap (λ (s : Core). unmet_of s.status (list_at x.plan.readers t)) (sym at);
      keeps = keeps;
      has = λ t lt is. absurd (let z : ready ≡ published = ap (λ (s : Core). s.status t) (sym at) ∙ is in cc);
      lacks = λ t lt _. no_tiles t;
      enough = enough;
      overs = subst (λ (o : Option OverAt). IsFirstNoted x.plan x.program x.known (state_in x).status o) (sym no_over)
          (none_noted x.plan x.program x.known (state_in x).status (λ t is. let z : ready ≡ published = ap (λ (s : Core). s.status t) (sym at) ∙ is in cc));
    }

module _ {x : Parts} (b : IsBoard x) where
  pub keeps_run : Kept (graph_of x.plan) x.workers (state_in x)
  keeps_run = run_kept (graph_of x.plan) x.workers b.plan.sound opening x.history (opening_kept (graph_of x.plan) x.workers) b.legal

  pub begun : BegunHaveNeeds (graph_of x.plan) (state_in x)
  begun = run_begun (graph_of x.plan) x.workers b.plan.sound x.history b.legal

  pub after_one : (s : Step) → after (graph_of x.plan) (x.history ++ s ∷ []) ≡ effect (graph_of x.plan) (state_in x) s
  after_one s = after_snoc (graph_of x.plan) opening x.history s

  -- the number of a task, as the plan has it and as the core has it
  pub core_task : (t : ℕ) → t < x.plan.tasks → t < (graph_of x.plan).tasks
  core_task t lt = let k = b.plan.all_tasks in omega arith

  pub plan_task : (t : ℕ) → t < (graph_of x.plan).tasks → t < x.plan.tasks
  plan_task t lt = let k = b.plan.all_tasks in omega arith

  -- after its claim the worker holds the task
  pub claimed_holds : (w t : ℕ) → (after (graph_of x.plan) (x.history ++ Claim w t ∷ [])).status t ≡ held w
  claimed_holds w t = ap (λ (s : Core). s.status t) (after_one (Claim w t)) ∙ upd_same (state_in x).status t (held w)

  -- the same, with other lists for the same state
  pub same_board : (ss : TaskStates) → Reflects (graph_of x.plan) x.workers (state_in x) ss → IsBoard (record x { states = ss })
  same_board ss r = record {
    plan = b.plan;
    of = record { planned = b.of.planned; drains = b.of.drains };
    kit = b.kit;
    few = b.few;
    legal = b.legal;
    shows = r;
    all_tiles = b.all_tiles;
    all_unread = b.all_unread;
    all_kept = b.all_kept;
    all_works = b.all_works;
    has_works = b.has_works;
    carries = b.carries;
    reads = b.reads;
    keeps = b.keeps;
    has = b.has;
    lacks = b.lacks;
    enough = b.enough;
    overs = b.overs;
  }

  -- by equal parts
  pub board_by : (xs : List Step) (room : ℕ) → xs ≡ x.history → room ≡ x.room → IsBoard (record x { history = xs; room = room })
  board_by xs room e h = subst (λ (z : List Step). IsBoard (record x { history = z; room = room })) (sym e) record {
    plan = b.plan;
    of = record { planned = b.of.planned; drains = b.of.drains };
    kit = b.kit;
    few = b.few;
    legal = b.legal;
    shows = b.shows;
    all_tiles = b.all_tiles;
    all_unread = b.all_unread;
    all_kept = b.all_kept;
    all_works = b.all_works;
    has_works = b.has_works;
    carries = b.carries;
    reads = b.reads;
    keeps = b.keeps;
    has = b.has;
    lacks = b.lacks;
    enough = let k = b.enough in omega arith;
    overs = b.overs;
  }

  -- the board after one step more
  abbrev pub next_board : Step → BoardValue
  next_board s = record (board_of x) { history = x.history ++ s ∷ [] }

  -- the works of tasks after a step, where only that of its own task may have changed
  pub works_step : (s : Step) (ws : List (Option (TileWork FlowOp))) → ((u : ℕ) → u ≢ task_of s → work_at ws u ≡ work_at x.works u)
      → (IsLetGo ((effect (graph_of x.plan) (state_in x) s).status (task_of s)) → HasItsWork (next_board s) (task_of s) (work_at ws (task_of s)))
      → (u : ℕ) → u < x.plan.tasks → IsLetGo ((after (graph_of x.plan) (x.history ++ s ∷ [])).status u) → HasItsWork (next_board s) u (work_at ws u)
  works_step s ws others own u lt let_go =
      let g = graph_of x.plan in
      let go : IsLetGo ((effect g (state_in x) s).status u) = subst (λ (z : Core). IsLetGo (z.status u)) (after_one s) let_go in
      dite (ℕ_discrete u (task_of s))
      (λ is. subst (λ (v : ℕ). HasItsWork (next_board s) v (work_at ws v)) (sym is) (own (subst (λ (v : ℕ). IsLetGo ((effect g (state_in x) s).status v)) is go)))
      (λ ne. subst (λ (o : Option (TileWork FlowOp)). HasItsWork (next_board s) u o) (sym (others u ne))
      (work_step (board_of x) s u (work_at x.works u) (other_takes s u ne) (other_sends s u ne) (b.has_works u lt (subst IsLetGo (other_status g (state_in x) s u ne) go))))

  -- a step that changes no channel
  pub carries_step : (s : Step) → (effect (graph_of x.plan) (state_in x) s).waiting ≡ (state_in x).waiting → Carries (next_board s) x.channels
  carries_step s same = record {
    all = b.carries.all;
    waiting = λ c lt. b.carries.waiting c lt ∙ ap (λ (f : ℕ → List ℕ). f c) (sym same) ∙ ap (λ (z : Core). z.waiting c) (sym (after_one s));
    stand = b.carries.stand;
    room = b.carries.room;
  }

  -- a step that publishes nothing
  pub quiet_board : (s : Step) (ss : TaskStates) (ws : List (Option (TileWork FlowOp))) (cs : List Queue) → is_quiet s ≡ true → Enabled (graph_of x.plan) (state_in x) x.workers s
      → Reflects (graph_of x.plan) x.workers (effect (graph_of x.plan) (state_in x) s) ss → length ws ≡ length x.works
      → ((u : ℕ) → u ≢ task_of s → work_at ws u ≡ work_at x.works u)
      → (IsLetGo ((effect (graph_of x.plan) (state_in x) s).status (task_of s)) → HasItsWork (next_board s) (task_of s) (work_at ws (task_of s)))
      → Carries (next_board s) cs → IsBoard (record x { history = x.history ++ s ∷ []; states = ss; works = ws; channels = cs })
  quiet_board s ss ws cs q en r many others own carried =
      let open' : (u : ℕ) → unpublished ((after (graph_of x.plan) (x.history ++ s ∷ [])).status u) ≡ unpublished ((state_in x).status u) =
      λ u. ap (λ (z : Core). unpublished (z.status u)) (after_one s) ∙ quiet_step (graph_of x.plan) (state_in x) s q en.1 u in
      record {
        plan = b.plan;
        of = record { planned = b.of.planned; drains = b.of.drains };
        kit = b.kit;
        few = b.few;
        legal = legal_snoc (graph_of x.plan) x.workers opening x.history s b.legal en;
        shows = subst (λ (z : Core). Reflects (graph_of x.plan) x.workers z ss) (sym (after_one s)) r;
        all_tiles = b.all_tiles;
        all_unread = b.all_unread;
        all_kept = b.all_kept;
        all_works = many ∙ b.all_works;
        has_works = works_step s ws others own;
        carries = carried;
        reads = λ t lt. b.reads t lt ∙ sym (unmet_like (after (graph_of x.plan) (x.history ++ s ∷ [])).status (state_in x).status (list_at x.plan.readers t) open');
        keeps = b.keeps;
        has = λ t lt is need. b.has t lt (published_like _ _ (open' t) is) need;
        lacks = λ t lt h. b.lacks t lt (⊎_elim (λ ne. inl (λ is. ne (published_like _ _ (sym (open' t)) is))) (λ k. inr k) h);
        enough = b.enough;
        overs = first_like x.plan x.program x.known (state_in x).status (after (graph_of x.plan) (x.history ++ s ∷ [])).status x.over (λ t. sym (open' t)) b.overs;
      }

  -- a step by which a holder lets go of its task, with the task's work
  pub let_go_board : (s : Step) (ss : TaskStates) (o : Option (TileWork FlowOp)) → is_quiet s ≡ true → Enabled (graph_of x.plan) (state_in x) x.workers s
      → Reflects (graph_of x.plan) x.workers (effect (graph_of x.plan) (state_in x) s) ss → takes_for (task_of s) s ≡ [] → sends_for (task_of s) s ≡ []
      → task_of s < x.plan.tasks → HasItsWork (board_of x) (task_of s) o → Carries (next_board s) x.channels
      → IsBoard (record x { history = x.history ++ s ∷ []; states = ss; works = set x.works (task_of s) o })
  let_go_board s ss o q en r takes sends lt has carried =
      quiet_board s ss (set x.works (task_of s) o) x.channels q en r (length-set x.works (task_of s) o) (λ u ne. work_other x.works (task_of s) u o ne)
      (λ _. subst (λ (k : Option (TileWork FlowOp)). HasItsWork (next_board s) (task_of s) k) (sym (work_same x.works (task_of s) o (let k = b.all_works in omega arith)))
      (work_step (board_of x) s (task_of s) o takes sends has)) carried

  -- a claim, after which the board need not have the task's work
  pub claimed_board : (w t : ℕ) (ss : TaskStates) (o : Option (TileWork FlowOp)) → Enabled (graph_of x.plan) (state_in x) x.workers (Claim w t)
      → Reflects (graph_of x.plan) x.workers (effect (graph_of x.plan) (state_in x) (Claim w t)) ss
      → IsBoard (record x { history = x.history ++ Claim w t ∷ []; states = ss; works = set x.works t o })
  claimed_board w t ss o en r =
      quiet_board (Claim w t) ss (set x.works t o) x.channels refl en r (length-set x.works t o) (λ u ne. work_other x.works t u o ne)
      (λ go. absurd (subst IsLetGo (upd_same (state_in x).status t (held w)) go)) (carries_step (Claim w t) refl)

  -- a task that can be claimed is let go
  claimable_let_go : (s : Core) (t : ℕ) → Claimable (graph_of x.plan) s t → IsLetGo (s.status t)
  claimable_let_go s t c = ⊎_elim (λ r. subst IsLetGo (sym r.0) tt) (λ r. subst IsLetGo (sym r.0) tt) c

  -- who claims a task has its work
  pub claimed_good : (w t : ℕ) → w ≤ x.workers → t < x.plan.tasks → Claimable (graph_of x.plan) (state_in x) t → IsGood (next_board (Claim w t)) w t (work_at x.works t)
  claimed_good w t le lt c = record {
    holds = record { number = le; task = lt; holds = claimed_holds w t };
    has = work_step (board_of x) (Claim w t) t (work_at x.works t) refl refl (b.has_works t lt (claimable_let_go (state_in x) t c));
  }

  -- where the stack is empty, no task can be claimed
  pub none_claimable : x.states.claimable.items ≡ [] → NoneClaimable (board_of x)
  none_claimable empty t lt c =
      let g_lt : t < (graph_of x.plan).tasks = core_task t lt in
      let h = b.shows.shown in
      let none' : due (state_at x.states.states.items t) (get_or x.states.unmet.items t 0) ≡ 0 = sym (h.claimable t g_lt) ∙ ap (times t) empty in
      ⊎_elim
      (λ r. let is : state_at x.states.states.items t ≡ Ready = ready_state (state_at x.states.states.items t) (h.states t g_lt ∙ r.0) in
      let u : get_or x.states.unmet.items t 0 ≡ 0 = h.unmet t g_lt ∙ none_unmet (state_in x).status ((graph_of x.plan).needs t) r.1 in
      let z : 1 ≡ 0 = sym (ap (λ k. due Ready k) u) ∙ sym (ap (λ st. due st (get_or x.states.unmet.items t 0)) is) ∙ none' in absurd (omega arith))
      (λ r. parked_state (state_at x.states.states.items t) (h.states t g_lt ∙ r.0)
      (λ is. let n' = subst (Waits (graph_of x.plan) (state_in x) t) is (h.waits t g_lt) in r.1.3 (n' r.1.0 r.1.1 r.1.2))
      (λ is. let z : 1 ≡ 0 = sym (ap (λ st. due st (get_or x.states.unmet.items t 0)) is) ∙ none' in absurd (omega arith)))
      c
    where
      ready_state : (st : TaskState) → shown_status st ≡ ready → st ≡ Ready
      ready_state Ready e = refl
      ready_state (Held w) e = absurd (cc)
      ready_state Parked e = absurd (cc)
      ready_state Due e = absurd (cc)
      ready_state Published e = absurd (cc)

      parked_state : (st : TaskState) → shown_status st ≡ parked → (st ≡ Parked → ⊥) → (st ≡ Due → ⊥) → ⊥
      parked_state Ready e k l = absurd (cc)
      parked_state (Held w) e k l = absurd (cc)
      parked_state Parked e k l = k refl
      parked_state Due e k l = l refl
      parked_state Published e k l = absurd (cc)

  -- where besides nobody holds one, all are published
  pub all_published : x.states.claimable.items ≡ [] → ((t w : ℕ) → t < (graph_of x.plan).tasks → (state_in x).status t ≢ held w) → (t : ℕ) → t < x.plan.tasks → (state_in x).status t ≡ published
  all_published empty idle t lt =
      published_or ((state_in x).status t) (λ open'.
      let c = idle_enabled (graph_of x.plan) x.workers b.plan.sound (state_in x) keeps_run (t, core_task t lt, open') idle in
      none_claimable empty c.0 (plan_task c.0 c.1) (c.2 0 (omega arith)).1.2)
    where
      published_or : (st : Status) → (st ≢ published → ⊥) → st ≡ published
      published_or ready k = absurd (k (λ e. let z : ready ≡ published = e in cc))
      published_or (held w) k = absurd (k (λ e. let z : held w ≡ published = e in cc))
      published_or parked k = absurd (k (λ e. let z : parked ≡ published = e in cc))
      published_or published k = refl

  -- the tile of a task, if there is one
  pub tile_shown : (t : ℕ) → t < x.plan.tasks → (a : Arc Tile Global) → tile_for x.tiles t ≡ Some a → IsTileFor (board_of x) t (arc_value a) × (HasNoTile (board_of x) t → ⊥)
  tile_shown t lt a is =
      let some : (((state_in x).status t ≢ published) ⊎ IsNotNeeded x t) → ⊥ = λ h. let z : Some a ≡ None = sym is ∙ b.lacks t lt h in cc in (
        dec_published ((state_in x).status t)
            (λ p. dec_needed (λ n. subst (λ (o : Option (Arc Tile Global)). IsSomeAnd o (λ k. IsTileFor (board_of x) t (arc_value k))) is (b.has t lt p n)) (λ n. absurd (some (inr n))))
            (λ np. absurd (some (inl np))),
        λ h. some (⊎_elim (λ np. inl np) (λ k. inr (b.reads t lt ∙ none_unmet (state_in x).status (list_at x.plan.readers t) k.0, b.keeps t lt ∙ k.1)) h),
      )
    where
      dec_published : {A : Type 0} (st : Status) → (st ≡ published → A) → (st ≢ published → A) → A
      dec_published ready p k = k (λ e. let z : ready ≡ published = e in cc)
      dec_published (held w) p k = k (λ e. let z : held w ≡ published = e in cc)
      dec_published parked p k = k (λ e. let z : parked ≡ published = e in cc)
      dec_published published p k = p refl

      dec_kept : {A : Type 0} (k : Bool) → (k ≡ true → A) → (k ≡ false → A) → A
      dec_kept true p q = p refl
      dec_kept false p q = q refl

      dec_needed : {A : Type 0} → (IsNeeded x t → A) → (IsNotNeeded x t → A) → A
      dec_needed p k = dite (dec_le 1 (get_or x.unread t 0)) (λ le. p (inl le)) (λ gt. dec_kept (get_or x.kept t false) (λ e. p (inr e)) (λ e. k (omega arith, e)))

  -- no tile is there for a task that has none
  pub no_tile_shown : (t : ℕ) → t < x.plan.tasks → tile_for x.tiles t ≡ None → HasNoTile (board_of x) t
  no_tile_shown t lt is = dec_published ((state_in x).status t)
      (λ p. dec_needed (λ n. absurd (subst (λ (o : Option (Arc Tile Global)). IsSomeAnd o (λ k. IsTileFor (board_of x) t (arc_value k))) is (b.has t lt p n)))
      (λ n. inr (unmet_none (state_in x).status (list_at x.plan.readers t) (sym (b.reads t lt) ∙ n.0), sym (b.keeps t lt) ∙ n.1)))
      (λ np. inl np)
    where
      dec_published : {A : Type 0} (st : Status) → (st ≡ published → A) → (st ≢ published → A) → A
      dec_published ready p k = k (λ e. let z : ready ≡ published = e in cc)
      dec_published (held w) p k = k (λ e. let z : held w ≡ published = e in cc)
      dec_published parked p k = k (λ e. let z : parked ≡ published = e in cc)
      dec_published published p k = p refl

      dec_kept : {A : Type 0} (k : Bool) → (k ≡ true → A) → (k ≡ false → A) → A
      dec_kept true p q = p refl
      dec_kept false p q = q refl

      dec_needed : {A : Type 0} → (IsNeeded x t → A) → (IsNotNeeded x t → A) → A
      dec_needed p k = dite (dec_le 1 (get_or x.unread t 0)) (λ le. p (inl le)) (λ gt. dec_kept (get_or x.kept t false) (λ e. p (inr e)) (λ e. k (omega arith, e)))

  module _ (w t : ℕ) (lt : t < x.plan.tasks) (is : (state_in x).status t ≡ held w) where
    -- what a held task reads is published, and the task is one of its readers that is not
    needs_in : (k : ℕ) → In k (list_at x.plan.needs t) → (k < x.plan.tasks) × ((state_in x).status k ≡ published) × (1 ≤ get_or x.unread k 0)
    needs_in k i =
        let g_lt = core_task t lt in
        let j : In k ((graph_of x.plan).needs t) = subst (λ (l : List ℕ). In k l) (sym (b.plan.reads t lt)) i in
        let before = (each_in (NeedsWell (graph_of x.plan) t) ((graph_of x.plan).needs t) k (b.plan.sound.needed t g_lt) j).0 in
        let k_lt : k < x.plan.tasks = omega arith in
        let read : In t (list_at x.plan.readers k) = in_times t (list_at x.plan.readers k) (let a = b.plan.read_by k t k_lt lt in let o = times_in k (list_at x.plan.needs t) i in omega arith) in (
          k_lt,
          begun.needs t g_lt (λ q. absurd (let z : held w ≡ ready = sym is ∙ q in cc)) k j,
          (let u = unmet_some (state_in x).status t (list_at x.plan.readers k) (ap unpublished is) read in let r = b.reads k k_lt in omega arith),
        )
      where
        unmet_some : (status : ℕ → Status) (r : ℕ) (ns : List ℕ) → unpublished (status r) ≡ 1 → In r ns → 1 ≤ unmet_of status ns
        unmet_some status r [] e i = absurd i
        unmet_some status r (n ∷ ns) e i = ⊎_elim
            (λ q. let z : unpublished (status n) ≡ 1 = ap (λ k. unpublished (status k)) (sym q) ∙ e in omega arith)
            (λ j. let z = unmet_some status r ns e j in omega arith) i

    -- the tiles of a held task's needs are there
    pub tiles_there : Each (λ k. (k < length x.tiles) × IsSome (tile_for x.tiles k)) (list_at x.plan.needs t)
    tiles_there = each_from _ (list_at x.plan.needs t) (λ k i. let q = needs_in k i in ((let a = b.all_tiles in let l = q.0 in omega arith), some_is (tile_for x.tiles k) _ (b.has k q.0 q.1 (inl q.2))))
      where
        some_is : {A : Type 0} (o : Option A) (P : A → Type 0) → IsSomeAnd o P → IsSome o
        some_is None P h = absurd h
        some_is (Some a) P h = refl

    -- clones of them are those of the needs
    pub copies_are : (as' : List (Arc Tile Global)) → AllZip (IsCopy x.tiles) as' (list_at x.plan.needs t) → AreTilesOf (board_of x) as' (list_at x.plan.needs t)
    copies_are as' c = zip_map (IsCopy x.tiles) (λ a k. IsTileFor (board_of x) k (arc_value a)) as' (list_at x.plan.needs t) c
        (λ a k i h. let q = needs_in k i in copy_is k (tile_for x.tiles k) a h (b.has k q.0 q.1 (inl q.2)))
      where
        copy_is : (k : ℕ) (o : Option (Arc Tile Global)) (a : Arc Tile Global) → IsSomeAnd o (λ z. arc_value a ≡ arc_value z) → IsSomeAnd o (λ z. IsTileFor (board_of x) k (arc_value z)) → IsTileFor (board_of x) k (arc_value a)
        copy_is k None a h s = absurd h
        copy_is k (Some c) a h s = subst (λ (z : Tile). IsTileFor (board_of x) k z) (sym h) s

    -- each need is read once more than it is by those that were published
    pub needs_owed : (k : ℕ) → times k (list_at x.plan.needs t) ≤ get_or x.unread k 0
    needs_owed k = dite (dec_le 1 (times k (list_at x.plan.needs t)))
        (λ le. let q = needs_in k (in_times k (list_at x.plan.needs t) le) in
        let p = unmet_published (state_in x).status t (list_at x.plan.readers k) (ap unpublished is) in
        let r = b.reads k q.0 in let y = b.plan.read_by k t q.0 lt in omega arith)
        (λ gt. omega arith)

    pub needs_within : Each (λ k. k < length x.unread) (list_at x.plan.needs t)
    needs_within = each_from _ (list_at x.plan.needs t) (λ k i. let q = needs_in k i in let a = b.all_unread in let l = q.0 in omega arith)
