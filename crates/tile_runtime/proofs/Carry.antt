-- What a worker knows stays so through what others do, and how its own steps change it.
use Rattle.std.proofs.Common.{◌≡◌, ◌≢◌, ℕ, ◌<◌, Bool, true, false, cond, ◌||◌, eq-eqb, inr, List, [], ◌∷◌, ◌++◌, refl, ap, sym, ◌∙◌, subst, arith, Option, Some}
use Rattle.std.specs.Option.{option_map, IsSome}
use mathlib.Core.List.{IsPrefix}
use Rattle.core_model.specs.declared.step.Step.{Step}
use Rattle.core_model.specs.declared.step.Step.TheVariants.{Claim, Publish, Send, Take, Park, PutDown}
use Rattle.core_model.specs.Graphs.{Graph}
use Rattle.core_model.specs.Cores.{Core, Status, held, opening, parked, published, ready, upd}
use Rattle.core_model.specs.Steps.{IsByOthers, effect, worker_of}
use Rattle.core_model.specs.Runs.{LegalFrom}
use Rattle.core_model.proofs.Callers.{after_snoc, after_rest, holds_one, in_last, left_by_others, legal_rest, published_run, upd_cases}
use Rattle.drain_meaning.specs.declared.op.FlowOp.{FlowOp}
use Rattle.border_channel.specs.declared.edge.Message.{Message}
use Rattle.flow_task.specs.Works.{TileWork, accepted, marked}
use Rattle.plan_graph.specs.PlanGraphs.{IsPlan, graph_of}
use Rattle.turn_cell.specs.Histories.{entries_by, is_author}
use Rattle.turn_cell.proofs.EntryLemmas.{nothing_behind}
use Rattle.task_board.specs.declared.jobs.BoardPlan.{BoardPlan}
use Rattle.task_board.specs.Boards.{BoardValue, IsFinished, IsFree, IsLegal, board_with_step, state_of}
use Rattle.task_board.specs.Messages.{StandsOn}
use Rattle.task_board.specs.Tickets.{IsGood, StaysGood, board_with_steps}
use Rattle.task_board.proofs.Callers.{good_sent, good_taken}
use Rattle.tile_runtime.specs.inside.Knowledge.{HasEnded, HasFreeHands, IsAtWork, board_with}

-- ---- what others do

-- what a worker meets: what it has seen, with steps of others behind
pub record Met (s : BoardValue) (w : ℕ) (b : BoardValue) : Type 0 where
  pub more : List Step
  pub is : b ≡ board_with_steps s more
  pub others : IsByOthers w more

pub some_same : {A : Type 0} (a b : A) → Some a ≡ Some b → a ≡ b
some_same a b e = cc

drop_one : (b : Bool) (x : Step) (xs : List Step) → cond b (x ∷ xs) xs ≡ [] → xs ≡ []
drop_one true x xs e = let q : x ∷ xs ≡ [] = e in absurd (cc)
drop_one false x xs e = e

-- where none of the entries is by the worker, all are others' steps
pub by_others : (w : ℕ) (xs : List Step) → entries_by worker_of (w ∷ []) xs ≡ [] → IsByOthers w xs
by_others w [] e = tt
by_others w (x ∷ xs) e = (
  (λ q.
      let here : is_author (worker_of x) (w ∷ []) ≡ true = ap (λ b. b || false) (eq-eqb (worker_of x) w q) in
      let z : x ∷ entries_by worker_of (w ∷ []) xs ≡ [] = sym (ap (λ b. cond b (x ∷ entries_by worker_of (w ∷ []) xs) (entries_by worker_of (w ∷ []) xs)) here) ∙ e in absurd (cc)),
  by_others w xs (drop_one (is_author (worker_of x) (w ∷ [])) x (entries_by worker_of (w ∷ []) xs) e),
)

-- a history that begins another, with as many steps of the worker
pub others_behind : (p : BoardPlan) (w : ℕ) (seen log : List Step) → IsPrefix seen log → entries_by worker_of (w ∷ []) log ≡ entries_by worker_of (w ∷ []) seen → Met (board_with p seen) w (board_with p log)
others_behind p w seen log begins own = record {
  more = begins.0;
  is = ap (board_with p) (sym begins.1);
  others = by_others w begins.0 (nothing_behind (λ e. is_author (worker_of e) (w ∷ [])) seen log begins own);
}

-- a run begins with a run
legal_front : (g : Graph) (n : ℕ) (s : Core) (xs ys : List Step) → LegalFrom g n s (xs ++ ys) → LegalFrom g n s xs
legal_front g n s [] ys l = tt
legal_front g n s (x ∷ xs) ys l = (l.0, legal_front g n (effect g s x) xs ys l.1)

-- so a board was legal before its last step
pub legal_before : (b : BoardValue) (x : Step) → IsLegal (board_with_step b x) → IsLegal b
legal_before b x legal = legal_front (graph_of b.plan) b.workers opening b.history (x ∷ []) legal

-- who holds no task holds none through what others do
pub none_held : (s b : BoardValue) (w : ℕ) → Met s w b → IsLegal b → IsFree s w → IsFree b w
none_held s b w m legal free =
    subst (λ (v : BoardValue). IsFree v w) (sym m.is) ((left_by_others (graph_of s.plan) s.workers s.history m.more w (subst IsLegal m.is legal) m.others).free free)

pub free_on : (s : BoardValue) (more : List Step) (w : ℕ) → IsLegal (board_with_steps s more) → IsByOthers w more → HasFreeHands s w → HasFreeHands (board_with_steps s more) w
free_on s more w legal others hands =
    let left = left_by_others (graph_of s.plan) s.workers s.history more w legal others in
    record { legal = legal; free = left.free hands.free; can = left.has_put_down ∙ hands.can }

-- free hands stay free
pub free_met : (s b : BoardValue) (w : ℕ) → Met s w b → IsLegal b → HasFreeHands s w → HasFreeHands b w
free_met s b w m legal hands = subst (λ (v : BoardValue). HasFreeHands v w) (sym m.is) (free_on s m.more w (subst IsLegal m.is legal) m.others hands)

work_on : StaysGood → (s : BoardValue) (more : List Step) (w t : ℕ) (work : Option (TileWork FlowOp)) → IsPlan s.plan → IsLegal (board_with_steps s more) → IsByOthers w more → IsAtWork s w t work → IsAtWork (board_with_steps s more) w t work
work_on stays s more w t work plan legal others at =
    let left = left_by_others (graph_of s.plan) s.workers s.history more w legal others in
    record { legal = legal; good = stays s more w t work plan legal others at.good; can = left.has_put_down ∙ at.can }

-- who is at work stays so
pub work_met : StaysGood → (s b : BoardValue) (w t : ℕ) (work : Option (TileWork FlowOp)) → IsPlan s.plan → Met s w b → IsLegal b → IsAtWork s w t work → IsAtWork b w t work
work_met stays s b w t work plan m legal at = subst (λ (v : BoardValue). IsAtWork v w t work) (sym m.is) (work_on stays s m.more w t work plan (subst IsLegal m.is legal) m.others at)

finished_on : (s : BoardValue) (more : List Step) → IsPlan s.plan → IsLegal (board_with_steps s more) → IsFinished s → IsFinished (board_with_steps s more)
finished_on s more plan legal fin = λ t lt.
    let g = graph_of s.plan in
    ap (λ (z : Core). z.status t) (after_rest g opening s.history more)
    ∙ published_run g s.workers (state_of s) more t (legal_rest g s.workers opening s.history more legal) (fin t lt)

-- a finished board stays finished
pub finished_met : (s b : BoardValue) (w : ℕ) → IsPlan s.plan → Met s w b → IsLegal b → IsFinished s → IsFinished b
finished_met s b w plan m legal fin = subst IsFinished (sym m.is) (finished_on s m.more plan (subst IsLegal m.is legal) fin)

-- ---- a worker's own steps

state_after : (b : BoardValue) (x : Step) → state_of (board_with_step b x) ≡ effect (graph_of b.plan) (state_of b) x
state_after b x = after_snoc (graph_of b.plan) opening b.history x

-- who lets go of its one task holds none
lets_go : (b : BoardValue) (w t : ℕ) (to : Status) → IsPlan b.plan → IsLegal b → t < b.plan.tasks → (state_of b).status t ≡ held w → to ≢ held w → (u : ℕ) → u < (graph_of b.plan).tasks → upd (state_of b).status t to u ≢ held w
lets_go b w t to plan legal lt holds ne u low =
    let t_low : t < (graph_of b.plan).tasks = (let k = plan.all_tasks in omega arith) in
    upd_cases (λ (z : Status). z ≢ held w) (state_of b).status t u to (λ _. ne)
    (λ other is. other (sym (holds_one (graph_of b.plan) b.workers b.history legal w t u t_low low holds is)))

free_after : (b : BoardValue) (w t : ℕ) (work : Option (TileWork FlowOp)) (x : Step) (to : Status) → IsPlan b.plan → IsAtWork b w t work → (effect (graph_of b.plan) (state_of b) x).status ≡ upd (state_of b).status t to → to ≢ held w → IsFree (board_with_step b x) w
free_after b w t work x to plan at e ne = λ u low is.
    lets_go b w t to plan at.legal at.good.holds.task at.good.holds.holds ne u low (ap (λ (f : ℕ → Status). f u) (sym (ap (λ (z : Core). z.status) (state_after b x) ∙ e)) ∙ is)

-- who published its task has free hands
pub free_published : (b : BoardValue) (w t : ℕ) (work : Option (TileWork FlowOp)) → IsPlan b.plan → IsAtWork b w t work → IsLegal (board_with_step b (Publish w t)) → HasFreeHands (board_with_step b (Publish w t)) w
free_published b w t work plan at legal = record {
  legal = legal;
  free = free_after b w t work (Publish w t) published plan at refl (λ q. let z : published ≡ held w = q in absurd (cc));
  can = ap (λ (z : Core). z.has_put_down w) (state_after b (Publish w t)) ∙ at.can;
}

-- and who parked it
pub free_parked : (b : BoardValue) (w t : ℕ) (work : Option (TileWork FlowOp)) → IsPlan b.plan → IsAtWork b w t work → IsLegal (board_with_step b (Park w t)) → HasFreeHands (board_with_step b (Park w t)) w
free_parked b w t work plan at legal = record {
  legal = legal;
  free = free_after b w t work (Park w t) parked plan at refl (λ q. let z : parked ≡ held w = q in absurd (cc));
  can = ap (λ (z : Core). z.has_put_down w) (state_after b (Park w t)) ∙ at.can;
}

-- who put its task down has ended
pub ended_down : (b : BoardValue) (w t : ℕ) (work : Option (TileWork FlowOp)) → IsPlan b.plan → IsAtWork b w t work → IsLegal (board_with_step b (PutDown w t)) → HasEnded (board_with_step b (PutDown w t)) w
ended_down b w t work plan at legal = record {
  legal = legal;
  free = free_after b w t work (PutDown w t) ready plan at refl (λ q. let z : ready ≡ held w = q in absurd (cc));
  why = inr (t, in_last b.history (PutDown w t));
}

-- who claimed a task is at work on it
pub work_claimed : (b : BoardValue) (w t : ℕ) (work : Option (TileWork FlowOp)) → HasFreeHands b w → IsLegal (board_with_step b (Claim w t)) → IsGood (board_with_step b (Claim w t)) w t work → IsAtWork (board_with_step b (Claim w t)) w t work
work_claimed b w t work hands legal good = record {
  legal = legal;
  good = good;
  can = ap (λ (z : Core). z.has_put_down w) (state_after b (Claim w t)) ∙ hands.can;
}

-- who sent a message is at work, with its edge marked
pub work_sent : (b : BoardValue) (w t e : ℕ) (work : Option (TileWork FlowOp)) → IsSome work → IsAtWork b w t work → IsLegal (board_with_step b (Send w t e)) → IsAtWork (board_with_step b (Send w t e)) w t (option_map (λ k. marked k e) work)
work_sent b w t e work has at legal = record {
  legal = legal;
  good = good_sent b w t e work has at.good;
  can = ap (λ (z : Core). z.has_put_down w) (state_after b (Send w t e)) ∙ at.can;
}

-- and who took one, with it accepted
pub work_taken : (b : BoardValue) (w t : ℕ) (m : Message) (work : Option (TileWork FlowOp)) → IsSome work → IsAtWork b w t work → StandsOn b t m → IsLegal (board_with_step b (Take w t m.edge)) → IsAtWork (board_with_step b (Take w t m.edge)) w t (option_map (λ k. accepted k m) work)
work_taken b w t m work has at stands legal = record {
  legal = legal;
  good = good_taken b w t m work has at.good stands;
  can = ap (λ (z : Core). z.has_put_down w) (state_after b (Take w t m.edge)) ∙ at.can;
}
