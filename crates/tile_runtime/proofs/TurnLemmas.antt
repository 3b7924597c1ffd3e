-- What a turn of a worker may rest on, and what it leaves.
use Rattle.std.proofs.Common.{◌≡◌, ℕ, ◌≤◌, false, List, [], ◌∷◌, refl, ap, sym, ◌∙◌, subst, Option, Some, None, Result, Vec}
use Rattle.std.specs.Prelude.{IfOk}
use Rattle.std.specs.Arc.{arc_value}
use Rattle.std.specs.Global.{Global}
use Rattle.std.specs.Option.{IsSome, IsSomeAnd, option_map}
use Rattle.std.specs.declared.alloc.AllocError.{AllocError}
use Rattle.std.specs.declared.sync.Arc.{Arc}
use mathlib.Core.List.{IsPrefix}
use Rattle.core_model.specs.declared.step.Step.{Step}
use Rattle.core_model.specs.declared.step.Step.TheVariants.{Claim as ClaimStep, Publish, Send, Take, Park, PutDown}
use Rattle.core_model.specs.Steps.{worker_of}
use Rattle.drain_meaning.specs.declared.op.FlowOp.{FlowOp}
use Rattle.flow_task.specs.Works.{TileWork, accepted, marked}
use Rattle.plan_graph.specs.PlanGraphs.{IsPlan, list_at}
use Rattle.turn_cell.specs.Histories.{entries_by}
use Rattle.task_tiles.specs.declared.tile.Tile.{Tile}
use Rattle.task_board.specs.declared.jobs.BoardPlan.{BoardPlan}
use Rattle.task_board.specs.declared.ticket.Claim.{Claim}
use Rattle.task_board.specs.declared.ticket.Claim.TheVariants.{Got, Idle, Finished}
use Rattle.task_board.specs.declared.ticket.Ticket.{Ticket}
use Rattle.task_board.specs.declared.ticket.Waiting.{Waiting}
use Rattle.task_board.specs.declared.ticket.Waiting.TheVariants.{Took, Parked}
use Rattle.task_board.specs.Boards.{BoardValue, IsFinished, IsFree, IsLegal, IsTileFor, board_with_step, state_of}
use Rattle.task_board.specs.Claims.{ClaimGives, WaitingGives}
use Rattle.task_board.specs.Tickets.{IsDone, IsGood, IsGoodTicket, StaysGood, board_with_steps, work_in}
use Rattle.task_board.specs.Tiles.{AreTilesOf}
use Rattle.tile_runtime.specs.inside.Knowledge.{HasEnded, HasFreeHands, IsAtWork, board_with, plan_of_board}
use Rattle.tile_runtime.specs.inside.Turns.{HasClaimed, HasSent, HasTakenOrParked, HasTicket}
use Rattle.tile_runtime.proofs.Carry.{Met, ended_down, free_met, free_parked, free_published, legal_before, others_behind, some_same, work_claimed, work_met, work_sent, work_taken}

-- ---- what is met

-- a board of the plan that a seat knows
plan_met : (p : BoardPlan) (plan : Option BoardPlan) (b : BoardValue) → plan ≡ Some p → plan ≡ Some (plan_of_board b) → b ≡ board_with p b.history
plan_met p plan b is may = ap (λ (q : BoardPlan). board_with q b.history) (some_same (plan_of_board b) p (sym may ∙ is))

-- what a worker meets in its turn
pub meet : (p : BoardPlan) (w : ℕ) (authors : List ℕ) (plan : Option BoardPlan) (seen : List Step) (b : BoardValue) → authors ≡ w ∷ [] → plan ≡ Some p → plan ≡ Some (plan_of_board b) → IsPrefix seen b.history
    → entries_by worker_of authors b.history ≡ entries_by worker_of authors seen → Met (board_with p seen) w b
meet p w authors plan seen b a is may begins own =
    subst (λ (v : BoardValue). Met (board_with p seen) w v) (sym (plan_met p plan b is may))
    (others_behind p w seen b.history begins (subst (λ (l : List ℕ). entries_by worker_of l b.history ≡ entries_by worker_of l seen) a own))

-- one turn: what was met, and what the seat has seen then
pub record Turned (p : BoardPlan) (w : ℕ) (seen new : List Step) (b c : BoardValue) : Type 0 where
  pub met : Met (board_with p seen) w b
  pub is : c ≡ board_with p new

pub turned : (p : BoardPlan) (w : ℕ) (authors : List ℕ) (plan : Option BoardPlan) (seen new : List Step) (b c : BoardValue) → authors ≡ w ∷ [] → plan ≡ Some p → plan ≡ Some (plan_of_board b) → IsPrefix seen b.history
    → entries_by worker_of authors b.history ≡ entries_by worker_of authors seen → plan_of_board c ≡ plan_of_board b → new ≡ c.history → Turned p w seen new b c
turned p w authors plan seen new b c a is may begins own kept e = record {
  met = meet p w authors plan seen b a is may begins own;
  is = plan_met p plan c is (may ∙ ap Some (sym kept)) ∙ ap (board_with p) (sym e);
}

-- the plan of what is met
met_plan : (s b : BoardValue) (w : ℕ) → Met s w b → (q : BoardValue → Type 0) → ((more : List Step) → q (board_with_steps s more)) → q b
met_plan s b w m q all = subst q (sym m.is) (all m.more)

-- ---- what may be done

pub may_claim : (p : BoardPlan) (w : ℕ) (seen : List Step) (b : BoardValue) → Met (board_with p seen) w b → w ≤ p.workers → HasFreeHands (board_with p seen) w → (w ≤ b.workers) × (IsLegal b → IsFree b w)
may_claim p w seen b m number hands = (
  met_plan (board_with p seen) b w m (λ v. w ≤ v.workers) (λ _. number),
  λ legal. (free_met (board_with p seen) b w m legal hands).free,
)

some_there : {A : Type 0} (P : A → Type 0) (o : Option A) → IsSomeAnd o P → IsSome o
some_there P None h = absurd h
some_there P (Some x) h = refl

module _ {K W : Type 0} (work_of : W → TileWork FlowOp) where
  -- a ticket of whose work something is so has one
  pub begun_in : (P : TileWork FlowOp → Type 0) (ticket : Ticket K W) → IsSomeAnd (work_in work_of ticket) P → IsSome (work_in work_of ticket)
  begun_in P ticket h = some_there P (work_in work_of ticket) h

  module _ (stays : StaysGood) (p : BoardPlan) (plan : IsPlan p.plan) (w : ℕ) (seen : List Step) (ticket : Ticket K W) (has : HasTicket work_of (board_with p seen) w ticket) where
    abbrev work : Option (TileWork FlowOp)
    work = work_in work_of ticket

    at_work : (b : BoardValue) → Met (board_with p seen) w b → IsLegal b → IsAtWork b w ticket.task work
    at_work b m legal = work_met stays (board_with p seen) b w ticket.task work plan m legal has.1

    -- the ticket is good for the board that is met
    pub is_good : (b : BoardValue) → Met (board_with p seen) w b → IsLegal b → IsGoodTicket work_of b ticket
    is_good b m legal = subst (λ (v : ℕ). IsGood b v ticket.task work) (sym has.0) (at_work b m legal).good

    -- and its task may be put down
    pub can_put : (b : BoardValue) → Met (board_with p seen) w b → IsLegal b → IsGoodTicket work_of b ticket × ((state_of b).has_put_down ticket.worker ≡ false)
    can_put b m legal = (is_good b m legal, ap (state_of b).has_put_down has.0 ∙ (at_work b m legal).can)

    -- or published
    pub can_publish : (tile : Arc Tile Global) → IsDone (board_with p []) ticket.task work → IsTileFor (board_with p []) ticket.task (arc_value tile) → (b : BoardValue) → Met (board_with p seen) w b → IsLegal b
        → IsGoodTicket work_of b ticket × IsDone b ticket.task work × IsTileFor b ticket.task (arc_value tile)
    can_publish tile done right b m legal = (
      is_good b m legal,
      met_plan (board_with p seen) b w m (λ v. IsDone v ticket.task work) (λ _. done),
      met_plan (board_with p seen) b w m (λ v. IsTileFor v ticket.task (arc_value tile)) (λ _. right),
    )

    module _ (new : List Step) (b c : BoardValue) (turn : Turned p w seen new b c) where
      -- a step of the ticket's worker is the worker's
      own_step : (f : ℕ → Step) → c ≡ board_with_step b (f ticket.worker) → c ≡ board_with_step b (f w)
      own_step f is = is ∙ ap (λ (v : ℕ). board_with_step b (f v)) has.0

      -- what is so after a step is so of what the seat has seen then
      after_step : (P : BoardValue → Type 0) (x : Step) → c ≡ board_with_step b x → IsLegal c → (IsAtWork b w ticket.task work → IsPlan b.plan → IsLegal (board_with_step b x) → P (board_with_step b x)) → P (board_with p new)
      after_step P x is legal then' =
          let legal' = subst IsLegal is legal in
          subst P (sym is ∙ turn.is) (then' (at_work b turn.met (legal_before b x legal')) (met_plan (board_with p seen) b w turn.met (λ v. IsPlan v.plan) (λ _. plan)) legal')

      -- nothing was appended
      pub after_read : IsLegal c → c ≡ b → HasTicket work_of (board_with p new) w ticket
      after_read legal is = (has.0, subst (λ (v : BoardValue). IsAtWork v w ticket.task work) (sym is ∙ turn.is) (at_work b turn.met (subst IsLegal is legal)))

      pub read_tiles : (answer : Result (Vec (Arc Tile Global) Global) AllocError) → IfOk answer (λ tiles. AreTilesOf b tiles.items (list_at b.plan.needs ticket.task)) → IfOk answer (λ tiles. AreTilesOf (board_with p []) tiles.items (list_at p.plan.needs ticket.task))
      read_tiles answer ok = subst (λ (v : BoardValue). IfOk answer (λ tiles. AreTilesOf v tiles.items (list_at v.plan.needs ticket.task))) turn.met.is ok

      pub after_publish : IsLegal c → c ≡ board_with_step b (Publish ticket.worker ticket.task) → HasFreeHands (board_with p new) w
      after_publish legal is = after_step (λ v. HasFreeHands v w) (Publish w ticket.task) (own_step (λ v. Publish v ticket.task) is) legal (λ at plan' legal'. free_published b w ticket.task work plan' at legal')

      pub after_put_down : IsLegal c → c ≡ board_with_step b (PutDown ticket.worker ticket.task) → HasEnded (board_with p new) w
      after_put_down legal is = after_step (λ v. HasEnded v w) (PutDown w ticket.task) (own_step (λ v. PutDown v ticket.task) is) legal (λ at plan' legal'. ended_down b w ticket.task work plan' at legal')

      pub after_send : (edge : ℕ) → IsSome work → IsLegal c → c ≡ board_with_step b (Send ticket.worker ticket.task edge) → HasSent work_of (board_with p new) w ticket edge
      after_send edge begun legal is = (
        has.0,
        after_step (λ v. IsAtWork v w ticket.task (option_map (λ k. marked k edge) work)) (Send w ticket.task edge) (own_step (λ v. Send v ticket.task edge) is) legal (λ at _ legal'. work_sent b w ticket.task edge work begun at legal'),
      )

      pub after_take_or_park : (answer : Waiting K W) → IsSome work → IsLegal c → WaitingGives work_of b ticket answer c → HasTakenOrParked work_of (board_with p new) w ticket answer
      after_take_or_park (Took same x) begun legal gives = (
        gives.0,
        gives.1.2,
        has.0,
        after_step (λ v. IsAtWork v w ticket.task (option_map (λ k. accepted k x) work)) (Take w ticket.task x.edge) (own_step (λ v. Take v ticket.task x.edge) gives.1.0) legal (λ at _ legal'. work_taken b w ticket.task x work begun at gives.1.1 legal'),
      )
      after_take_or_park Parked begun legal gives = after_step (λ v. HasFreeHands v w) (Park w ticket.task) (own_step (λ v. Park v ticket.task) gives.1) legal (λ at plan' legal'. free_parked b w ticket.task work plan' at legal')

  -- after a claim
  pub after_claim : (p : BoardPlan) (w : ℕ) (seen new : List Step) (b c : BoardValue) (answer : Claim K W) → Turned p w seen new b c → HasFreeHands (board_with p seen) w → IsLegal c → ClaimGives work_of b w answer c → HasClaimed work_of (board_with p new) w answer
  after_claim p w seen new b c (Got ticket) turn hands legal gives =
      let x : Step = ClaimStep w ticket.task in
      let legal' : IsLegal (board_with_step b x) = subst IsLegal gives.1 legal in
      let good : IsGood (board_with_step b x) w ticket.task (work_in work_of ticket) =
      subst (λ (v : BoardValue). IsGood v w ticket.task (work_in work_of ticket)) gives.1 (subst (λ (v : ℕ). IsGood c v ticket.task (work_in work_of ticket)) gives.0 gives.2) in (
        gives.0,
        subst (λ (v : BoardValue). IsAtWork v w ticket.task (work_in work_of ticket)) (sym gives.1 ∙ turn.is)
            (work_claimed b w ticket.task (work_in work_of ticket) (free_met (board_with p seen) b w turn.met (legal_before b x legal') hands) legal' good),
      )
  after_claim p w seen new b c (Idle holder task) turn hands legal gives =
      subst (λ (v : BoardValue). HasFreeHands v w) (sym gives.0 ∙ turn.is) (free_met (board_with p seen) b w turn.met (subst IsLegal gives.0 legal) hands)
  after_claim p w seen new b c Finished turn hands legal gives = (
    subst (λ (v : BoardValue). HasFreeHands v w) (sym gives.0 ∙ turn.is) (free_met (board_with p seen) b w turn.met (subst IsLegal gives.0 legal) hands),
    subst IsFinished (sym gives.0 ∙ turn.is) gives.1,
  )
