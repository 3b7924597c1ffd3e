-- Jobs of a round, and what they gave.
use Rattle.std.proofs.Common.{◌≡◌, ◌∙◌, ℕ, ◌+◌, ◌-◌, ◌<◌, List, [], ◌∷◌, length, ap, sym, subst, arith, length-append, Ok, Err}
use Rattle.std.proofs.Math.ListN.{get_or-append}
use Rattle.std.proofs.Math.Seq.{get_or-append_seam}
use Rattle.std.proofs.lemmas.List.Elements.{All-append}
use Rattle.std.specs.Prelude.{All, IfOk, Result, slice_index_or, zero, suc, true, false}
use Rattle.std.specs.Arc.{arc_value}
use Rattle.std.specs.declared.alloc.AllocError.{AllocError}
use Rattle.drain_meaning.specs.declared.op.FlowOp.{FlowOp}
use Rattle.flow_task.specs.Works.{TileWork}
use Rattle.plan_graph.specs.PlanGraphs.{graph_of}
use Rattle.task_tiles.specs.FlowTiles.{IsFlowBegun}
use Rattle.task_tiles.specs.TaskTiles.{IsTaskTile}
use Rattle.task_board.specs.declared.ticket.Ticket.{Ticket}
use Rattle.task_board.specs.Boards.{BoardValue}
use Rattle.round_runtime.specs.declared.compute.RoundJob.{RoundJob}
use Rattle.round_runtime.specs.declared.compute.Outcome.{Outcome}
use Rattle.round_runtime.specs.declared.compute.Outcome.TheVariants.{Made, Begun, Underway}
use Rattle.round_runtime.specs.inside.Jobs.{Computed, EachComputed, IsJobOf, IsOutcomeFor}
use Rattle.round_runtime.specs.inside.Lists.{IsFrontOf, IsOneMore, LastIs}

all_one : {X : Type 0} (P : X → Type 0) (x : X) → P x → All P (x ∷ [])
all_one P x h zero d lt = h
all_one P x h (suc k) d lt = absurd (omega arith)

-- these jobs and one more are jobs
pub all_more : {X : Type 0} (P Q : X → Type 0) (xs ys : List X) → All P xs → IsOneMore P Q xs ys → All P ys
all_more P Q xs ys all more = subst (All P) (sym more.is) (All-append P xs (more.last ∷ []) all (all_one P more.last more.one))

module _ {K W : Type 0} (work_of : W → TileWork FlowOp) (b : BoardValue) (ticket : Ticket K W) (job : RoundJob) (of : IsJobOf ticket job) where
  -- what the job of a ticket gave is for the ticket
  pub gave : (r : Result (Outcome W) AllocError) → Computed work_of b.plan b.program b.known job r → IfOk r (IsOutcomeFor work_of b ticket)
  gave (Ok (Made tile)) h = (
    subst (λ (t : ℕ). (graph_of b.plan).is_flow t ≡ false) of.task h.0,
    subst (λ (t : ℕ). IsTaskTile b.plan.plan b.plan.span b.program b.known t (arc_value tile)) of.task h.1,
  )
  gave (Ok (Begun w)) h = (
    subst (λ (t : ℕ). (graph_of b.plan).is_flow t ≡ true) of.task h.0,
    of.fresh h.1,
    subst (λ (t : ℕ). IsFlowBegun b.plan.plan b.plan.span b.program b.known t (work_of w)) of.task h.2,
  )
  gave (Ok Underway) h = of.begun h
  gave (Err e) h = tt

module _ {W : Type 0} (work_of : W → TileWork FlowOp) (b : BoardValue) (jobs more : List RoundJob) (outcomes : List (Result (Outcome W) AllocError)) (len : length outcomes ≡ length more) (each : EachComputed work_of b.plan b.program b.known more outcomes) where
  -- the last of what was given is for the ticket whose job is the last
  pub last_gave : {K : Type 0} (P : RoundJob → Type 0) (ticket : Ticket K W) → IsOneMore P (IsJobOf ticket) jobs more → LastIs (λ r. IfOk r (IsOutcomeFor work_of b ticket)) outcomes
  last_gave P ticket one =
      let long : length more ≡ length jobs + 1 = ap length one.is ∙ length-append jobs (one.last ∷ []) in (
        omega arith,
        λ d.
            let at : length outcomes - 1 ≡ length jobs = omega arith in
            let is : slice_index_or more (length jobs) one.last ≡ one.last = ap (λ (l : List RoundJob). slice_index_or l (length jobs) one.last) one.is ∙ get_or-append_seam jobs one.last [] one.last in
            let here = each (length jobs) one.last d (omega arith) in
            gave work_of b ticket one.last one.two (slice_index_or outcomes (length outcomes - 1) d)
            (subst (λ (k : ℕ). Computed work_of b.plan b.program b.known one.last (slice_index_or outcomes k d)) (sym at)
            (subst (λ (j : RoundJob). Computed work_of b.plan b.program b.known j (slice_index_or outcomes (length jobs) d)) is here)),
      )

  -- the others are of the other jobs
  pub front_gave : (P Q : RoundJob → Type 0) (front : List (Result (Outcome W) AllocError)) → IsOneMore P Q jobs more → IsFrontOf outcomes front → EachComputed work_of b.plan b.program b.known jobs front
  front_gave P Q front one rest i x y lt =
      let long : length more ≡ length jobs + 1 = ap length one.is ∙ length-append jobs (one.last ∷ []) in
      let low : i < length front = (let k = rest.0 in omega arith) in
      let is : slice_index_or more i x ≡ slice_index_or jobs i x = ap (λ (l : List RoundJob). slice_index_or l i x) one.is ∙ get_or-append jobs (one.last ∷ []) x i lt in
      subst (λ (r : Result (Outcome W) AllocError). Computed work_of b.plan b.program b.known (slice_index_or jobs i x) r) (sym (rest.1 i y low))
      (subst (λ (j : RoundJob). Computed work_of b.plan b.program b.known j (slice_index_or outcomes i y)) is (each i x y (omega arith)))

-- there are as many as jobs
pub front_length : {X Y : Type 0} (P Q : X → Type 0) (xs ys : List X) (zs front : List Y) → IsOneMore P Q xs ys → length zs ≡ length ys → IsFrontOf zs front → length front ≡ length xs
front_length P Q xs ys zs front one len rest =
    let long : length ys ≡ length xs + 1 = ap length one.is ∙ length-append xs (one.last ∷ []) in
    let k = rest.0 in omega arith
