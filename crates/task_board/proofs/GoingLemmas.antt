-- A holder that goes on with its task.
use Rattle.std.proofs.Common.{◌≡◌, ◌∙◌, ℕ, ◌-◌, ◌<◌, ◌≤◌, List, [], ◌∷◌, ◌++◌, length, Option, Some, None, refl, ap, sym, subst, arith, append_assoc, length-append}
use Rattle.std.proofs.lemmas.List.{append-nil}
use Rattle.std.specs.Option.{IsSome, option_map}
use Rattle.core_model.specs.declared.step.Step.{Step}
use Rattle.core_model.specs.declared.step.Step.TheVariants.{Send, Take}
use Rattle.core_model.specs.Cores.{Core, opening}
use Rattle.core_model.specs.Graphs.{Each}
use Rattle.core_model.specs.Steps.{effect, worker_of}
use Rattle.core_model.proofs.Callers.{after_snoc, bounded, puts_down_once}
use Rattle.drain_meaning.specs.declared.op.FlowOp.{FlowOp}
use Rattle.border_channel.specs.declared.edge.Message.{Message}
use Rattle.flow_task.specs.Works.{TileWork, accepted, marked}
use Rattle.plan_graph.specs.PlanGraphs.{IsPlan, graph_of}
use Rattle.task_board.specs.declared.ticket.Ticket.{Ticket}
use Rattle.task_board.specs.Boards.{BoardValue, IsLegal, board_with_step, state_of}
use Rattle.task_board.specs.Messages.{StandsOn}
use Rattle.task_board.specs.Tickets.{IsGood, IsGoodTicket, board_with_steps, work_in}
use Rattle.task_board.specs.Holders.{GoesOn, IsWorkedOn}
use Rattle.task_board.specs.inside.Driven.{MakesStep}
use Rattle.task_board.specs.inside.Held.{steps_at_most}
use Rattle.task_board.proofs.SendLemmas.{mapped_some}
use Rattle.task_board.proofs.TicketLemmas.{sent_good, taken_good}

-- the state with one more step
step_state : (b : BoardValue) (x : Step) → state_of (board_with_step b x) ≡ effect (graph_of b.plan) (state_of b) x
step_state b x = after_snoc (graph_of b.plan) opening b.history x

-- ---- boards that are worked on

pub worked_none : (w : ℕ) (b : BoardValue) → IsWorkedOn w b b
worked_none w b = record {
  more = [];
  own = tt;
  is = ap (λ (l : List Step). let v : BoardValue = record b { history = l } in v) (sym (append-nil b.history));
  status = refl;
  puts = refl;
}

each_append : {A : Type 0} (P : A → Type 0) (xs ys : List A) → Each P xs → Each P ys → Each P (xs ++ ys)
each_append P [] ys one two = two
each_append P (x ∷ xs) ys one two = (one.0, each_append P xs ys one.1 two)

pub worked_more : (w : ℕ) (a b c : BoardValue) → IsWorkedOn w a b → IsWorkedOn w b c → IsWorkedOn w a c
worked_more w a b c one two = record {
  more = one.more ++ two.more;
  own = each_append (λ (x : Step). worker_of x ≡ w) one.more two.more one.own two.own;
  is = two.is ∙ (ap (λ (v : BoardValue). board_with_steps v two.more) one.is ∙ ap (λ (l : List Step). let v : BoardValue = record a { history = l } in v) (append_assoc a.history one.more two.more));
  status = two.status ∙ one.status;
  puts = two.puts ∙ one.puts;
}

pub worked_same : (w : ℕ) (a b c : BoardValue) → IsWorkedOn w a b → c ≡ b → IsWorkedOn w a c
worked_same w a b c on is = subst (IsWorkedOn w a) (sym is) on

-- a send, and a take, leave where tasks stand
sent_worked : (b : BoardValue) (w t e : ℕ) → IsWorkedOn w b (board_with_step b (Send w t e))
sent_worked b w t e = record {
  more = Send w t e ∷ [];
  own = (refl, tt);
  is = refl;
  status = ap (λ (s : Core). s.status) (step_state b (Send w t e));
  puts = ap (λ (s : Core). s.has_put_down) (step_state b (Send w t e));
}

taken_worked : (b : BoardValue) (w t e : ℕ) → IsWorkedOn w b (board_with_step b (Take w t e))
taken_worked b w t e = record {
  more = Take w t e ∷ [];
  own = (refl, tt);
  is = refl;
  status = ap (λ (s : Core). s.status) (step_state b (Take w t e));
  puts = ap (λ (s : Core). s.has_put_down) (step_state b (Take w t e));
}

longer : (b : BoardValue) (x : Step) → length b.history < length (board_with_step b x).history
longer b x = let p = length-append b.history (x ∷ []) in omega arith

-- the plan and the workers stay
pub worked_plan : {w : ℕ} (b c : BoardValue) → IsWorkedOn w b c → c.plan ≡ b.plan
worked_plan b c on = ap (λ (v : BoardValue). v.plan) on.is

-- a legal board has no more steps than a run has at most
pub few_steps : (b : BoardValue) → IsPlan b.plan → IsLegal b → length b.history ≤ steps_at_most b.plan b.workers
few_steps b plan legal =
    let x = bounded (graph_of b.plan) b.workers b.history plan.sound legal in
    let y = puts_down_once (graph_of b.plan) b.workers b.history legal in
    let t = plan.all_tasks in let e = plan.all_edges in omega arith

not_shorter : {w : ℕ} (b c : BoardValue) → IsWorkedOn w b c → length b.history ≤ length c.history
not_shorter b c on = let p = length-append b.history on.more in let q = ap (λ (v : BoardValue). length v.history) on.is in omega arith

-- a longer history brings a run nearer to its end
pub smaller : {w : ℕ} (a b c : BoardValue) → IsPlan a.plan → IsWorkedOn w a b → IsWorkedOn w b c → IsLegal c → length b.history < length c.history →
    steps_at_most c.plan c.workers - length c.history < steps_at_most b.plan b.workers - length b.history
smaller a b c plan one two legal longer' =
    let same : steps_at_most c.plan c.workers ≡ steps_at_most b.plan b.workers = ap (λ (v : BoardValue). steps_at_most v.plan v.workers) two.is in
    let kept : IsPlan c.plan = subst IsPlan (sym (worked_plan b c two ∙ worked_plan a b one)) plan in
    let few = few_steps c kept legal in
    omega arith

-- also where more was done before
pub smaller_more : {w : ℕ} (a b c d : BoardValue) → IsPlan a.plan → IsWorkedOn w a b → IsWorkedOn w b c → IsWorkedOn w c d → IsLegal d → length c.history < length d.history →
    steps_at_most d.plan d.workers - length d.history < steps_at_most b.plan b.workers - length b.history
smaller_more {w} a b c d plan one two three legal longer' =
    let front = not_shorter b c two in
    smaller a b d plan one (worked_more w b c d two three) legal (omega arith)

-- ---- tickets

some_mapped : {W V : Type 0} (f : W → V) (o : Option W) → IsSome (option_map f o) → IsSome o
some_mapped f None has = absurd (cc)
some_mapped f (Some x) has = refl

pub good_sent : (b : BoardValue) (w t e : ℕ) (o : Option (TileWork FlowOp)) → IsSome o → IsGood b w t o → IsGood (board_with_step b (Send w t e)) w t (option_map (λ k. marked k e) o)
good_sent b w t e None has good = absurd (cc)
good_sent b w t e (Some k) has good = sent_good b w t k e good

pub good_taken : (b : BoardValue) (w t : ℕ) (m : Message) (o : Option (TileWork FlowOp)) → IsSome o → IsGood b w t o → StandsOn b t m → IsGood (board_with_step b (Take w t m.edge)) w t (option_map (λ k. accepted k m) o)
good_taken b w t m None has good stands = absurd (cc)
good_taken b w t m (Some k) has good stands = taken_good b w t k m good stands

module _ {K W : Type 0} (work_of : W → TileWork FlowOp) (b c : BoardValue) (ticket next : Ticket K W) where
  -- a ticket that is the same but for its work
  like : (f : TileWork FlowOp → TileWork FlowOp) → IsGood c ticket.worker ticket.task (option_map f (work_in work_of ticket)) → IsSome ticket.work → next.worker ≡ ticket.worker → next.task ≡ ticket.task →
      work_in work_of next ≡ option_map f (work_in work_of ticket) → IsGoodTicket work_of c next × IsSome next.work
  like f good begun worker task work = (
    subst (λ (o : Option (TileWork FlowOp)). IsGood c next.worker next.task o) (sym work)
        (subst (λ (w : ℕ). IsGood c w next.task (option_map f (work_in work_of ticket))) (sym worker)
        (subst (λ (t : ℕ). IsGood c ticket.worker t (option_map f (work_in work_of ticket))) (sym task) good)),
    some_mapped work_of next.work (subst IsSome (sym work) (mapped_some_any f (work_in work_of ticket) (mapped_some work_of ticket.work begun))),
  )
    where
      mapped_some_any : (h : TileWork FlowOp → TileWork FlowOp) (o : Option (TileWork FlowOp)) → IsSome o → IsSome (option_map h o)
      mapped_some_any h None has = absurd (cc)
      mapped_some_any h (Some x) has = refl

  -- a message was sent, and its edge marked
  pub sent_goes : (e : ℕ) → IsGoodTicket work_of b ticket → IsSome ticket.work → c ≡ board_with_step b (Send ticket.worker ticket.task e) → next.worker ≡ ticket.worker → next.task ≡ ticket.task →
      work_in work_of next ≡ option_map (λ k. marked k e) (work_in work_of ticket) → MakesStep work_of b c ticket next
  sent_goes e good begun is worker task work =
      let after : BoardValue = board_with_step b (Send ticket.worker ticket.task e) in
      let own = like (λ k. marked k e) (subst (λ (v : BoardValue). IsGood v ticket.worker ticket.task (option_map (λ k. marked k e) (work_in work_of ticket))) (sym is) (good_sent b ticket.worker ticket.task e (work_in work_of ticket) (mapped_some work_of ticket.work begun) good)) begun worker task work in (
        record { worked = subst (IsWorkedOn ticket.worker b) (sym is) (sent_worked b ticket.worker ticket.task e); worker = worker; task = task; good = own.0; begun = own.1 },
        subst (λ (v : BoardValue). length b.history < length v.history) (sym is) (longer b (Send ticket.worker ticket.task e)),
      )

  -- a message was taken, and accepted
  pub taken_goes : (m : Message) → IsGoodTicket work_of b ticket → IsSome ticket.work → c ≡ board_with_step b (Take ticket.worker ticket.task m.edge) → StandsOn b ticket.task m → next.worker ≡ ticket.worker → next.task ≡ ticket.task →
      work_in work_of next ≡ option_map (λ k. accepted k m) (work_in work_of ticket) → MakesStep work_of b c ticket next
  taken_goes m good begun is stands worker task work =
      let own = like (λ k. accepted k m) (subst (λ (v : BoardValue). IsGood v ticket.worker ticket.task (option_map (λ k. accepted k m) (work_in work_of ticket))) (sym is) (good_taken b ticket.worker ticket.task m (work_in work_of ticket) (mapped_some work_of ticket.work begun) good stands)) begun worker task work in (
        record { worked = subst (IsWorkedOn ticket.worker b) (sym is) (taken_worked b ticket.worker ticket.task m.edge); worker = worker; task = task; good = own.0; begun = own.1 },
        subst (λ (v : BoardValue). length b.history < length v.history) (sym is) (longer b (Take ticket.worker ticket.task m.edge)),
      )

-- nothing was done yet
pub goes_none : {K W : Type 0} (work_of : W → TileWork FlowOp) (b : BoardValue) (ticket : Ticket K W) → IsGoodTicket work_of b ticket → IsSome ticket.work → GoesOn work_of b b ticket ticket
goes_none work_of b ticket good begun = record { worked = worked_none ticket.worker b; worker = refl; task = refl; good = good; begun = begun }

-- and then more was done
pub goes_more : {K W : Type 0} (work_of : W → TileWork FlowOp) (a b c : BoardValue) (one two three : Ticket K W) → GoesOn work_of a b one two → GoesOn work_of b c two three → GoesOn work_of a c one three
goes_more work_of a b c one two three first then' = record {
  worked = worked_more one.worker a b c first.worked (subst (λ (w : ℕ). IsWorkedOn w b c) first.worker then'.worked);
  worker = then'.worker ∙ first.worker;
  task = then'.task ∙ first.task;
  good = then'.good;
  begun = then'.begun;
}
