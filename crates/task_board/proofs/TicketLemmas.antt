-- Tickets from one turn to the next.
use Rattle.std.proofs.Common.{◌≡◌, ℕ, ◌<◌, true, cond, ◌==◌, eq-eqb, ⊎_elim, List, [], ◌∷◌, ◌++◌, map, Some, None, refl, ap, sym, ◌∙◌, subst, arith}
use Rattle.std.specs.List.{Contains}
use Rattle.std.proofs.lemmas.List.Elements.{Contains-push_cases}
use Rattle.core_model.specs.declared.step.Step.TheVariants.{Send, Take}
use Rattle.core_model.specs.Cores.{Core, opening}
use Rattle.core_model.specs.TaskHistories.{sent_edges, taken_edges}
use Rattle.core_model.proofs.Callers.{after_snoc, left_by_others, sent_append, taken_append}
use Rattle.drain_meaning.specs.declared.op.FlowOp.{FlowOp}
use Rattle.border_channel.specs.declared.edge.Message.{Message}
use Rattle.border_channel.specs.TileFlows.{with_taken}
use Rattle.flow_task.specs.Works.{TileWork, accepted, marked, tile_work}
use Rattle.plan_graph.specs.PlanGraphs.{graph_of}
use Rattle.task_tiles.specs.FlowTiles.{IsFlowBegun}
use Rattle.task_board.specs.Boards.{BoardValue, board_with_step}
use Rattle.task_board.specs.Messages.{StandsOn}
use Rattle.task_board.specs.Tickets.{IsGood, StaysGood}
use Rattle.task_board.proofs.ChannelLemmas.{map_snoc}
use Rattle.task_board.proofs.WorkLemmas.{sent_same, taken_same, work_stays}

-- what others do leaves a ticket good
pub stays_good : StaysGood
stays_good b more w t work plan legal others good =
    let left = left_by_others (graph_of b.plan) b.workers b.history more w legal others in
    let lt : t < (graph_of b.plan).tasks = (let k = plan.all_tasks in let l = good.holds.task in omega arith) in
    record {
      holds = record { number = good.holds.number; task = good.holds.task; holds = (left.stays t lt good.holds.holds).still };
      has = work_stays b (b.history ++ more) t work (left.takes t lt good.holds.holds) (left.sends t lt good.holds.holds) good.has;
    }

-- one edge more of a task
own_edge : (t e : ℕ) → cond (t == t) (e ∷ []) [] ++ [] ≡ e ∷ []
own_edge t e = ap (λ v. cond v (e ∷ []) [] ++ []) (eq-eqb t t refl)

module _ (b : BoardValue) (w t : ℕ) (k : TileWork FlowOp) where
  -- the message of an edge was sent, and the work has marked it
  pub sent_good : (e : ℕ) → IsGood b w t (Some k) → IsGood (board_with_step b (Send w t e)) w t (Some (marked k e))
  sent_good e good = record {
    holds = record {
      number = good.holds.number;
      task = good.holds.task;
      holds = ap (λ (s : Core). s.status t) (after_snoc (graph_of b.plan) opening b.history (Send w t e)) ∙ good.holds.holds;
    };
    has = record {
      flow = good.has.flow;
      underway = record { begun = good.has.underway.begun; stand = good.has.underway.stand };
      taken = good.has.taken ∙ sym (taken_same b.history (Send w t e) t refl);
      sent = ap (λ (l : List ℕ). l ++ e ∷ []) good.has.sent ∙ sym (sent_append t b.history (Send w t e ∷ []) ∙ ap (λ (l : List ℕ). sent_edges t b.history ++ l) (own_edge t e));
    };
  }

  -- a message was taken, and the work has accepted it
  pub taken_good : (m : Message) → IsGood b w t (Some k) → StandsOn b t m → IsGood (board_with_step b (Take w t m.edge)) w t (Some (accepted k m))
  taken_good m good stands = record {
    holds = record {
      number = good.holds.number;
      task = good.holds.task;
      holds = ap (λ (s : Core). s.status t) (after_snoc (graph_of b.plan) opening b.history (Take w t m.edge)) ∙ good.holds.holds;
    };
    has = record {
      flow = good.has.flow;
      underway = record {
        begun = good.has.underway.begun;
        stand = λ y has. ⊎_elim (λ old. good.has.underway.stand y old) (λ same. subst (λ (z : Message). StandsOn b t z) same stands) (Contains-push_cases k.of.taken m y has);
      };
      taken = map_snoc (λ (y : Message). y.edge) k.of.taken m ∙ ap (λ (l : List ℕ). l ++ m.edge ∷ []) good.has.taken
          ∙ sym (taken_append t b.history (Take w t m.edge ∷ []) ∙ ap (λ (l : List ℕ). taken_edges t b.history ++ l) (own_edge t m.edge));
      sent = good.has.sent ∙ sym (sent_same b.history (Take w t m.edge) t refl);
    };
  }

  -- the work has just begun
  pub begun_good : IsGood b w t None → (graph_of b.plan).is_flow t ≡ true → IsFlowBegun b.plan.plan b.plan.span b.program b.known t k → IsGood b w t (Some k)
  begun_good good flow begun =
      let same : k ≡ tile_work k.which (with_taken k.of []) [] = begun.is.is ∙ ap (λ (z : TileWork FlowOp). tile_work k.which (with_taken z.of []) []) (sym begun.is.is) in
      let taken : k.of.taken ≡ [] = ap (λ (z : TileWork FlowOp). z.of.taken) same in
      let sent : k.sent ≡ [] = ap (λ (z : TileWork FlowOp). z.sent) same in
      record {
        holds = good.holds;
        has = record {
          flow = flow;
          underway = record {
            begun = subst (λ (z : TileWork FlowOp). IsFlowBegun b.plan.plan b.plan.span b.program b.known t z) same begun;
            stand = λ y has. absurd (let l = (subst (λ (l : List Message). Contains l y) taken has).1 in omega arith);
          };
          taken = ap (map (λ (y : Message). y.edge)) taken ∙ sym good.has.0;
          sent = sent ∙ sym good.has.1;
        };
      }
