use Rattle.std.proofs.Common.{◌≡◌, ℕ, List, refl, sym, subst, arith, vec_capacity}
use Rattle.std.specs.Arc.{arc_value}
use Rattle.std.specs.Option.{option_map}
use Rattle.core_model.specs.declared.step.Step.{Step}
use Rattle.core_model.specs.declared.step.Step.TheVariants.{PutDown}
use Rattle.core_model.specs.Runs.{after}
use Rattle.plan_graph.specs.PlanGraphs.{graph_of, PlanGraphValue}
use Rattle.task_board.specs.Boards.{BoardValue, state_of}
use Rattle.task_board.specs.Tickets.{IsGood}
use Rattle.task_board.proofs.BoardLemmas.{begun, board_by, carries_step, core_task, let_go_board, more_room}
use Rattle.task_board.proofs.WorkLemmas.{works_set}
use Rattle.task_board.proofs.board.Board.put_down.Goals as goal

pub push_reserved-requires : goal.push_reserved-requires
push_reserved-requires g c =
    let i = c.self.inside in let b = c.self.invariant in
    let p : PlanGraphValue = arc_value i.plan in let xs : List Step = i.history.items in
    let w : ℕ = c.args.ticket.worker in let t : ℕ = c.args.ticket.task in
    let good = subst (λ (v : BoardValue). IsGood v w t (option_map g.K.FlowKit.work_of c.args.ticket.work)) (sym c.self.view_is) c.requires.good in
    let lt = core_task b t good.holds.task in
    let can = subst (λ (v : BoardValue). (state_of v).has_put_down w ≡ mathlib.Core.Bool.false) (sym c.self.view_is) c.requires.can in
    let l = more_room p i.workers xs (PutDown w t) b.plan b.legal (good.holds.number, (lt, good.holds.holds, can)) in
    let o = i.history.ok.0 in let q = b.enough in omega arith

pub invariant_of-self : goal.invariant_of-self
invariant_of-self g c =
    let i = c.self.inside in let b = c.self.invariant in
    let p : PlanGraphValue = arc_value i.plan in let xs : List Step = i.history.items in
    let w : ℕ = c.args.ticket.worker in let t : ℕ = c.args.ticket.task in
    let good = subst (λ (v : BoardValue). IsGood v w t (option_map g.K.FlowKit.work_of c.args.ticket.work)) (sym c.self.view_is) c.requires.good in
    let lt = core_task b t good.holds.task in
    let can = subst (λ (v : BoardValue). (state_of v).has_put_down w ≡ mathlib.Core.Bool.false) (sym c.self.view_is) c.requires.can in
    let r = c.put_down.ensures (graph_of p) i.workers (after (graph_of p) xs) b.shows (begun b) good.holds.number lt good.holds.holds in
    let q = let_go_board b (PutDown w t) c.put_down.new.self (option_map g.K.FlowKit.work_of c.args.ticket.work) refl (good.holds.number, (lt, good.holds.holds, can)) r refl refl good.holds.task good.has (carries_step b (PutDown w t) refl) in
    let s = board_by q c.push_reserved.new.self.items (vec_capacity c.push_reserved.new.self) c.push_reserved.ensures.items c.push_reserved.ensures.capacity in
    rw (works_set g.K.FlowKit.work_of i.works.items t c.args.ticket.work) s

pub returns-clause-legal : goal.returns-clause-legal
returns-clause-legal g c = (invariant_of-self g c).legal
