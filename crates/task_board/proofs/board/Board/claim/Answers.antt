use Rattle.std.proofs.Common.{◌≢◌, ℕ, ◌<◌, ◌≤◌, None, List, [], ◌∷◌, ◌++◌, Option, length, refl, ap, sym, ◌∙◌, subst, arith, vec_capacity}
use Rattle.std.specs.Arc.{arc_value}
use Rattle.core_model.specs.declared.step.Step.{Step}
use Rattle.core_model.specs.declared.step.Step.TheVariants.{Claim}
use Rattle.core_model.specs.Cores.{held}
use Rattle.core_model.specs.Runs.{after}
use Rattle.plan_graph.specs.PlanGraphs.{graph_of, PlanGraphValue}
use Rattle.task_board.specs.Boards.{BoardValue, HoldsTask, IsFinished, IsFree, NoneClaimable, board_with_step}
use Rattle.task_board.specs.Claims.{ClaimGives}
use Rattle.task_board.specs.Tickets.{IsGood}
use Rattle.std.specs.Option.{option_map}
use Rattle.drain_meaning.specs.declared.op.FlowOp.{FlowOp}
use Rattle.flow_task.specs.Works.{TileWork}
use Rattle.task_board.proofs.BoardLemmas.{all_published, board_by, claimed_board, claimed_good, keeps_run, more_room, none_claimable, plan_task, same_board}
use Rattle.task_board.proofs.WorkLemmas.{length-works, work_mapped, works_set}
use Rattle.task_states.proofs.Callers.{get_any}
use Rattle.task_board.specs.declared.ticket.Claim as Claimed
use Rattle.task_board.proofs.board.Board.claim.Goals.{in-Some-holder, in-None-holder}
use Rattle.task_board.proofs.board.Board.claim.Goals as goal

pub holder-requires : goal.holder-requires
holder-requires g c =
    let i = c.self.inside in let b = c.self.invariant in
    let p : PlanGraphValue = arc_value i.plan in let xs : List Step = i.history.items in
    let le = subst (λ (v : BoardValue). c.args.worker ≤ v.workers) (sym c.self.view_is) c.requires.number in
    let free = subst (λ (v : BoardValue). IsFree v c.args.worker) (sym c.self.view_is) c.requires.free in
    let r = c.in-None.ensures (graph_of p) i.workers (after (graph_of p) xs) b.shows le free in
    let a = r.1.shown.all_holding in let f = b.few in omega arith

pub invariant_of-self : goal.invariant_of-self
invariant_of-self g c =
    let i = c.self.inside in let b = c.self.invariant in
    let p : PlanGraphValue = arc_value i.plan in let xs : List Step = i.history.items in
    let le = subst (λ (v : BoardValue). c.args.worker ≤ v.workers) (sym c.self.view_is) c.requires.number in
    let free = subst (λ (v : BoardValue). IsFree v c.args.worker) (sym c.self.view_is) c.requires.free in
    let r = c.in-None.ensures (graph_of p) i.workers (after (graph_of p) xs) b.shows le free in
    same_board b c.claim.new.self r.1

pub push_reserved-requires : goal.push_reserved-requires
push_reserved-requires g c =
    let i = c.self.inside in let b = c.self.invariant in
    let p : PlanGraphValue = arc_value i.plan in let xs : List Step = i.history.items in
    let le = subst (λ (v : BoardValue). c.args.worker ≤ v.workers) (sym c.self.view_is) c.requires.number in
    let free = subst (λ (v : BoardValue). IsFree v c.args.worker) (sym c.self.view_is) c.requires.free in
    let r = c.in-Some.ensures (graph_of p) i.workers (after (graph_of p) xs) b.shows le free in
    let l = more_room p i.workers xs (Claim c.args.worker c.in-Some.task) b.plan b.legal (le, (r.0, free, r.1)) in
    let o = i.history.ok.0 in let q = b.enough in omega arith

pub index_mut-requires : goal.index_mut-requires
index_mut-requires g c =
    let i = c.self.inside in let b = c.self.invariant in
    let p : PlanGraphValue = arc_value i.plan in let xs : List Step = i.history.items in
    let le = subst (λ (v : BoardValue). c.args.worker ≤ v.workers) (sym c.self.view_is) c.requires.number in
    let free = subst (λ (v : BoardValue). IsFree v c.args.worker) (sym c.self.view_is) c.requires.free in
    let r = c.in-Some.ensures (graph_of p) i.workers (after (graph_of p) xs) b.shows le free in
    let lt = plan_task b c.in-Some.task r.0 in
    let m = length-works g.K.FlowKit.work_of i.works.items in
    let o = i.works.ok.0 in let q = b.all_works in omega arith

pub invariant_of-self-in-Some : goal.invariant_of-self-in-Some
invariant_of-self-in-Some g c =
    let i = c.self.inside in let b = c.self.invariant in
    let p : PlanGraphValue = arc_value i.plan in let xs : List Step = i.history.items in
    let w : ℕ = c.args.worker in let t : ℕ = c.in-Some.task in
    let le = subst (λ (v : BoardValue). w ≤ v.workers) (sym c.self.view_is) c.requires.number in
    let free = subst (λ (v : BoardValue). IsFree v w) (sym c.self.view_is) c.requires.free in
    let r = c.in-Some.ensures (graph_of p) i.workers (after (graph_of p) xs) b.shows le free in
    let o = option_map g.K.FlowKit.work_of c.take-work.new.self in
    let q = claimed_board b w t c.claim.new.self o (le, (r.0, free, r.1)) r.2 in
    let s = board_by q c.push_reserved.new.self.items (vec_capacity c.push_reserved.new.self) c.push_reserved.ensures.items c.push_reserved.ensures.capacity in
    rw (works_set g.K.FlowKit.work_of i.works.items t c.take-work.new.self) s

pub returns-in-Some-clause-legal : goal.returns-in-Some-clause-legal
returns-in-Some-clause-legal g c = (invariant_of-self-in-Some g c).legal

pub returns-in-Some-clause-gives : goal.returns-in-Some-clause-gives
returns-in-Some-clause-gives g c =
    let i = c.self.inside in let b = c.self.invariant in
    let p : PlanGraphValue = arc_value i.plan in let xs : List Step = i.history.items in
    let w : ℕ = c.args.worker in let t : ℕ = c.in-Some.task in
    let le = subst (λ (v : BoardValue). w ≤ v.workers) (sym c.self.view_is) c.requires.number in
    let free = subst (λ (v : BoardValue). IsFree v w) (sym c.self.view_is) c.requires.free in
    let r = c.in-Some.ensures (graph_of p) i.workers (after (graph_of p) xs) b.shows le free in
    let board = λ (ys : List Step). let v : BoardValue = record { plan = p; program = arc_value i.program; known = arc_value i.known; workers = i.workers; history = ys } in v in
    let f = g.K.FlowKit.work_of in
    let below : t < length i.works.items = (let k = plan_task b t r.0 in let m = length-works f i.works.items in let q = b.all_works in omega arith) in
    let work = work_mapped f i.works.items t ∙ ap (option_map f) (get_any i.works.items t None c.index_mut.result.now below ∙ sym c.index_mut.ensures.value ∙ sym c.take-work.ensures.value) in
    let good = claimed_good b w t le (plan_task b t r.0) r.1 in (
      refl,
      ap board c.push_reserved.ensures.items ∙ ap (λ (v : BoardValue). board_with_step v (Claim w t)) c.self.view_is,
      subst (λ (ys : List Step). IsGood (board ys) w t (option_map f c.take-work.result)) (sym c.push_reserved.ensures.items)
          (subst (λ (o : Option (TileWork FlowOp)). IsGood (board (xs ++ Claim w t ∷ [])) w t o) work good),
    )

pub returns-after-holder-clause-gives : goal.returns-after-holder-clause-gives
returns-after-holder-clause-gives g c =
    let i = c.self.inside in let b = c.self.invariant in
    let p : PlanGraphValue = arc_value i.plan in let xs : List Step = i.history.items in
    let le = subst (λ (v : BoardValue). c.args.worker ≤ v.workers) (sym c.self.view_is) c.requires.number in
    let free = subst (λ (v : BoardValue). IsFree v c.args.worker) (sym c.self.view_is) c.requires.free in
    let r = c.in-None.ensures (graph_of p) i.workers (after (graph_of p) xs) b.shows le free in
    let none' = subst (λ (v : BoardValue). NoneClaimable v) c.self.view_is (none_claimable b r.0) in
    let old : BoardValue = record { plan = p; program = arc_value i.program; known = arc_value i.known; workers = i.workers; history = xs } in
    elim c.match-holder.branch [
      | in-Some-holder w ↦
          let h = w.in-Some-holder.ensures (graph_of p) i.workers (after (graph_of p) xs) r.1 in
          let v : ℕ = w.in-Some-holder.holder in let t : ℕ = w.in-Some-holder.task in
          let holds = subst (λ (z : BoardValue). HoldsTask z v t) c.self.view_is (let q : HoldsTask old v t = record { number = (keeps_run b).holders t v h.1; task = plan_task b t h.0; holds = h.1 } in q) in
          let other : v ≢ c.args.worker = λ q. free t h.0 (h.1 ∙ ap held q) in
          subst (λ (z : Claimed.Claim g.row.K.Denot g.row.K-Work.Denot). ClaimGives g.K.FlowKit.work_of c.args.self.now c.args.worker z old) (sym w.result-is) (c.self.view_is, none', holds, other)
      | in-None-holder w ↦
          let h = w.in-None-holder.ensures (graph_of p) i.workers (after (graph_of p) xs) r.1 in
          let all = subst (λ (z : BoardValue). IsFinished z) c.self.view_is (all_published b r.0 h) in
          subst (λ (z : Claimed.Claim g.row.K.Denot g.row.K-Work.Denot). ClaimGives g.K.FlowKit.work_of c.args.self.now c.args.worker z old) (sym w.result-is) (c.self.view_is, all)
    ]
