use Rattle.std.proofs.Common.{◌≡◌, ℕ, ◌<◌, List, [], length, drop, refl, ap, sym, ◌∙◌, subst, arith, vec_capacity}
use Rattle.std.specs.Arc.{arc_value}
use Rattle.std.specs.Option.{option_map}
use Rattle.core_model.specs.declared.step.Step.{Step}
use Rattle.core_model.specs.declared.step.Step.TheVariants.{Take}
use Rattle.core_model.specs.Graphs.{Each, In}
use Rattle.border_channel.specs.Channels.{Queue, empty_queue}
use Rattle.border_channel.specs.declared.edge.Message.{Message}
use Rattle.plan_graph.specs.PlanGraphs.{PlanGraphValue, channels_into, graph_of}
use Rattle.task_states.proofs.Callers.{get_any}
use Rattle.task_board.specs.Boards.{BoardValue, board_with_step}
use Rattle.task_board.specs.Claims.{NoMessageFor}
use Rattle.task_board.specs.Messages.{StandsOn}
use Rattle.task_board.specs.Tickets.{IsGood}
use Rattle.task_board.specs.inside.Channels.{numbers_from, queue_at}
use Rattle.task_board.proofs.BoardLemmas.{board_by, more_room}
use Rattle.task_board.proofs.FlowLemmas.{can_accept, flow_of}
use Rattle.task_board.proofs.SendLemmas.{can_take, front_stands, front_rest, inbound_empty, inbound_there, into_here, mapped_some, taken_board}
use Rattle.task_board.proofs.board.Board.take.Goals as goal

pub waiting_channel-requires : goal.waiting_channel-requires
waiting_channel-requires g c =
    let i = c.self.inside in let b = c.self.invariant in let p : PlanGraphValue = arc_value i.plan in
    let t : ℕ = c.args.ticket.now.task in
    let e : numbers_from c.inbound-first.result.0 c.inbound-first.result.1.now ≡ channels_into (graph_of p) t = c.inbound-first.ensures ∙ ap (λ (v : PlanGraphValue). channels_into (graph_of v) t) c.deref.ensures in
    rw (c.as_slice.ensures.value, e) (inbound_there b t)

pub returns-in-None-clause-gives : goal.returns-in-None-clause-gives
returns-in-None-clause-gives g c =
    let i = c.self.inside in let b = c.self.invariant in let p : PlanGraphValue = arc_value i.plan in
    let t : ℕ = c.args.ticket.now.task in
    let e : numbers_from c.inbound-first.result.0 c.inbound-first.result.1.now ≡ channels_into (graph_of p) t = c.inbound-first.ensures ∙ ap (λ (v : PlanGraphValue). channels_into (graph_of v) t) c.deref.ensures in
    let q = subst (λ (l : List Queue). Each (λ z. (queue_at l z).messages ≡ []) (numbers_from c.inbound-first.result.0 c.inbound-first.result.1.now)) c.as_slice.ensures.value c.in-None.ensures in
    let k = subst (λ (l : List ℕ). Each (λ z. (queue_at i.channels.items z).messages ≡ []) l) e q in
    (refl, subst (λ (v : BoardValue). NoMessageFor v t) c.self.view_is (inbound_empty b t k))

pub push_reserved-requires : goal.push_reserved-requires
push_reserved-requires g c =
    let i = c.self.inside in let b = c.self.invariant in let p : PlanGraphValue = arc_value i.plan in let xs : List Step = i.history.items in
    let w : ℕ = c.args.ticket.now.worker in let t : ℕ = c.args.ticket.now.task in let m : Message = c.in-Some-take.message in
    let o = option_map g.K.FlowKit.work_of c.args.ticket.now.work in
    let good = subst (λ (v : BoardValue). IsGood v w t o) (sym c.self.view_is) c.requires.good in
    let flow = flow_of b w t o good (mapped_some g.K.FlowKit.work_of c.args.ticket.now.work c.requires.begun) in
    let e : numbers_from c.inbound-first.result.0 c.inbound-first.result.1.now ≡ channels_into (graph_of p) t = c.inbound-first.ensures ∙ ap (λ (v : PlanGraphValue). channels_into (graph_of v) t) c.deref.ensures in
    let into = into_here b t c.in-Some.channel (subst (λ (l : List ℕ). In c.in-Some.channel l) e c.in-Some.ensures.0) in
    let inside : c.in-Some.channel < length i.channels.items = (let a = b.carries.all in let k = into.0 in omega arith) in
    let at : queue_at i.channels.items c.in-Some.channel ≡ c.index_mut.result.now = get_any i.channels.items c.in-Some.channel (empty_queue 0) c.index_mut.result.now inside ∙ sym c.index_mut.ensures.value in
    let items = ap (λ (z : Queue). z.messages) at ∙ front_rest c.index_mut.result.now.messages m (sym c.take.ensures.first ∙ c.in-Some-take.is) in
    let can = can_take b w t c.in-Some.channel m (drop 1 c.index_mut.result.now.messages) good.holds.task good.holds.holds flow into.0 into.1 items in
    let l = more_room p i.workers xs (Take w t m.edge) b.plan b.legal (good.holds.number, can) in
    let k = i.history.ok.0 in let q = b.enough in omega arith

pub invariant_of-self : goal.invariant_of-self
invariant_of-self g c =
    let i = c.self.inside in let b = c.self.invariant in let p : PlanGraphValue = arc_value i.plan in let xs : List Step = i.history.items in
    let w : ℕ = c.args.ticket.now.worker in let t : ℕ = c.args.ticket.now.task in let m : Message = c.in-Some-take.message in
    let o = option_map g.K.FlowKit.work_of c.args.ticket.now.work in
    let good = subst (λ (v : BoardValue). IsGood v w t o) (sym c.self.view_is) c.requires.good in
    let flow = flow_of b w t o good (mapped_some g.K.FlowKit.work_of c.args.ticket.now.work c.requires.begun) in
    let e : numbers_from c.inbound-first.result.0 c.inbound-first.result.1.now ≡ channels_into (graph_of p) t = c.inbound-first.ensures ∙ ap (λ (v : PlanGraphValue). channels_into (graph_of v) t) c.deref.ensures in
    let into = into_here b t c.in-Some.channel (subst (λ (l : List ℕ). In c.in-Some.channel l) e c.in-Some.ensures.0) in
    let inside : c.in-Some.channel < length i.channels.items = (let a = b.carries.all in let k = into.0 in omega arith) in
    let at : queue_at i.channels.items c.in-Some.channel ≡ c.index_mut.result.now = get_any i.channels.items c.in-Some.channel (empty_queue 0) c.index_mut.result.now inside ∙ sym c.index_mut.ensures.value in
    let items = ap (λ (z : Queue). z.messages) at ∙ front_rest c.index_mut.result.now.messages m (sym c.take.ensures.first ∙ c.in-Some-take.is) in
    let d = taken_board b w t c.in-Some.channel m (drop 1 c.index_mut.result.now.messages) good.holds.task good.holds.holds flow into.0 into.1 items c.take.new.self good.holds.number
    c.take.ensures.messages (c.take.ensures.capacity ∙ ap (λ (z : Queue). z.capacity) (sym at)) in
    board_by d c.push_reserved.new.self.items (vec_capacity c.push_reserved.new.self) c.push_reserved.ensures.items c.push_reserved.ensures.capacity

pub returns-in-Some-take-clause-legal : goal.returns-in-Some-take-clause-legal
returns-in-Some-take-clause-legal g c = (invariant_of-self g c).legal

pub returns-in-Some-take-clause-gives : goal.returns-in-Some-take-clause-gives
returns-in-Some-take-clause-gives g c =
    let i = c.self.inside in let b = c.self.invariant in let p : PlanGraphValue = arc_value i.plan in let xs : List Step = i.history.items in
    let w : ℕ = c.args.ticket.now.worker in let t : ℕ = c.args.ticket.now.task in let m : Message = c.in-Some-take.message in
    let o = option_map g.K.FlowKit.work_of c.args.ticket.now.work in
    let good = subst (λ (v : BoardValue). IsGood v w t o) (sym c.self.view_is) c.requires.good in
    let has = mapped_some g.K.FlowKit.work_of c.args.ticket.now.work c.requires.begun in
    let flow = flow_of b w t o good has in
    let e : numbers_from c.inbound-first.result.0 c.inbound-first.result.1.now ≡ channels_into (graph_of p) t = c.inbound-first.ensures ∙ ap (λ (v : PlanGraphValue). channels_into (graph_of v) t) c.deref.ensures in
    let into = into_here b t c.in-Some.channel (subst (λ (l : List ℕ). In c.in-Some.channel l) e c.in-Some.ensures.0) in
    let inside : c.in-Some.channel < length i.channels.items = (let a = b.carries.all in let k = into.0 in omega arith) in
    let at : queue_at i.channels.items c.in-Some.channel ≡ c.index_mut.result.now = get_any i.channels.items c.in-Some.channel (empty_queue 0) c.index_mut.result.now inside ∙ sym c.index_mut.ensures.value in
    let items = ap (λ (z : Queue). z.messages) at ∙ front_rest c.index_mut.result.now.messages m (sym c.take.ensures.first ∙ c.in-Some-take.is) in
    let rest = drop 1 c.index_mut.result.now.messages in
    let can = can_take b w t c.in-Some.channel m rest good.holds.task good.holds.holds flow into.0 into.1 items in
    let stands = front_stands b w t c.in-Some.channel m rest good.holds.task good.holds.holds flow into.0 into.1 items in
    let board = λ (ys : List Step). let v : BoardValue = record { plan = p; program = arc_value i.program; known = arc_value i.known; workers = i.workers; history = ys } in v in (
      ap board c.push_reserved.ensures.items ∙ ap (λ (v : BoardValue). board_with_step v (Take w t m.edge)) c.self.view_is,
      subst (λ (v : BoardValue). StandsOn v t m) c.self.view_is stands,
      can_accept b c.messages_fit_loads.ensures w t o m good can stands has,
    )
