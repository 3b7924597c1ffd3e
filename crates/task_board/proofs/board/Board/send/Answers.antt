use Rattle.std.proofs.Common.{◌≡◌, ℕ, ◌<◌, List, [], ◌∷◌, ◌++◌, length, ap, sym, ◌∙◌, subst, arith, vec_capacity}
use Rattle.std.specs.Arc.{arc_value}
use Rattle.std.specs.Option.{option_map}
use Rattle.core_model.specs.declared.step.Step.{Step}
use Rattle.core_model.specs.declared.step.Step.TheVariants.{Send}
use Rattle.core_model.specs.Graphs.{edge_at}
use Rattle.core_model.specs.Runs.{after}
use Rattle.border_channel.specs.Channels.{Queue, empty_queue}
use Rattle.border_channel.specs.declared.edge.Message.{Message}
use Rattle.plan_graph.specs.PlanGraphs.{graph_of, PlanGraphValue}
use Rattle.plan_graph.specs.Transports.{task_edges}
use Rattle.task_states.proofs.Callers.{get_any}
use Rattle.task_board.specs.Boards.{BoardValue}
use Rattle.task_board.specs.Tickets.{IsGood}
use Rattle.task_board.specs.inside.Channels.{queue_at}
use Rattle.task_board.proofs.BoardLemmas.{board_by, keeps_run, more_room}
use Rattle.task_board.proofs.ChannelLemmas.{room_in_channel}
use Rattle.task_board.proofs.FlowLemmas.{goes}
use Rattle.task_board.proofs.SendLemmas.{channel_there, receiver_there, sent_board}
use Rattle.task_board.proofs.board.Board.send.Goals as goal

pub channel-channel-requires-clause-edge : goal.channel-channel-requires-clause-edge
channel-channel-requires-clause-edge g c =
    let i = c.self.inside in let b = c.self.invariant in
    let w : ℕ = c.args.ticket.now.worker in let t : ℕ = c.args.ticket.now.task in let m : Message = c.args.message in
    let o = option_map g.K.FlowKit.work_of c.args.ticket.now.work in
    let good = subst (λ (v : BoardValue). IsGood v w t o) (sym c.self.view_is) c.requires.good in
    let s = goes b w t o m good c.requires.next in
    subst (λ (q : PlanGraphValue). m.edge < length (task_edges q.plan q.drains t)) (sym c.deref.ensures) s.inside

pub receiver-receiver-requires : goal.receiver-receiver-requires
receiver-receiver-requires g c =
    let i = c.self.inside in let b = c.self.invariant in
    let p : PlanGraphValue = arc_value i.plan in
    let w : ℕ = c.args.ticket.now.worker in let t : ℕ = c.args.ticket.now.task in let m : Message = c.args.message in
    let o = option_map g.K.FlowKit.work_of c.args.ticket.now.work in
    let good = subst (λ (v : BoardValue). IsGood v w t o) (sym c.self.view_is) c.requires.good in
    let s = goes b w t o m good c.requires.next in
    let number : c.channel-channel.result ≡ (graph_of p).channel_of (edge_at (graph_of p) t m.edge) = c.channel-channel.ensures ∙ ap (λ (q : PlanGraphValue). (graph_of q).channel_of (edge_at (graph_of q) t m.edge)) c.deref.ensures in
    rw (number, c.deref-2.ensures) (channel_there b w t m s)

pub index_mut-requires : goal.index_mut-requires
index_mut-requires g c =
    let i = c.self.inside in let b = c.self.invariant in
    let p : PlanGraphValue = arc_value i.plan in
    let w : ℕ = c.args.ticket.now.worker in let t : ℕ = c.args.ticket.now.task in let m : Message = c.args.message in
    let o = option_map g.K.FlowKit.work_of c.args.ticket.now.work in
    let good = subst (λ (v : BoardValue). IsGood v w t o) (sym c.self.view_is) c.requires.good in
    let s = goes b w t o m good c.requires.next in
    let number : c.channel-channel.result ≡ (graph_of p).channel_of (edge_at (graph_of p) t m.edge) = c.channel-channel.ensures ∙ ap (λ (q : PlanGraphValue). (graph_of q).channel_of (edge_at (graph_of q) t m.edge)) c.deref.ensures in
    let lt = channel_there b w t m s in let k = i.channels.ok.0 in let a = b.carries.all in omega arith

pub put-requires : goal.put-requires
put-requires g c =
    let i = c.self.inside in let b = c.self.invariant in
    let p : PlanGraphValue = arc_value i.plan in
    let w : ℕ = c.args.ticket.now.worker in let t : ℕ = c.args.ticket.now.task in let m : Message = c.args.message in
    let o = option_map g.K.FlowKit.work_of c.args.ticket.now.work in
    let good = subst (λ (v : BoardValue). IsGood v w t o) (sym c.self.view_is) c.requires.good in
    let s = goes b w t o m good c.requires.next in
    let e : ℕ = edge_at (graph_of p) t m.edge in
    let number : c.channel-channel.result ≡ (graph_of p).channel_of e = c.channel-channel.ensures ∙ ap (λ (q : PlanGraphValue). (graph_of q).channel_of (edge_at (graph_of q) t m.edge)) c.deref.ensures in
    let lt = channel_there b w t m s in
    let below : c.channel-channel.result < length i.channels.items = (let a = b.carries.all in omega arith) in
    let value : BoardValue = record { plan = p; program = arc_value i.program; known = arc_value i.known; workers = i.workers; history = i.history.items } in
    let at : c.index_mut.result.now ≡ queue_at i.channels.items ((graph_of p).channel_of e) = c.index_mut.ensures.value ∙ get_any i.channels.items c.channel-channel.result c.index_mut.result.now (empty_queue 0) below ∙ ap (queue_at i.channels.items) number in
    subst (λ (q : Queue). length q.messages < q.capacity) (sym at) (room_in_channel value [] i.channels.items b.carries i.workers e (keeps_run b) lt s.can.2 s.can.5)

pub wake-requires : goal.wake-requires
wake-requires g c =
    let i = c.self.inside in let b = c.self.invariant in
    let p : PlanGraphValue = arc_value i.plan in let xs : List Step = i.history.items in
    let w : ℕ = c.args.ticket.now.worker in let t : ℕ = c.args.ticket.now.task in let m : Message = c.args.message in
    let o = option_map g.K.FlowKit.work_of c.args.ticket.now.work in
    let good = subst (λ (v : BoardValue). IsGood v w t o) (sym c.self.view_is) c.requires.good in
    let s = goes b w t o m good c.requires.next in
    let number : c.channel-channel.result ≡ (graph_of p).channel_of (edge_at (graph_of p) t m.edge) = c.channel-channel.ensures ∙ ap (λ (q : PlanGraphValue). (graph_of q).channel_of (edge_at (graph_of q) t m.edge)) c.deref.ensures in
    let to : c.receiver-receiver.result ≡ (graph_of p).into ((graph_of p).channel_of (edge_at (graph_of p) t m.edge)) = c.receiver-receiver.ensures ∙ ap (λ (q : PlanGraphValue). (graph_of q).into c.channel-channel.result) c.deref-2.ensures ∙ ap (graph_of p).into number in
    let lt = receiver_there b w t m s in
    (graph_of p, i.workers, after (graph_of p) xs, b.shows, subst (λ (k : ℕ). k < (graph_of p).tasks) (sym to) lt)

pub push_reserved-requires : goal.push_reserved-requires
push_reserved-requires g c =
    let i = c.self.inside in let b = c.self.invariant in
    let p : PlanGraphValue = arc_value i.plan in let xs : List Step = i.history.items in
    let w : ℕ = c.args.ticket.now.worker in let t : ℕ = c.args.ticket.now.task in let m : Message = c.args.message in
    let o = option_map g.K.FlowKit.work_of c.args.ticket.now.work in
    let good = subst (λ (v : BoardValue). IsGood v w t o) (sym c.self.view_is) c.requires.good in
    let s = goes b w t o m good c.requires.next in
    let l = more_room p i.workers xs (Send w t m.edge) b.plan b.legal (good.holds.number, s.can) in
    let k = i.history.ok.0 in let q = b.enough in omega arith

pub invariant_of-self : goal.invariant_of-self
invariant_of-self g c =
    let i = c.self.inside in let b = c.self.invariant in
    let p : PlanGraphValue = arc_value i.plan in let xs : List Step = i.history.items in
    let w : ℕ = c.args.ticket.now.worker in let t : ℕ = c.args.ticket.now.task in let m : Message = c.args.message in
    let o = option_map g.K.FlowKit.work_of c.args.ticket.now.work in
    let good = subst (λ (v : BoardValue). IsGood v w t o) (sym c.self.view_is) c.requires.good in
    let s = goes b w t o m good c.requires.next in
    let e : ℕ = edge_at (graph_of p) t m.edge in
    let number : c.channel-channel.result ≡ (graph_of p).channel_of e = c.channel-channel.ensures ∙ ap (λ (q : PlanGraphValue). (graph_of q).channel_of (edge_at (graph_of q) t m.edge)) c.deref.ensures in
    let to : c.receiver-receiver.result ≡ (graph_of p).into ((graph_of p).channel_of e) = c.receiver-receiver.ensures ∙ ap (λ (q : PlanGraphValue). (graph_of q).into c.channel-channel.result) c.deref-2.ensures ∙ ap (graph_of p).into number in
    let lt = channel_there b w t m s in
    let below : c.channel-channel.result < length i.channels.items = (let a = b.carries.all in omega arith) in
    let at : c.index_mut.result.now ≡ queue_at i.channels.items ((graph_of p).channel_of e) = c.index_mut.ensures.value ∙ get_any i.channels.items c.channel-channel.result c.index_mut.result.now (empty_queue 0) below ∙ ap (queue_at i.channels.items) number in
    let receives : c.receiver-receiver.result < (graph_of p).tasks = subst (λ (k : ℕ). k < (graph_of p).tasks) (sym to) (receiver_there b w t m s) in
    let r = c.wake.ensures (graph_of p) i.workers (after (graph_of p) xs) e b.shows receives lt (sym to) in
    let q : Queue = c.put.new.self in
    let d = sent_board b w t m s c.wake.new.self q good.holds.number r
    (c.put.ensures.messages ∙ ap (λ (z : Queue). z.messages ++ m ∷ []) at) (c.put.ensures.capacity ∙ ap (λ (z : Queue). z.capacity) at) in
    let f = board_by d c.push_reserved.new.self.items (vec_capacity c.push_reserved.new.self) c.push_reserved.ensures.items c.push_reserved.ensures.capacity in
    rw number f

pub returns-clause-legal : goal.returns-clause-legal
returns-clause-legal g c = (invariant_of-self g c).legal
