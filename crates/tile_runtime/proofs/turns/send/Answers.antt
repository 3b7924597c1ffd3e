use Rattle.turn_cell.specs.Seats.{authors_of, history_seen, plan_known}
use Rattle.task_board.specs.declared.jobs.BoardPlan.{BoardPlan}
use Rattle.task_board.specs.Messages.{IsMessageOf}
use Rattle.tile_runtime.specs.inside.Knowledge.{plan_at}
use Rattle.tile_runtime.proofs.TurnLemmas.{after_send, begun_in, is_good, meet, turned}
use Rattle.tile_runtime.proofs.turns.send.Goals as goal

pub with_turn-requires-clause-acts : goal.with_turn-requires-clause-acts
with_turn-requires-clause-acts g c =
    let p : BoardPlan = plan_at c.args.crew.now.desk in
    λ b m legal. (is_good g.K.FlowKit.work_of c.good_tickets_stay_good.ensures p c.requires.seat.board.plan c.args.worker (history_seen c.args.seat.now) c.args.ticket.now c.requires.ticket b (meet p c.args.worker (authors_of c.args.seat.now) (plan_known c.args.seat.now) (history_seen c.args.seat.now) b c.requires.seat.authors c.requires.seat.plan m.planned m.begins m.own) legal, c.requires.next)

pub returns-clause-sent : goal.returns-clause-sent
returns-clause-sent g c =
    let p : BoardPlan = plan_at c.args.crew.now.desk in
    let t = c.with_turn.ensures.turn in
    let turn = turned p c.args.worker (authors_of c.args.seat.now) (plan_known c.args.seat.now) (history_seen c.args.seat.now) (history_seen c.with_turn.new.seat) t.0 t.1 c.requires.seat.authors c.requires.seat.plan t.2.may.planned t.2.may.begins t.2.may.own t.2.plan t.2.seen in
    after_send g.K.FlowKit.work_of c.good_tickets_stay_good.ensures p c.requires.seat.board.plan c.args.worker (history_seen c.args.seat.now) c.args.ticket.now c.requires.ticket (history_seen c.with_turn.new.seat) t.0 t.1 turn c.args.message.edge (begun_in g.K.FlowKit.work_of (λ k. IsMessageOf k c.args.message) c.args.ticket.now c.requires.next) t.2.did.0 t.2.did.1
