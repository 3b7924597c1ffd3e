use Rattle.turn_cell.specs.Seats.{authors_of, history_seen, plan_known}
use Rattle.task_board.specs.declared.jobs.BoardPlan.{BoardPlan}
use Rattle.tile_runtime.specs.inside.Knowledge.{plan_at}
use Rattle.tile_runtime.proofs.TurnLemmas.{after_read, is_good, meet, read_tiles, turned}
use Rattle.tile_runtime.proofs.turns.read.Goals as goal

pub with_turn-requires-clause-acts : goal.with_turn-requires-clause-acts
with_turn-requires-clause-acts g c =
    let p : BoardPlan = plan_at c.args.crew.now.desk in
    λ b m legal. is_good g.K.FlowKit.work_of c.good_tickets_stay_good.ensures p c.requires.seat.board.plan c.args.worker (history_seen c.args.seat.now) c.args.ticket.now c.requires.ticket b (meet p c.args.worker (authors_of c.args.seat.now) (plan_known c.args.seat.now) (history_seen c.args.seat.now) b c.requires.seat.authors c.requires.seat.plan m.planned m.begins m.own) legal

pub returns-clause-ticket : goal.returns-clause-ticket
returns-clause-ticket g c =
    let p : BoardPlan = plan_at c.args.crew.now.desk in
    let t = c.with_turn.ensures.turn in
    let turn = turned p c.args.worker (authors_of c.args.seat.now) (plan_known c.args.seat.now) (history_seen c.args.seat.now) (history_seen c.with_turn.new.seat) t.0 t.1 c.requires.seat.authors c.requires.seat.plan t.2.may.planned t.2.may.begins t.2.may.own t.2.plan t.2.seen in
    after_read g.K.FlowKit.work_of c.good_tickets_stay_good.ensures p c.requires.seat.board.plan c.args.worker (history_seen c.args.seat.now) c.args.ticket.now c.requires.ticket (history_seen c.with_turn.new.seat) t.0 t.1 turn t.2.did.0 t.2.did.1

pub returns-clause-tiles : goal.returns-clause-tiles
returns-clause-tiles g c =
    let p : BoardPlan = plan_at c.args.crew.now.desk in
    let t = c.with_turn.ensures.turn in
    let turn = turned p c.args.worker (authors_of c.args.seat.now) (plan_known c.args.seat.now) (history_seen c.args.seat.now) (history_seen c.with_turn.new.seat) t.0 t.1 c.requires.seat.authors c.requires.seat.plan t.2.may.planned t.2.may.begins t.2.may.own t.2.plan t.2.seen in
    read_tiles g.K.FlowKit.work_of c.good_tickets_stay_good.ensures p c.requires.seat.board.plan c.args.worker (history_seen c.args.seat.now) c.args.ticket.now c.requires.ticket (history_seen c.with_turn.new.seat) t.0 t.1 turn c.with_turn.result t.2.did.2
