use Rattle.std.proofs.Common.{◌∙◌, ℕ, subst}
use Rattle.task_board.specs.Holders.{IsWorkedOn}
use Rattle.task_board.proofs.GoingLemmas.{smaller_more}
use Rattle.task_board.proofs.board.Board.work_through.Goals as goal

pub loop-self-smaller : goal.loop-self-smaller
loop-self-smaller g c =
    let made = c.if-not-take_next.ensures.goes in
    let all = c.send_all.ensures.goes in
    let sent : IsWorkedOn c.args.ticket.now.worker c.loop-self.self c.send_all.new.self = subst (λ (w : ℕ). IsWorkedOn w c.loop-self.self c.send_all.new.self) c.loop-self.invariant.worker all.worked in
    let taken : IsWorkedOn c.args.ticket.now.worker c.send_all.new.self c.take_next.new.self =
    subst (λ (w : ℕ). IsWorkedOn w c.send_all.new.self c.take_next.new.self) (all.worker ∙ c.loop-self.invariant.worker) made.0.worked in
    smaller_more c.args.self.now c.loop-self.self c.send_all.new.self c.take_next.new.self c.plan-plan.ensures.keeps c.loop-self.invariant.worked sent taken c.take_next.ensures.legal made.1
