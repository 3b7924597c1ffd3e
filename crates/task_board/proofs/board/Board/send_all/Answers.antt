use Rattle.std.proofs.Common.{ℕ, subst}
use Rattle.task_board.specs.Holders.{IsWorkedOn}
use Rattle.task_board.proofs.GoingLemmas.{smaller}
use Rattle.task_board.proofs.board.Board.send_all.Goals as goal

pub loop-smaller : goal.loop-smaller
loop-smaller g c =
    let made = c.loop-test.ensures.goes in
    let now : IsWorkedOn c.args.ticket.now.worker c.loop.self c.send_next.new.self = subst (λ (w : ℕ). IsWorkedOn w c.loop.self c.send_next.new.self) c.loop.invariant.worker made.0.worked in
    smaller c.args.self.now c.loop.self c.send_next.new.self c.plan-plan.ensures.keeps c.loop.invariant.worked now c.send_next.ensures.legal made.1
