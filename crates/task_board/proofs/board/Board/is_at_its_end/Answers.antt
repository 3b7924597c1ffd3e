use Rattle.std.proofs.Common.{sym, subst}
use Rattle.task_board.specs.Boards.{BoardValue}
use Rattle.task_board.specs.Tickets.{IsGood, work_in}
use Rattle.task_board.proofs.EndLemmas.{ends_or_waits}
use Rattle.task_board.proofs.board.Board.is_at_its_end.Goals as goal

pub returns : goal.returns
returns g c =
    let k = c.args.ticket.now in
    let o = work_in g.K.FlowKit.work_of k in
    ends_or_waits c.self.invariant.plan c.self.invariant.of k.worker k.task o c.is_settled.result (subst (λ (v : BoardValue). IsGood v k.worker k.task o) (sym c.self.view_is) c.requires.good) c.requires.none c.is_settled.ensures
