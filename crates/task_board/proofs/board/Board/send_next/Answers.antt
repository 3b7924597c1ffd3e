use Rattle.task_board.proofs.GoingLemmas.{sent_goes}
use Rattle.task_board.proofs.board.Board.send_next.Goals as goal

pub returns-in-Some-clause-goes : goal.returns-in-Some-clause-goes
returns-in-Some-clause-goes g c =
    sent_goes g.K.FlowKit.work_of c.args.self.now c.send.new.self c.args.ticket.now c.mark_sent.new.self c.in-Some.message.edge c.requires.good c.requires.begun c.send.ensures.step c.mark_sent.ensures.worker c.mark_sent.ensures.task c.mark_sent.ensures.work
