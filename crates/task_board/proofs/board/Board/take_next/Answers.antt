use Rattle.task_board.proofs.GoingLemmas.{taken_goes}
use Rattle.task_board.proofs.board.Board.take_next.Goals as goal

pub returns-in-Some-clause-goes : goal.returns-in-Some-clause-goes
returns-in-Some-clause-goes g c =
    let gives = c.in-Some.ensures.gives in
    taken_goes g.K.FlowKit.work_of c.args.self.now c.take.new.self c.args.ticket.now c.accept.new.self c.in-Some.message c.requires.good c.requires.begun gives.0 gives.1 c.accept.ensures.worker c.accept.ensures.task c.accept.ensures.work
