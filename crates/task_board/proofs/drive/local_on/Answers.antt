use Rattle.task_board.proofs.DriveLemmas.{err_more, ok_more, ends_now}
use Rattle.std.proofs.Common.{inl}
use Rattle.core_model.specs.declared.step.Step.TheVariants.{Publish, PutDown}
use Rattle.task_board.proofs.drive.local_on.Goals as goal

pub returns-clause-ok : goal.returns-clause-ok
returns-clause-ok g c = ok_more c.let_go.result (λ is. inl (ends_now c.args.board.now c.let_go.new.board (Publish c.args.ticket.worker c.args.ticket.task) is)) c.let_go.ensures.ok

pub returns-clause-err : goal.returns-clause-err
returns-clause-err g c = err_more c.let_go.result (λ is. ends_now c.args.board.now c.let_go.new.board (PutDown c.args.ticket.worker c.args.ticket.task) is) c.let_go.ensures.err
