use Rattle.std.proofs.Common.{inl, inr, refl}
use Rattle.core_model.specs.declared.step.Step.TheVariants.{Park, Publish, PutDown}
use Rattle.task_board.proofs.DriveLemmas.{ends_by, err_more, ok_more}
use Rattle.task_board.proofs.board.Board.go_on.Goals as goal

pub returns-then-work_through-clause-ok : goal.returns-then-work_through-clause-ok
returns-then-work_through-clause-ok g c =
    let b = c.work_through.new.self in let k = c.work_through.new.ticket in let goes = c.work_through.ensures.goes in
    ok_more c.let_go.result (λ is. inl (ends_by (λ v u. Publish v u) c.args.self.now b c.let_go.new.board c.args.ticket.worker c.args.ticket.task k.worker k.task refl goes.worked goes.worker goes.task is)) c.let_go.ensures.ok

pub returns-then-work_through-clause-err : goal.returns-then-work_through-clause-err
returns-then-work_through-clause-err g c =
    let b = c.work_through.new.self in let k = c.work_through.new.ticket in let goes = c.work_through.ensures.goes in
    err_more c.let_go.result (λ is. ends_by (λ v u. PutDown v u) c.args.self.now b c.let_go.new.board c.args.ticket.worker c.args.ticket.task k.worker k.task refl goes.worked goes.worker goes.task is) c.let_go.ensures.err

pub returns-clause-ok : goal.returns-clause-ok
returns-clause-ok g c =
    let b = c.work_through.new.self in let k = c.work_through.new.ticket in let goes = c.work_through.ensures.goes in
    inr (ends_by (λ v u. Park v u) c.args.self.now b c.park.new.self c.args.ticket.worker c.args.ticket.task k.worker k.task refl goes.worked goes.worker goes.task c.park.ensures.step)
