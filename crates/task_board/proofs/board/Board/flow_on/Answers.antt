use Rattle.std.proofs.Common.{refl}
use Rattle.core_model.specs.declared.step.Step.TheVariants.{PutDown}
use Rattle.task_board.proofs.DriveLemmas.{ends_by}
use Rattle.task_board.proofs.GoingLemmas.{worked_none}
use Rattle.task_board.proofs.board.Board.flow_on.Goals as goal

pub returns-in-Err-clause-err : goal.returns-in-Err-clause-err
returns-in-Err-clause-err g c =
    let a = c.args.self.now in let k = c.begin.new.ticket in
    ends_by (λ v u. PutDown v u) a a c.put_down.new.self c.args.ticket.worker c.args.ticket.task k.worker k.task refl (worked_none c.args.ticket.worker a) c.begin.ensures.worker c.begin.ensures.task c.put_down.ensures.step
