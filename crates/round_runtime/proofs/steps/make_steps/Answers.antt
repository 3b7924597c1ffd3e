use Rattle.std.proofs.Common.{◌≡◌, refl}
use Rattle.core_model.specs.Cores.{held, published}
use Rattle.core_model.specs.declared.step.Step.TheVariants.{Publish}
use Rattle.task_board.specs.Tickets.{work_in}
use Rattle.task_board.proofs.GoingLemmas.{worked_none}
use Rattle.round_runtime.proofs.StepLemmas.{lets_go}
use Rattle.round_runtime.proofs.steps.make_steps.Goals as goal

pub returns-in-Made-clause-go : goal.returns-in-Made-clause-go
returns-in-Made-clause-go g c =
    let b = c.args.board.now in let w = c.args.ticket.worker in let t = c.args.ticket.task in
    lets_go b b c.publish.new.self w t (work_in g.K.FlowKit.work_of c.args.ticket)
    c.plan-plan.ensures.keeps c.workers-workers.ensures.legal c.requires.good (worked_none w b) (Publish w t) published t refl refl (λ s. refl) (λ v e. let z : published ≡ held v = e in cc) c.publish.ensures.step
