use Rattle.std.proofs.Common.{◌≡◌, refl}
use Rattle.core_model.specs.Cores.{held, parked, published}
use Rattle.core_model.specs.declared.step.Step.TheVariants.{Park, Publish}
use Rattle.task_board.specs.Tickets.{work_in}
use Rattle.round_runtime.proofs.StepLemmas.{lets_go}
use Rattle.round_runtime.proofs.steps.flow_on.Goals as goal

pub returns-in-Ok-clause-go : goal.returns-in-Ok-clause-go
returns-in-Ok-clause-go g c =
    let k = c.work_through.new.ticket in let goes = c.work_through.ensures.goes in
    lets_go c.args.board.now c.work_through.new.self c.publish.new.self c.args.ticket.worker c.args.ticket.task (work_in g.K.FlowKit.work_of c.args.ticket)
    c.plan-plan.ensures.keeps c.workers-workers.ensures.legal c.requires.good goes.worked (Publish k.worker k.task) published k.task goes.task goes.worker (λ s. refl) (λ v e. let z : published ≡ held v = e in cc) c.publish.ensures.step

pub returns-else-work_through-clause-go : goal.returns-else-work_through-clause-go
returns-else-work_through-clause-go g c =
    let k = c.work_through.new.ticket in let goes = c.work_through.ensures.goes in
    lets_go c.args.board.now c.work_through.new.self c.park.new.self c.args.ticket.worker c.args.ticket.task (work_in g.K.FlowKit.work_of c.args.ticket)
    c.plan-plan.ensures.keeps c.workers-workers.ensures.legal c.requires.good goes.worked (Park k.worker k.task) parked k.task goes.task goes.worker (λ s. refl) (λ v e. let z : parked ≡ held v = e in cc) c.park.ensures.step
