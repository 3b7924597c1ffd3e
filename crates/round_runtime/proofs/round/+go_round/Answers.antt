use Rattle.std.proofs.Common.{◌∙◌, ℕ, ap, sym, subst, arith}
use Rattle.std.specs.Prelude.{All, IfOk}
use Rattle.core_model.specs.declared.step.Step.TheVariants.{Claim}
use Rattle.task_board.specs.Boards.{BoardValue, board_with_step}
use Rattle.task_board.specs.Tickets.{work_in}
use Rattle.round_runtime.specs.inside.Free.{AreFree}
use Rattle.round_runtime.specs.inside.Jobs.{EachComputed, IsJob, IsJobOf, IsOutcomeFor}
use Rattle.round_runtime.specs.inside.Lists.{LastIs}
use Rattle.round_runtime.proofs.GrowLemmas.{free_claimed, free_round, good_then, grows_round, if_more, longer_round, ok_more, ok_of}
use Rattle.round_runtime.proofs.JobLemmas.{all_more, front_gave, last_gave}
use Rattle.round_runtime.proofs.round.+go_round.Goals as goal

pub go_round-requires-clause-free : goal.go_round-requires-clause-free
go_round-requires-clause-free g t c κs within =
    let gives = c.in-Got.ensures.gives in let b = c.args.board.now in let one = c.claim.new.self in
    free_claimed b one one one c.args.worker c.in-Got.ticket.worker c.in-Got.ticket.task gives.0 (gives.1 ∙ ap (λ (w : ℕ). board_with_step b (Claim w c.in-Got.ticket.task)) (sym gives.0)) c.in-Got.ensures.legal c.requires.free

pub go_round-requires-clause-jobs : goal.go_round-requires-clause-jobs
go_round-requires-clause-jobs g t c κs within =
    let gives = c.in-Got.ensures.gives in let one = c.claim.new.self in
    all_more (IsJob one.plan one.program one.known) (IsJobOf c.in-Got.ticket) c.args.jobs.items c.in-Ok.jobs.items
    (subst (λ (v : BoardValue). All (IsJob v.plan v.program v.known) c.args.jobs.items) (sym gives.1) c.requires.jobs) c.in-Ok.ensures

pub step_of-requires-clause-good : goal.step_of-requires-clause-good
step_of-requires-clause-good g t c =
    let gives = c.in-Got.ensures.gives in let b = c.args.board.now in let one = c.claim.new.self in let two = c.go_round.new.board in
    let k = c.in-Got.ticket in
    good_then b one two two c.args.worker k.worker k.task gives.0 (gives.1 ∙ ap (λ (w : ℕ). board_with_step b (Claim w k.task)) (sym gives.0)) (work_in g.K.FlowKit.work_of k) (let z = c.if-worker-eq0.false in omega arith) c.plan-plan.ensures.keeps c.go_round.ensures.legal c.in-Ok-go_round.ensures.grows gives.2

pub step_of-requires-clause-last : goal.step_of-requires-clause-last
step_of-requires-clause-last g t c =
    let one = c.claim.new.self in let two = c.go_round.new.board in let grows = c.in-Ok-go_round.ensures.grows in
    subst (λ (v : BoardValue). LastIs (λ r. IfOk r (IsOutcomeFor g.K.FlowKit.work_of v c.in-Got.ticket)) c.in-Ok-go_round.outcomes.items) (sym grows.is)
    (last_gave g.K.FlowKit.work_of one c.args.jobs.items c.in-Ok.jobs.items c.in-Ok-go_round.outcomes.items (sym c.in-Ok-go_round.outcomes.ok.0 ∙ (c.in-Ok-go_round.ensures.len ∙ c.in-Ok.jobs.ok.0)) c.in-Ok-go_round.ensures.each (IsJob one.plan one.program one.known) c.in-Got.ticket c.in-Ok.ensures)

pub returns-in-Idle-clause-free : goal.returns-in-Idle-clause-free
returns-in-Idle-clause-free g t c = ok_of c.compute_jobs-in-Idle.result (subst (λ (v : BoardValue). AreFree v c.args.worker) (sym c.in-Idle.ensures.gives.0) c.requires.free)

pub returns-in-Idle-clause-each : goal.returns-in-Idle-clause-each
returns-in-Idle-clause-each g t c =
    subst (λ (x : BoardValue). IfOk c.compute_jobs-in-Idle.result (λ v. EachComputed g.K.FlowKit.work_of x.plan x.program x.known c.args.jobs.items v.items)) c.in-Idle.ensures.gives.0 c.compute_jobs-in-Idle.ensures.each

pub returns-in-Finished-clause-free : goal.returns-in-Finished-clause-free
returns-in-Finished-clause-free g t c = ok_of c.compute_jobs-in-Finished.result (subst (λ (v : BoardValue). AreFree v c.args.worker) (sym c.in-Finished.ensures.gives.0) c.requires.free)

pub returns-in-Finished-clause-each : goal.returns-in-Finished-clause-each
returns-in-Finished-clause-each g t c =
    subst (λ (x : BoardValue). IfOk c.compute_jobs-in-Finished.result (λ v. EachComputed g.K.FlowKit.work_of x.plan x.program x.known c.args.jobs.items v.items)) c.in-Finished.ensures.gives.0 c.compute_jobs-in-Finished.ensures.each

pub returns-in-Ok-go_round-clause-grows : goal.returns-in-Ok-go_round-clause-grows
returns-in-Ok-go_round-clause-grows g t c =
    let gives = c.in-Got.ensures.gives in let b = c.args.board.now in let one = c.claim.new.self in let two = c.go_round.new.board in
    let k = c.in-Got.ticket in
    ok_more c.step_of.result (grows_round b one two c.step_of.new.board c.args.worker k.worker k.task gives.0 (gives.1 ∙ ap (λ (w : ℕ). board_with_step b (Claim w k.task)) (sym gives.0)) (let z = c.if-worker-eq0.false in omega arith) c.in-Ok-go_round.ensures.grows) c.step_of.ensures.go

pub returns-in-Ok-go_round-clause-free : goal.returns-in-Ok-go_round-clause-free
returns-in-Ok-go_round-clause-free g t c =
    let gives = c.in-Got.ensures.gives in let b = c.args.board.now in let one = c.claim.new.self in let two = c.go_round.new.board in
    let k = c.in-Got.ticket in
    ok_more c.step_of.result (free_round b one two c.step_of.new.board c.args.worker k.worker k.task gives.0 (gives.1 ∙ ap (λ (w : ℕ). board_with_step b (Claim w k.task)) (sym gives.0)) c.step_of.ensures.legal c.in-Ok-go_round.ensures.free) c.step_of.ensures.go

pub returns-in-Ok-go_round-clause-each : goal.returns-in-Ok-go_round-clause-each
returns-in-Ok-go_round-clause-each g t c =
    let one = c.claim.new.self in
    subst (λ (x : BoardValue). IfOk c.step_of.result (λ v. EachComputed g.K.FlowKit.work_of x.plan x.program x.known c.args.jobs.items v.items)) c.in-Got.ensures.gives.1
    (if_more c.step_of.result (λ v rest. front_gave g.K.FlowKit.work_of one c.args.jobs.items c.in-Ok.jobs.items c.in-Ok-go_round.outcomes.items (sym c.in-Ok-go_round.outcomes.ok.0 ∙ (c.in-Ok-go_round.ensures.len ∙ c.in-Ok.jobs.ok.0)) c.in-Ok-go_round.ensures.each (IsJob one.plan one.program one.known) (IsJobOf c.in-Got.ticket) v.items c.in-Ok.ensures rest) c.step_of.ensures.front)

pub returns-in-Idle-clause-moves : goal.returns-in-Idle-clause-moves
returns-in-Idle-clause-moves g t c = let h = c.in-Idle.ensures.gives.2 in ok_of c.compute_jobs-in-Idle.result (λ idle left some. absurd (idle c.in-Idle.task c.in-Idle.holder h.task h.holds))

pub returns-in-Finished-clause-moves : goal.returns-in-Finished-clause-moves
returns-in-Finished-clause-moves g t c = ok_of c.compute_jobs-in-Finished.result (λ idle left some. absurd (left c.in-Finished.ensures.gives.1))

pub returns-in-Ok-go_round-clause-moves : goal.returns-in-Ok-go_round-clause-moves
returns-in-Ok-go_round-clause-moves g t c =
    let gives = c.in-Got.ensures.gives in let b = c.args.board.now in let one = c.claim.new.self in let two = c.go_round.new.board in
    let k = c.in-Got.ticket in
    ok_more c.step_of.result (λ go idle left some. longer_round b one two c.step_of.new.board c.args.worker k.worker k.task gives.0 (gives.1 ∙ ap (λ (w : ℕ). board_with_step b (Claim w k.task)) (sym gives.0)) c.in-Ok-go_round.ensures.grows go) c.step_of.ensures.go
