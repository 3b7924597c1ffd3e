use Rattle.std.proofs.Common.{◌∙◌, ℕ, ap, subst}
use Rattle.core_model.specs.declared.step.Step.TheVariants.{Claim, PutDown}
use Rattle.task_board.specs.Boards.{BoardValue, IsLegal, board_with_step, state_of}
use Rattle.task_board.specs.inside.Driven.{EndsWell, EndsBy}
use Rattle.task_board.proofs.DriveLemmas.{claim_puts, driven_step, goes_on, idle_put_down, nearer_well, not_finished}
use Rattle.task_board.proofs.board.Board.drive_alone.Goals as goal

pub unreachable-requires : goal.unreachable-requires
unreachable-requires g c =
    let h = c.in-Idle.ensures.gives.2 in let i = c.tasks.invariant in
    i.idle c.in-Idle.task c.in-Idle.holder h.task h.holds

pub work_on-requires-clause-can : goal.work_on-requires-clause-can
work_on-requires-clause-can g c =
    let q = c.in-Got.ensures.gives in let i = c.tasks.invariant in
    ap (λ (k : ℕ). (state_of c.claim.new.self).has_put_down k) q.0 ∙ ap (λ (v : BoardValue). (state_of v).has_put_down 0) q.1 ∙ claim_puts c.tasks.self c.in-Got.ticket.task ∙ i.can

pub tasks-preserved : goal.tasks-preserved
tasks-preserved g c =
    let q = c.in-Got.ensures.gives in let t : ℕ = c.in-Got.ticket.task in
    let ends : EndsWell (board_with_step c.tasks.self (Claim 0 t)) c.work_on.new.board 0 t =
    subst (λ (k : ℕ). EndsWell (board_with_step c.tasks.self (Claim 0 t)) c.work_on.new.board k t) q.0 (subst (λ (v : BoardValue). EndsWell v c.work_on.new.board c.in-Got.ticket.worker t) q.1 c.in_ok-work_on-in-Got.ensures.ok) in
    driven_step c.args.self.now c.tasks.self c.work_on.new.board t ends c.tasks.invariant (subst (λ (v : BoardValue). IsLegal v) q.1 c.in-Got.ensures.legal)

pub tasks-smaller : goal.tasks-smaller
tasks-smaller g c =
    let q = c.in-Got.ensures.gives in let t : ℕ = c.in-Got.ticket.task in
    let ends : EndsWell (board_with_step c.tasks.self (Claim 0 t)) c.work_on.new.board 0 t =
    subst (λ (k : ℕ). EndsWell (board_with_step c.tasks.self (Claim 0 t)) c.work_on.new.board k t) q.0 (subst (λ (v : BoardValue). EndsWell v c.work_on.new.board c.in-Got.ticket.worker t) q.1 c.in_ok-work_on-in-Got.ensures.ok) in
    nearer_well c.tasks.self c.work_on.new.board t ends c.tasks.invariant.plan c.work_on.ensures.legal

pub returns-in_err-work_on-in-Got-clause-continues : goal.returns-in_err-work_on-in-Got-clause-continues
returns-in_err-work_on-in-Got-clause-continues g c =
    let q = c.in-Got.ensures.gives in let t : ℕ = c.in-Got.ticket.task in
    let ends : EndsBy (board_with_step c.tasks.self (Claim 0 t)) c.work_on.new.board (PutDown 0 t) =
    subst (λ (k : ℕ). EndsBy (board_with_step c.tasks.self (Claim 0 t)) c.work_on.new.board (PutDown k t)) q.0 (subst (λ (v : BoardValue). EndsBy v c.work_on.new.board (PutDown c.in-Got.ticket.worker t)) q.1 c.in_err-work_on-in-Got.ensures.err) in
    goes_on c.tasks.self c.work_on.new.board t (PutDown 0 t) ends c.args.self.now c.tasks.invariant.continues

pub returns-in_err-work_on-in-Got-clause-idle : goal.returns-in_err-work_on-in-Got-clause-idle
returns-in_err-work_on-in-Got-clause-idle g c =
    let q = c.in-Got.ensures.gives in let t : ℕ = c.in-Got.ticket.task in
    let ends : EndsBy (board_with_step c.tasks.self (Claim 0 t)) c.work_on.new.board (PutDown 0 t) =
    subst (λ (k : ℕ). EndsBy (board_with_step c.tasks.self (Claim 0 t)) c.work_on.new.board (PutDown k t)) q.0 (subst (λ (v : BoardValue). EndsBy v c.work_on.new.board (PutDown c.in-Got.ticket.worker t)) q.1 c.in_err-work_on-in-Got.ensures.err) in
    idle_put_down c.tasks.self c.work_on.new.board t ends c.tasks.invariant.idle

pub returns-in_err-work_on-in-Got-clause-done : goal.returns-in_err-work_on-in-Got-clause-done
returns-in_err-work_on-in-Got-clause-done g c = λ fin.
    let q = c.in-Got.ensures.gives in
    absurd (not_finished c.args.self.now c.tasks.self c.in-Got.ticket.task c.tasks.invariant (subst (λ (v : BoardValue). IsLegal v) q.1 c.in-Got.ensures.legal) fin)
