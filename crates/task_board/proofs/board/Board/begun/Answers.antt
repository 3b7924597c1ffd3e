use Rattle.std.proofs.Common.{◌≡◌, ◌∙◌, ap}
use Rattle.task_board.specs.Boards.{BoardValue}
use Rattle.task_board.proofs.board.Board.begun.Goals as goal

pub task_work-requires-clause-tiles : goal.task_work-requires-clause-tiles
task_work-requires-clause-tiles g c =
    let b : BoardValue = c.args.self.now in
    let is = c.self.view_is in
    let plan : c.deref.result.now ≡ b.plan = c.deref.ensures ∙ ap (λ (v : BoardValue). v.plan) is in
    let program : c.deref-2.result.now ≡ b.program = c.deref-2.ensures ∙ ap (λ (v : BoardValue). v.program) is in
    let known : c.deref-3.result.now ≡ b.known = c.deref-3.ensures ∙ ap (λ (v : BoardValue). v.known) is in
    rw (plan, program, known, c.as_slice.ensures.value) c.in_ok-inputs_into.ensures.ok
