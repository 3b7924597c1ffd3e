use Rattle.std.proofs.Common.{◌≡◌, ◌∙◌}
use Rattle.task_board.specs.Boards.{BoardValue}
use Rattle.task_board.proofs.drive.made.Goals as goal

pub task_tile-requires-clause-tiles : goal.task_tile-requires-clause-tiles
task_tile-requires-clause-tiles g c =
    let b : BoardValue = c.args.board.now in
    let plan : c.deref.result.now ≡ b.plan = c.deref.ensures ∙ c.plan.ensures.value in
    let program : c.deref-2.result.now ≡ b.program = c.deref-2.ensures ∙ c.program.ensures in
    let known : c.deref-3.result.now ≡ b.known = c.deref-3.ensures ∙ c.known.ensures in
    rw (plan, program, known, c.as_slice.ensures.value) c.in_ok-inputs_into.ensures.ok
