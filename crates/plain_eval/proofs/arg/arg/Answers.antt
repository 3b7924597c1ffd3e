use Rattle.std.proofs.Common.{◌≡◌, ℕ, subst}
use Rattle.map_meaning.specs.Evaluation.{operand_cell}
use Rattle.map_meaning.specs.Spans.{scene_of}
use Rattle.tile_map.specs.Args.{arg_cell}
use Rattle.span_operands.specs.Made.{AgreesWith}
use Rattle.plain_eval.specs.inside.Held.{done_of}
use Rattle.plain_eval.proofs.Agrees.{done_agrees}
use Rattle.plain_eval.proofs.arg.arg.Goals as goal

pub returns-clause-cell : goal.returns-clause-cell
returns-clause-cell c =
    let program = c.args.program.now in
    let s = c.args.span in
    let known = c.args.known.now in
    let done = done_of program s known c.args.held.now in
    let step = c.span_start-step.result in
    let P : ℕ → Type 0 = λ k. AgreesWith program s known k done → arg_cell c.known_arg.result ≡ operand_cell (scene_of program.inputs known k) done c.args.operand in
    let at : P step = λ agrees. c.known_arg.ensures.cell done agrees in
    subst P c.span_start-step.ensures at (done_agrees program s known c.args.held.now)
