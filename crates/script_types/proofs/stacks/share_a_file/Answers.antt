use Rattle.std.proofs.Common.{◌∙◌, arith}
use Rattle.script_types.proofs.StackFiles.{shares-back, shares-begun}
use Rattle.script_types.proofs.stacks.share_a_file.Goals as goal

pub returns-then-a-b : goal.returns-then-a-b
returns-then-a-b c = c.is_begun.ensures ∙ shares-begun c.args.a.now c.args.b.now c.args.steps (omega arith)

pub returns-else-a-b : goal.returns-else-a-b
returns-else-a-b c = c.is_begun-else-a-b.ensures ∙ shares-begun c.args.b.now c.args.a.now c.args.steps (omega arith) ∙ shares-back c.args.a.now c.args.b.now c.args.steps
