use Rattle.script_syntax.proofs.Viable.{derives_one}
use Rattle.script_syntax.proofs.law.one_tree.Goals as goal

pub returns : goal.returns
returns c = derives_one
