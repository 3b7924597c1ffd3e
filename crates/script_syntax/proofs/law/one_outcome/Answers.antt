use Rattle.script_syntax.proofs.FaultLaws.{tree_of-exact, exact_one}
use Rattle.script_syntax.proofs.law.one_outcome.Goals as goal

pub returns : goal.returns
returns c = record { exact = tree_of-exact; one = exact_one }
