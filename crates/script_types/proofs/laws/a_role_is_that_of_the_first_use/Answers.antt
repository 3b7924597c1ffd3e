use Rattle.script_types.proofs.LawLemmas.{first_used}
use Rattle.script_types.proofs.laws.a_role_is_that_of_the_first_use.Goals as goal

pub returns : goal.returns
returns c = first_used
