use Rattle.script_types.proofs.LawLemmas.{last_assigned}
use Rattle.script_types.proofs.laws.a_kind_is_that_of_the_last_assignment_above.Goals as goal

pub returns : goal.returns
returns c = last_assigned
