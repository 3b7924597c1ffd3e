use Rattle.drain_meaning.proofs.MissingLemmas.{steps_missing, transports_missing}
use Rattle.drain_meaning.proofs.laws.missing_directions_give_missing_values.Goals as goal

pub returns-clause-steps : goal.returns-clause-steps
returns-clause-steps c = steps_missing

pub returns-clause-transports : goal.returns-clause-transports
returns-clause-transports c = transports_missing
