use Rattle.drain_meaning.proofs.EndLemmas.{ends_meet, ends_unique}
use Rattle.drain_meaning.proofs.laws.transports_meet_their_equation.Goals as goal

pub returns-clause-meets : goal.returns-clause-meets
returns-clause-meets c = ends_meet

pub returns-clause-only : goal.returns-clause-only
returns-clause-only c = ends_unique
