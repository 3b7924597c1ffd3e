use Rattle.map_meaning.proofs.InKinds.{in_kind}
use Rattle.map_meaning.proofs.laws.results_lie_in_their_kind.Goals as goal

pub returns : goal.returns
returns c = in_kind
