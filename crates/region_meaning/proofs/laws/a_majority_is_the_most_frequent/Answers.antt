use Rattle.region_meaning.proofs.NumberLemmas.{law}
use Rattle.region_meaning.proofs.laws.a_majority_is_the_most_frequent.Goals as goal

pub returns : goal.returns
returns c = law
