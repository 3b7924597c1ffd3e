use Rattle.map_meaning.proofs.NearWhole.{above, below}
use Rattle.map_meaning.proofs.laws.whole_numbers_are_near.Goals as goal

pub returns : goal.returns
returns c = record { below = below; above = above }
