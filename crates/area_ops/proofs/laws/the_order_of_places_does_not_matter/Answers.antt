use Rattle.area_ops.proofs.OrderLemmas.{order}
use Rattle.area_ops.proofs.laws.the_order_of_places_does_not_matter.Goals as goal

pub returns : goal.returns
returns c = order
