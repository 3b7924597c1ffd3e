use Rattle.area_ops.proofs.OrderLemmas.{one_area}
use Rattle.area_ops.proofs.laws.a_map_is_one_area.Goals as goal

pub returns : goal.returns
returns c = one_area
