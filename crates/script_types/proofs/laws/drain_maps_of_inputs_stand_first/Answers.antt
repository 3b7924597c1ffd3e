use Rattle.script_types.proofs.DrainOrder.{inputs_first}
use Rattle.script_types.proofs.laws.drain_maps_of_inputs_stand_first.Goals as goal

pub returns : goal.returns
returns c = inputs_first
