-- What flows fits the loads.
use Rattle.tile_tasks.proofs.MessageMeanings.{messages_fit}
use Rattle.tile_tasks.proofs.laws.messages_fit_loads.Goals as goal

pub returns : goal.returns
returns c = messages_fit c.tiles_of_operations_are_cuts.ensures c.flows_fit_loads.ensures c.flows_fit_loads-2.ensures c.flows_fit_loads-3.ensures c.flows_fit_loads-4.ensures
