-- What the crates above cite.
use Rattle.std.proofs.Common.{refl}
use Rattle.drain_meaning.specs.declared.op.FlowOp.TheVariants.{Accuflux, ThresholdFlux, ThresholdState, Catchment}
use Rattle.flow_task.specs.Base.{is_base}
use Rattle.flow_task.specs.Kits.{KnowsAll}
use Rattle.map_meaning.specs.Table.{is_transport}

-- the kit of the first transports knows every transport that has a word
pub base_knows_all : KnowsAll is_transport is_base
base_knows_all Accuflux h = refl
base_knows_all ThresholdFlux h = refl
base_knows_all ThresholdState h = refl
base_knows_all Catchment h = refl
base_knows_all o h = absurd (cc)
