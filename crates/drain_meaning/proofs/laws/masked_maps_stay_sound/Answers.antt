use Rattle.drain_meaning.proofs.MaskLemmas.{masked_drain}
use Rattle.drain_meaning.proofs.laws.masked_maps_stay_sound.Goals as goal

pub returns : goal.returns
returns c = masked_drain
