use Rattle.model_maker.proofs.DrainLemmas.{made_directions_lead_on, made_drains_are_sound}
use Rattle.model_maker.proofs.laws.made_drain_maps_are_sound.Goals as goal

pub returns-clause-later : goal.returns-clause-later
returns-clause-later c = made_directions_lead_on

pub returns-clause-sound : goal.returns-clause-sound
returns-clause-sound c = made_drains_are_sound
