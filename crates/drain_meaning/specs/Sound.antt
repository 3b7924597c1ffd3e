-- Drain maps that a walk can go down.
use Rattle.drain_meaning.specs.Drains.{DrainMap, IsDrainMap}
use Rattle.drain_meaning.specs.Paths.{IsSound}

-- a drain map within the limits that is sound
pub record IsDrain (m : DrainMap) : Type 0 where
  pub map : IsDrainMap m
  pub sound : IsSound m
