use Rattle.std.proofs.Common.{refl}
use Rattle.drain_meaning.specs.Drains.{next_at, next_of}
use Rattle.drain_meaning.specs.Equations.{equation_of}
use Rattle.drain_meaning.specs.Masks.{lddmask_of}
use Rattle.drain_meaning.specs.Near.{near_outcome}
use Rattle.drain_meaning.specs.Paths.{path_of}
use Rattle.drain_meaning.specs.Transports.{end_of, feeders}
use Rattle.drain_meaning.proofs.laws.worked_examples_come_out.Goals as goal

pub returns-clause-maps : goal.returns-clause-maps
unfolding next_at next_of path_of lddmask_of
returns-clause-maps c = record {
  keypad = refl;
  outside = refl;
  border = refl;
  path = refl;
  mask = refl;
  mask_missing = refl;
}

pub returns-clause-transports : goal.returns-clause-transports
unfolding next_at next_of path_of lddmask_of near_outcome equation_of end_of feeders
returns-clause-transports c = record {
  accuflux = refl;
  joined = refl;
  by_paths = refl;
  missing = refl;
  over = refl;
  flux = refl;
  state = refl;
  flux_missing = refl;
  state_missing = refl;
  runoff = refl;
  less_runoff = refl;
  catchment = refl;
  farthest = refl;
  upstream = refl;
  downstream = refl;
  masked = refl;
}
