-- What the crates above cite.

-- a cell with a direction is in the map, and drains into a cell of the map
pub use Rattle.drain_meaning.proofs.MapLemmas.{cases_directed, directed_within, next_at-missing, next_at-outside, next_inside}
-- paths and the ways along them
pub use Rattle.drain_meaning.proofs.PathLemmas.{next_directed, no_cycle, one_path, path_down, path_leaves, path_of-is, path_of_pit, path_short, path_up, way_back, way_from, way_step}
-- the ends of a transport on a sound map
pub use Rattle.drain_meaning.proofs.EndLemmas.{drains_tells, ends_meet, ends_unique, outcomes_alike, outlet_is, tributary_drains}
-- what feeds a cell, and over how many steps flow comes to it
pub use Rattle.drain_meaning.proofs.EndLemmas.{Feeds, feeder_feeds, feeder_within, steps_few, steps_to}
-- accumulated flow is what the paths through a cell bring
pub use Rattle.drain_meaning.proofs.AccuLemmas.{accuflux_by_paths}
-- a cell and the one that it drains into are neighbours
pub use Rattle.drain_meaning.proofs.NeighbourLemmas.{AreNeighbours, Directs, LeadsTo, col_there, directed, directs, neighbours, row_there}
-- the part of a map that a mask keeps
pub use Rattle.drain_meaning.proofs.MaskLemmas.{masked_drain}
-- lists of places
pub use Rattle.drain_meaning.proofs.SumLemmas.{contains_cases, contains_first, contains_later, kept_passes, map_alike}
-- the first unsound place
pub use Rattle.drain_meaning.proofs.UnsoundLemmas.{first_unsound-found}
