-- By the points along a path.
use Rattle.std.proofs.Common.{map}
use Rattle.drain_meaning.specs.Paths.{path_of}
use Rattle.meaning_laws.proofs.PointLemmas.{last_point_is}
use Rattle.meaning_laws.proofs.laws.catchments_are_last_points.Goals as goal

pub returns : goal.returns
returns c = λ m points q. last_point_is (map points (path_of m q))
