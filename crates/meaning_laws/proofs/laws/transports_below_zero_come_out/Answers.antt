-- By computing.
use Rattle.std.proofs.Common.{refl}
use Rattle.drain_meaning.specs.Drains.{next_at, next_of}
use Rattle.drain_meaning.specs.Equations.{equation_of}
use Rattle.drain_meaning.specs.Paths.{path_of}
use Rattle.drain_meaning.specs.Transports.{end_of, feeders}
use Rattle.meaning_laws.proofs.laws.transports_below_zero_come_out.Goals as goal

pub returns : goal.returns
unfolding next_at next_of equation_of path_of end_of feeders
returns c = record { point = refl; material = refl; flux = refl; state = refl }
