-- The program is well-formed.
use Rattle.std.proofs.Common.{sym, subst}
use Rattle.map_meaning.specs.Programs.{IsWellFormed}
use Rattle.worked_models.proofs.Chain.{chain_formed}
use Rattle.worked_models.proofs.plain.takes_each_program.Goals as goal

pub admitted-requires-clause-program : goal.admitted-requires-clause-program
admitted-requires-clause-program g c = subst IsWellFormed (sym c.in_ok-program.ensures) chain_formed
