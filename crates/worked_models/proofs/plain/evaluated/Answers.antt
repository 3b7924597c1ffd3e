-- The program is well-formed.
use Rattle.std.proofs.Common.{sym, subst}
use Rattle.map_meaning.specs.Programs.{IsWellFormed}
use Rattle.worked_models.proofs.Chain.{chain_formed}
use Rattle.worked_models.proofs.plain.evaluated.Goals as goal

pub run-requires-clause-program : goal.run-requires-clause-program
run-requires-clause-program c = subst IsWellFormed (sym c.in_ok-program.ensures) chain_formed
