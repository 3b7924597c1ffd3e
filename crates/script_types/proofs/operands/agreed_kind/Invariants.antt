use Rattle.std.proofs.Common.{◌≡◌, drop}
use Rattle.script_types.specs.Typing.{first_deciding}
use Rattle.script_types.proofs.operands.agreed_kind.Given as goal

abbrev pub invariant-loop-at : goal.invariant-loop-at
invariant-loop-at l = first_deciding l.row l.at (drop l.at l.operands) ≡ first_deciding l.row (0) l.operands
