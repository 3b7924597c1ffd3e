use Rattle.std.proofs.Common.{◌≡◌, length}
use Rattle.cell_values.specs.inside.Printed.{trimmed}
use Rattle.cell_values.proofs.print.without_zeros.Given as goal

abbrev pub invariant-loop-last : goal.invariant-loop-last
invariant-loop-last l = trimmed l.rest ≡ trimmed l.digits

abbrev pub decreases-loop-last : goal.decreases-loop-last
decreases-loop-last l = length l.rest
