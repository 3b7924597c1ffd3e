use Rattle.std.proofs.Common.{◌≡◌, length}
use Rattle.script_syntax.specs.inside.Formulas.{close}
use Rattle.script_syntax.proofs.formula.close.Given as goal

abbrev pub invariant-closing : goal.invariant-closing
invariant-closing l = close l.level l.value l.frames ≡ close l.level l.fn.value l.fn.frames

abbrev pub decreases-closing : goal.decreases-closing
decreases-closing l = length l.frames
