use Rattle.std.proofs.Common.{sym, ◌∙◌}
use Rattle.cell_values.proofs.Trim.{last_dropped, last_kept}
use Rattle.cell_values.proofs.print.without_zeros.Goals as goal

pub returns-then-last-ne48 : goal.returns-then-last-ne48
returns-then-last-ne48 c = sym (last_kept _ _ _ c.in-Some.ensures.cases.0 c.if-last-ne48.true) ∙ c.loop-last.invariant

pub loop-last-preserved : goal.loop-last-preserved
loop-last-preserved c = last_dropped _ _ _ c.in-Some.ensures.cases.0 c.if-last-ne48.false ∙ c.loop-last.invariant
