use Rattle.cell_values.specs.inside.Parts.{decimal_with}
use Rattle.cell_values.proofs.Alike.{same-exact}
use Rattle.cell_values.proofs.same.same_decimal.Goals as goal

pub returns-clause-exact : goal.returns-clause-exact
returns-clause-exact c = λ x y is_x is_y. same-exact c.args.a.now c.args.b.now (decimal_with c.in-Some.a) (decimal_with c.in-Some-of.b) x y c.same_parts.result c.same_parts.ensures c.in-Some.ensures c.in-Some-of.ensures is_x is_y
