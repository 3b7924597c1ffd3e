use Rattle.map_meaning.specs.Rules.{rule_of}
use Rattle.cell_ops.specs.Work.{work_outcome}
use Rattle.cell_ops.proofs.part.plain.Goals as goal

pub returns-in-NotEqual : goal.returns-in-NotEqual
unfolding rule_of work_outcome
returns-in-NotEqual c = rw c.in-NotEqual.is c.two-in-NotEqual.ensures

pub returns-in-Greater : goal.returns-in-Greater
unfolding rule_of work_outcome
returns-in-Greater c = rw c.in-Greater.is c.two-in-Greater.ensures

pub returns-in-GreaterEqual : goal.returns-in-GreaterEqual
unfolding rule_of work_outcome
returns-in-GreaterEqual c = rw c.in-GreaterEqual.is c.two-in-GreaterEqual.ensures

pub returns-in-And : goal.returns-in-And
unfolding rule_of work_outcome
returns-in-And c = rw c.in-And.is c.two-in-And.ensures

pub returns-in-Or : goal.returns-in-Or
unfolding rule_of work_outcome
returns-in-Or c = rw c.in-Or.is c.two-in-Or.ensures

pub returns-in-Xor : goal.returns-in-Xor
unfolding rule_of work_outcome
returns-in-Xor c = rw c.in-Xor.is c.two-in-Xor.ensures
