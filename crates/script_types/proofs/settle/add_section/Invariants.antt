use Rattle.std.proofs.Common.{◌≡◌, ◌+◌, false, drop, length}
use Rattle.script_types.specs.declared.typed.Section.{Section}
use Rattle.script_types.specs.Statements.{counts, is_in, lines_below}
use Rattle.script_types.specs.inside.Answers.{AreNextBelow, IsCount, StandsBelow}
use Rattle.script_types.proofs.settle.add_section.Given as goal

abbrev pub invariant-loop-statement : goal.invariant-loop-statement
invariant-loop-statement l = record {
  below : StandsBelow l.script l.scope l.lines;
  section : l.scope.section ≡ l.fn.section;
  count : IsCount l.fn.section l.count l.lines;
  length : length l.lines ≡ length l.fn.lines + l.statement-index;
  untouched : (other : Section) → is_in other l.fn.section ≡ false → counts other l.lines ≡ counts other l.fn.lines;
  next : AreNextBelow l.script l.lines (drop l.statement-index l.statements);
  settled : lines_below l.script l.fn.section l.lines (drop l.statement-index l.statements) ≡ lines_below l.script l.fn.section l.fn.lines l.statements;
}
