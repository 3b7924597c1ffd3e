use Rattle.std.proofs.Common.{rules, sym, ap, ◌∙◌, arith}
use Rattle.std.proofs.lemmas.Bool.{eqb-true}
use Rattle.std.proofs.lemmas.List.{nil_from_length}
use Rattle.text_base.specs.Lines.{lines_at}
use Rattle.text_base.proofs.Ends.{ends_with_rest}
use Rattle.text_base.proofs.LineLaws.{lines_at-nil}
use Rattle.text_base.proofs.line.next_line.Goals as goal

pub returns-clause-lines : goal.returns-clause-lines
returns-clause-lines c =
    sym c.loop-rest.invariant.same
    ∙ ap (lines_at c.loop-rest.number) (nil_from_length c.loop-rest.rest.now (eqb-true _ 0 (sym c.is_empty.ensures ∙ c.loop-rest-test.false)))
    ∙ lines_at-nil c.loop-rest.number

pub loop-rest-preserved : goal.loop-rest-preserved
loop-rest-preserved c = record {
  same = search rules;
  few = omega (arith, c.loop-rest.invariant.few, c.cut_line.ensures.less);
  shorter = omega (arith, c.loop-rest.invariant.shorter, c.cut_line.ensures.less);
  end = ends_with_rest c.args.bytes.now c.loop-rest.rest.now c.cut_line.result.0.now c.cut_line.result.1.now c.loop-rest.invariant.end c.cut_line.ensures;
}
