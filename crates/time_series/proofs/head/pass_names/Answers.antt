use Rattle.std.proofs.Common.{◌+◌, Err, ap, ◌∙◌, arith}
use Rattle.text_base.specs.Lines.{line_view, lines_at}
use Rattle.time_series.specs.declared.fault.SeriesFault.{SeriesFault}
use Rattle.time_series.proofs.HeadSteps.{names_end, names_more, names_done}
use Rattle.time_series.proofs.head.pass_names.Goals as goal

pub returns-in_default-clause-names : goal.returns-in_default-clause-names
returns-in_default-clause-names c =
    ap (λ (f : SeriesFault). Err f) c.title_fault.ensures
    ∙ names_end c.args.count c.loop.counter c.loop.last (lines_at c.loop.number c.loop.rest.now) c.loop-test.true c.in_default.ensures.lines
    ∙ c.loop.invariant.same

pub loop-preserved : goal.loop-preserved
loop-preserved c = record {
  same =
      names_more c.args.count c.loop.counter c.loop.last (lines_at c.loop.number c.loop.rest.now) (line_view c.in-Some.line) (lines_at (c.in-Some.line.number + 1) c.in-Some.behind.now) c.loop-test.true c.in-Some.ensures.lines
      ∙ c.loop.invariant.same;
  few = omega (arith, c.in-Some.ensures.few, c.loop.invariant.few);
}

pub returns-clause-names : goal.returns-clause-names
returns-clause-names c = names_done c.args.count c.loop.counter c.loop.last (lines_at c.loop.number c.loop.rest.now) c.loop-test.false ∙ c.loop.invariant.same
