use Rattle.std.proofs.Common.{sym, ◌∙◌}
use Rattle.cell_values.proofs.FewDigits.{millionths-found, whole-found}
use Rattle.cell_values.proofs.short.short_size.Goals as goal

pub returns-then-counts_millionths-clause-reading :
    goal.returns-then-counts_millionths-clause-reading
returns-then-counts_millionths-clause-reading c =
    millionths-found c.args.kind c.args.text.now c.short_millionths.result (sym c.counts_millionths.ensures ∙ c.if-counts_millionths.true) c.short_millionths.ensures.reading

pub returns-else-counts_millionths-clause-reading :
    goal.returns-else-counts_millionths-clause-reading
returns-else-counts_millionths-clause-reading c =
    let e = c.short_whole.ensures in
    whole-found c.args.kind c.args.text.now c.short_whole.result (sym c.counts_millionths.ensures ∙ c.if-counts_millionths.false) e.within e.few e.digits e.value e.small
