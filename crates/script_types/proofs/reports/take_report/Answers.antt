use Rattle.std.proofs.Common.{sym, ◌∙◌, ap}
use Rattle.script_types.specs.Names.{file_by}
use Rattle.script_types.specs.Reports.{kept_as}
use Rattle.script_types.specs.Statements.{writes_stack}
use Rattle.script_types.specs.inside.Scopes.{binding_in}
use Rattle.script_types.proofs.ReportLemmas.{report-new}
use Rattle.script_types.proofs.reports.take_report.Goals as goal

pub returns-clause-taken : goal.returns-clause-taken
returns-clause-taken c = λ kepts has.
    let bound = binding_in c.args.scope.now in
    let l = c.args.line.now in
    let file = c.file_by-file.result.now in
    let written = c.file_by-file.ensures ∙ ap (λ b. file_by b c.bytes-name.result.now) c.binding.ensures ∙ ap (λ n. file_by (bound n) n) c.bytes-name.ensures in
    report-new c.args.taken.now c.take.new.taken c.args.scope.now.steps bound kepts l (kept_as c.writes_stack-stacked.result file) c.if-not-line.false (ap (λ b. kept_as b file) c.writes_stack-stacked.ensures ∙ ap (kept_as (writes_stack l)) written) (sym c.is_taken.ensures ∙ c.if-is_taken.false) c.in_ok-take.ensures has
