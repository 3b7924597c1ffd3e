use Rattle.std.proofs.Common.{Bool, sym, ◌∙◌, ap}
use Rattle.script_types.specs.Reports.{kept_as, share_a_name}
use Rattle.script_types.specs.inside.Taken.{is_taken_by}
use Rattle.script_types.proofs.reports.is_taken.Goals as goal

pub returns-then-stacked : goal.returns-then-stacked
returns-then-stacked c = c.is_stack_taken.ensures ∙ ap (λ (b : Bool). is_taken_by (share_a_name c.args.steps (kept_as b c.args.name.now)) c.args.taken.now) (sym c.if-stacked.true)

pub returns-else-stacked : goal.returns-else-stacked
returns-else-stacked c = c.is_file_taken.ensures ∙ ap (λ (b : Bool). is_taken_by (share_a_name c.args.steps (kept_as b c.args.name.now)) c.args.taken.now) (sym c.if-stacked.false)
