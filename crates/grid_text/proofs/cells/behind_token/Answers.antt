use Rattle.std.proofs.Common.{sym, ◌∙◌}
use Rattle.grid_text.proofs.ShortLaws.{past_blank}
use Rattle.grid_text.proofs.cells.behind_token.Goals as goal

pub returns-in-Some : goal.returns-in-Some
returns-in-Some c = past_blank c.args.text.now c.in-Some.first.now c.in-Some.behind.now c.in-Some.ensures.cases.0 (sym c.is_blank.ensures ∙ c.if-is_blank.true)
