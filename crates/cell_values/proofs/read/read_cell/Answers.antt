use Rattle.std.proofs.Common.{sym, ◌∙◌}
use Rattle.cell_values.proofs.Readings.{cell-has_value, bad-no_decimal, no_decimal-bad, range-no_value, no_value-range}
use Rattle.cell_values.proofs.read.read_cell.Goals as goal

pub returns-clause-value : goal.returns-clause-value
returns-clause-value c = cell-has_value c.args.kind c.args.text.now c.cell_in.result c.cell_in.ensures

pub returns-clause-bad_number : goal.returns-clause-bad_number
returns-clause-bad_number c = (λ h. bad-no_decimal c.args.kind c.args.text.now (sym c.cell_in.ensures ∙ h), λ none. c.cell_in.ensures ∙ no_decimal-bad c.args.kind c.args.text.now none)

pub returns-clause-range : goal.returns-clause-range
returns-clause-range c = (λ h. range-no_value c.args.kind c.args.text.now (sym c.cell_in.ensures ∙ h), λ none. c.cell_in.ensures ∙ no_value-range c.args.kind c.args.text.now none)
