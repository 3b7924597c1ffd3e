use Rattle.std.proofs.Common.{refl, sym, ◌∙◌}
use Rattle.cell_values.specs.inside.Reading.{decimal_of}
use Rattle.grid_text.proofs.ValueLaws.{minus_no_size, size_tested}
use Rattle.grid_text.proofs.values.is_cell_size.Goals as goal

pub returns-then-has_minus : goal.returns-then-has_minus
returns-then-has_minus c = sym (minus_no_size c.args.value.now (sym c.has_minus.ensures ∙ c.if-has_minus.true))

pub same_decimal-requires-clause-second : goal.same_decimal-requires-clause-second
unfolding decimal_of
same_decimal-requires-clause-second c = refl

pub returns : goal.returns
returns c = size_tested c.args.value.now c.same_decimal.result (sym c.is_coordinate.ensures ∙ c.if-not-is_coordinate.false) (sym c.has_minus.ensures ∙ c.if-has_minus.false) c.same_decimal.ensures.reading
