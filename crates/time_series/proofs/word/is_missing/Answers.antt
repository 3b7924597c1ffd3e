use Rattle.std.proofs.Common.{refl, sym}
use Rattle.cell_values.specs.inside.Reading.{decimal_of}
use Rattle.time_series.proofs.WordSteps.{missing_tested}
use Rattle.time_series.proofs.word.is_missing.Goals as goal

pub same_decimal-requires-clause-second : goal.same_decimal-requires-clause-second
unfolding decimal_of
same_decimal-requires-clause-second c = refl

pub returns-then-is_decimal : goal.returns-then-is_decimal
returns-then-is_decimal c = missing_tested c.args.word.now c.same_decimal.result (sym c.if-is_decimal.ensures.reading) c.same_decimal.ensures.reading
