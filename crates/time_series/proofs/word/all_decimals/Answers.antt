use Rattle.std.proofs.Common.{ap, arith}
use Rattle.std.specs.List.{list_all}
use Rattle.time_series.specs.Words.{is_decimal_word}
use Rattle.time_series.proofs.WordSteps.{words_all}
use Rattle.time_series.proofs.word.all_decimals.Goals as goal

pub loop-word-init : goal.loop-word-init
loop-word-init c = record { same = ap (list_all is_decimal_word) (words_all c.args.line.now); within = omega arith }
