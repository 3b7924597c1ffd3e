use Rattle.std.proofs.Common.{◌≡◌, length, ap, arith}
use Rattle.time_series.specs.Words.{line_words}
use Rattle.time_series.specs.inside.Steps.{words_left}
use Rattle.time_series.proofs.WordSteps.{words_all}
use Rattle.time_series.proofs.word.count_words.Goals as goal

pub loop-behind-init : goal.loop-behind-init
loop-behind-init c =
    let all : length (words_left (length c.args.line.now) c.args.line.now) ≡ length (line_words c.args.line.now) = ap (λ ws. length ws) (words_all c.args.line.now) in
    record { same = omega (arith, all); within = omega arith }
