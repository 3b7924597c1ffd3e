use Rattle.std.proofs.Common.{◌≡◌, ◌+◌, ◌≤◌, length}
use Rattle.time_series.specs.Words.{line_words}
use Rattle.time_series.specs.inside.Steps.{words_left}
use Rattle.time_series.proofs.word.count_words.Given as goal

-- the words so far and those of the rest are those of the line
abbrev pub invariant-loop-behind : goal.invariant-loop-behind
invariant-loop-behind l = record {
  same : l.count + length (words_left (length l.fn.line) l.rest) ≡ length (line_words l.fn.line);
  within : l.count + length l.rest ≤ length l.fn.line;
}

abbrev pub decreases-loop-behind : goal.decreases-loop-behind
decreases-loop-behind l = length l.rest
