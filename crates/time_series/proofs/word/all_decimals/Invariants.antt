use Rattle.std.proofs.Common.{◌≡◌, ◌≤◌, length}
use Rattle.std.specs.List.{list_all}
use Rattle.time_series.specs.Words.{line_words, is_decimal_word}
use Rattle.time_series.specs.inside.Steps.{words_left}
use Rattle.time_series.proofs.word.all_decimals.Given as goal

-- the words so far are decimals
abbrev pub invariant-loop-word : goal.invariant-loop-word
invariant-loop-word l = record {
  same : list_all is_decimal_word (words_left (length l.fn.line) l.rest) ≡ list_all is_decimal_word (line_words l.fn.line);
  within : length l.rest ≤ length l.fn.line;
}

abbrev pub decreases-loop-word : goal.decreases-loop-word
decreases-loop-word l = length l.rest
