use Rattle.std.proofs.Common.{◌≡◌, ◌≤◌, List, [], length}
use Rattle.text_base.specs.Tokens.{tokens}
use Rattle.grid_text.specs.Form.{Pair}
use Rattle.grid_text.specs.inside.Reading.{pairs_from}
use Rattle.text_base.specs.Tokens.{tokens_left}
use Rattle.grid_text.specs.inside.Steps.{given_view, AreValues}
use Rattle.grid_text.proofs.head.read_pairs.Given as goal

-- some pairs were read and have given these values, and reading on from there is reading the text
abbrev pub invariant-loop-word : goal.invariant-loop-word
invariant-loop-word l = record {
  before : List Pair;
  values : AreValues before (given_view l.given);
  same : pairs_from (length l.text) before (tokens_left (length l.text) l.rest) ≡ pairs_from (length l.text) [] (tokens l.text);
  within : length l.rest ≤ length l.text;
}

abbrev pub decreases-loop-word : goal.decreases-loop-word
decreases-loop-word l = length l.rest
