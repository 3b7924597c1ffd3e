use Rattle.std.proofs.Common.{◌≡◌, ◌≤◌, ℕ, length}
use Rattle.text_base.specs.Bytes.{EndsWith}
use Rattle.text_base.specs.Tokens.{tokens_left}
use Rattle.text_base.proofs.token.skip_blanks.Given as goal

-- only blanks were left behind
abbrev pub invariant-loop-first : goal.invariant-loop-first
invariant-loop-first l = record {
  shorter : length l.rest ≤ length l.text;
  same : (text_len : ℕ) → length l.text ≤ text_len → tokens_left text_len l.rest ≡ tokens_left text_len l.text;
  end : EndsWith l.text l.rest;
}

abbrev pub decreases-loop-first : goal.decreases-loop-first
decreases-loop-first l = length l.rest
