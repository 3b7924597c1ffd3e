use Rattle.std.proofs.Common.{◌≡◌, ◌+◌, ◌≤◌, length}
use Rattle.text_base.specs.Bytes.{EndsWith}
use Rattle.text_base.specs.Lines.{lines_at}
use Rattle.text_base.proofs.line.next_line.Given as goal

-- only lines of blanks were passed over
abbrev pub invariant-loop-rest : goal.invariant-loop-rest
invariant-loop-rest l = record {
  same : lines_at l.number l.rest ≡ lines_at l.fn.number l.fn.bytes;
  few : l.number + length l.rest ≤ l.fn.number + length l.fn.bytes;
  shorter : length l.rest ≤ length l.fn.bytes;
  end : EndsWith l.fn.bytes l.rest;
}

abbrev pub decreases-loop-rest : goal.decreases-loop-rest
decreases-loop-rest l = length l.rest
