use Rattle.std.proofs.Common.{◌≡◌, ◌+◌, ◌-◌, ◌<◌, ◌^◌, length}
use Rattle.text_base.specs.Lines.{lines_at}
use Rattle.time_series.specs.inside.Reading.{behind_names}
use Rattle.time_series.proofs.head.pass_names.Given as goal

-- as many names are left to pass as there were, without those so far
abbrev pub invariant-loop : goal.invariant-loop
invariant-loop l = record {
  same : behind_names (l.fn.count - l.counter) l.last (lines_at l.number l.rest) ≡ behind_names l.fn.count l.fn.last (lines_at l.fn.number l.fn.bytes);
  few : l.number + length l.rest < 2 ^ 32;
}
