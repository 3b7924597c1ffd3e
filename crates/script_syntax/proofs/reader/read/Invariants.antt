use Rattle.std.proofs.Common.{◌≡◌, ◌+◌, ◌-◌, ◌≤◌, [], length}
use Rattle.script_syntax.specs.Listed.{counts_behind}
use Rattle.script_syntax.specs.inside.Counting.{AreBelow}
use Rattle.script_syntax.specs.inside.Reading.{read_scanned}
use Rattle.script_syntax.specs.inside.Scanner.{scan_of}
use Rattle.script_syntax.proofs.reader.read.Given as goal

abbrev pub invariant-tokens : goal.invariant-tokens
invariant-tokens l = record {
  same : read_scanned l.reading l.counts l.end (scan_of l.scanner) ≡ read_scanned l.fn.reading (counts_behind []) l.fn.scanner.place (scan_of l.fn.scanner);
  line : l.scanner.place.line + length l.scanner.rest.now ≤ 268435457;
  column : l.scanner.place.column + length l.scanner.rest.now ≤ 268435457;
  counts : AreBelow l.counts (268435460 - length l.scanner.rest.now);
}

abbrev pub decreases-tokens : goal.decreases-tokens
decreases-tokens l = length l.scanner.rest.now
