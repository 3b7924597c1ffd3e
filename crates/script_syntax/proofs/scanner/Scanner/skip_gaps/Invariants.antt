use Rattle.std.proofs.Common.{◌≡◌, length}
use Rattle.script_syntax.specs.inside.Scanner.{IsRoomy, KeepsRoom, gap_len, scan_of}
use Rattle.script_syntax.proofs.scanner.Scanner.skip_gaps.Given as goal

abbrev pub invariant-gaps : goal.invariant-gaps
invariant-gaps l = record {
  len : l.len ≡ gap_len l.self.rest.now;
  same : scan_of l.self ≡ scan_of l.fn.self;
  roomy : IsRoomy l.self;
  room : KeepsRoom l.fn.self l.self;
}

abbrev pub decreases-gaps : goal.decreases-gaps
decreases-gaps l = length l.self.rest.now
