use Rattle.std.proofs.Common.{◌∙◌, arith}
use Rattle.script_syntax.proofs.ScanLaws.{scan_of-gap, gap_within}
use Rattle.script_syntax.proofs.scanner.Scanner.skip_gaps.Goals as goal

pub pass-requires-clause-within : goal.pass-requires-clause-within
pass-requires-clause-within c = omega (arith, gap_within c.gaps.self.rest.now, c.gaps.invariant.len)

pub gaps-preserved : goal.gaps-preserved
gaps-preserved c =
    let old = c.gaps.invariant.roomy in
    let room = c.pass.ensures.room in
    let all = c.gaps.invariant.room in
    record {
      len = c.gap_len-len-in-gaps.ensures.value;
      same = scan_of-gap c.gaps.self c.pass.new.self c.gaps.len c.gaps.invariant.len c.gaps-test.true c.pass.ensures.rest c.pass.ensures.place c.pass.ensures.mode ∙ c.gaps.invariant.same;
      roomy = record { line = omega (arith, old.line, room.line); column = omega (arith, old.column, room.column) };
      room = record { shorter = omega (arith, room.shorter, all.shorter); line = omega (arith, room.line, all.line); column = omega (arith, room.column, all.column) };
    }
