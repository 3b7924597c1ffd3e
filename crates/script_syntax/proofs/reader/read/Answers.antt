use Rattle.std.proofs.Common.{sym, ◌∙◌, ap, subst, arith, length, ◌-◌}
use Rattle.script_syntax.specs.inside.Reading.{read_scanned}
use Rattle.script_syntax.specs.inside.Counting.{AreBelow, counts_after}
use Rattle.script_syntax.specs.inside.Scanner.{IsNextOf, scan_of}
use Rattle.script_syntax.proofs.ReadSteps.{read_scanned-token, read_scanned-end, refused, taken, below_after, faulty, answers}
use Rattle.script_syntax.proofs.reader.read.Goals as goal

pub returns-in_err-reading-in-Token : goal.returns-in_err-reading-in-Token
returns-in_err-reading-in-Token c =
    let next = subst (IsNextOf c.tokens.scanner c.next.new.self) c.in-Token.is c.in_ok-placed.ensures.next in
    refused c.from_residual-in_err-reading-in-Token.result _ _ _ _ c.from_residual-in_err-reading-in-Token.ensures.1 c.in_err-reading-in-Token.ensures
    (sym c.tokens.invariant.same ∙ read_scanned-token c.tokens.reading c.tokens.counts c.tokens.end (scan_of c.tokens.scanner) (scan_of c.next.new.self) c.in-Token.placed next.0)

pub tokens-preserved : goal.tokens-preserved
tokens-preserved c =
    let next = subst (IsNextOf c.tokens.scanner c.next.new.self) c.in-Token.is c.in_ok-placed.ensures.next in
    let room = c.next.ensures.room in
    let old = c.tokens.invariant in
    record {
      same = ap (λ k. read_scanned c.in_ok-reading-in-Token.reading k c.end-end.result (scan_of c.next.new.self)) c.after-counted.ensures
          ∙ (ap (λ p. read_scanned c.in_ok-reading-in-Token.reading (counts_after c.tokens.counts c.in-Token.placed.token) p (scan_of c.next.new.self)) c.end-end.ensures
          ∙ (taken c.tokens.reading c.in_ok-reading-in-Token.reading c.tokens.counts c.tokens.end (scan_of c.tokens.scanner) (scan_of c.next.new.self) c.in-Token.placed next.0 c.in_ok-reading-in-Token.ensures
          ∙ old.same));
      line = omega (arith, room.line, old.line);
      column = omega (arith, room.column, old.column);
      counts = subst (λ k. AreBelow k (268435460 - length c.next.new.self.rest.now)) (sym c.after-counted.ensures) (below_after c.tokens.counts c.in-Token.placed.token (268435460 - length c.tokens.scanner.rest.now) (268435460 - length c.next.new.self.rest.now) old.counts (omega (arith, next.2, old.line)));
    }

pub returns-in-Byte : goal.returns-in-Byte
returns-in-Byte c =
    let next = subst (IsNextOf c.tokens.scanner c.next.new.self) c.in-Byte.is c.in_ok-placed.ensures.next in
    faulty c.fault.result _ _ c.fault.ensures
    (sym c.tokens.invariant.same ∙ read_scanned-end c.tokens.reading c.tokens.counts c.tokens.end (scan_of c.tokens.scanner) _ next)

pub returns-in-End : goal.returns-in-End
returns-in-End c =
    let next = subst (IsNextOf c.tokens.scanner c.next.new.self) c.in-End.is c.in_ok-placed.ensures.next in
    answers c.finish.result _ _ c.finish.ensures
    (sym c.tokens.invariant.same ∙ read_scanned-end c.tokens.reading c.tokens.counts c.tokens.end (scan_of c.tokens.scanner) _ next)
