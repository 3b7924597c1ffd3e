use Rattle.std.proofs.Common.{sym, ◌∙◌, ap, arith, length}
use Rattle.std.proofs.lemmas.List.{length-drop}
use Rattle.script_syntax.specs.Spelling.{mode_after}
use Rattle.script_syntax.proofs.ScanLaws.{scan_of-token, scan_of-bad, scan_of-end, token_within, empty_is, empty_not}
use Rattle.script_syntax.proofs.scanner.Scanner.next.Goals as goal

pub returns-then-is_empty-clause-next : goal.returns-then-is_empty-clause-next
returns-then-is_empty-clause-next c =
    sym c.skip_gaps.ensures.same ∙ scan_of-end c.skip_gaps.new.self (empty_is c.skip_gaps.new.self.rest.now (sym c.is_empty.ensures ∙ c.if-is_empty.true))

pub pass-requires-clause-within : goal.pass-requires-clause-within
pass-requires-clause-within c = (token_within c.skip_gaps.new.self.mode c.skip_gaps.new.self.rest.now c.in-Ok.found c.in-Ok.ensures).1

pub returns-in-Ok-clause-next : goal.returns-in-Ok-clause-next
returns-in-Ok-clause-next c =
    let w = token_within c.skip_gaps.new.self.mode c.skip_gaps.new.self.rest.now c.in-Ok.found c.in-Ok.ensures in
    let skipped = c.skip_gaps.ensures.room in
    let passed = c.pass.ensures.room in (
      sym c.skip_gaps.ensures.same
          ∙ scan_of-token c.skip_gaps.new.self (record { rest = c.pass.new.self.rest; mode = c.after-self.result; place = c.pass.new.self.place }) c.in-Ok.found c.skip_gaps.ensures.none c.in-Ok.ensures c.pass.ensures.rest c.pass.ensures.place (c.after-self.ensures ∙ ap (λ m. mode_after m c.in-Ok.found.token) c.pass.ensures.mode),
      omega (arith, w.1, skipped.column),
      omega (arith, w.0, w.1, skipped.shorter, ap length c.pass.ensures.rest, length-drop c.in-Ok.found.len c.skip_gaps.new.self.rest.now),
    )

pub returns-in-Err-Token-clause-next : goal.returns-in-Err-Token-clause-next
returns-in-Err-Token-clause-next c =
    sym c.skip_gaps.ensures.same ∙ scan_of-bad c.skip_gaps.new.self (empty_not c.skip_gaps.new.self.rest.now (sym c.is_empty.ensures ∙ c.if-is_empty.false)) c.skip_gaps.ensures.none (rw c.in-Err-Token.field-0-is at c.in-Err-Token.ensures)
