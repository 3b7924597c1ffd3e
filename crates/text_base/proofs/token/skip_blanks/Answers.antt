use Rattle.std.proofs.Common.{◌≤◌, suc, [], ◌∷◌, length, ap, sym, ◌∙◌, arith}
use Rattle.text_base.specs.Tokens.{tokens_left}
use Rattle.text_base.proofs.Callers.{tokens_left-blank}
use Rattle.text_base.proofs.Ends.{ends_with_back}
use Rattle.text_base.proofs.token.skip_blanks.Goals as goal

pub loop-first-preserved : goal.loop-first-preserved
loop-first-preserved c =
    let parts = c.in-Some.ensures.cases in
    let longer : suc (length c.in-Some.after.now) ≤ length c.args.text.now = omega (arith, parts.1, c.loop-first.invariant.shorter) in
    record {
      shorter = omega (arith, longer);
      same = λ text_len within.
          tokens_left-blank text_len c.in-Some.first.now c.in-Some.after.now (sym c.is_blank.ensures ∙ c.if-not-is_blank.false) (omega (arith, longer, within))
          ∙ ap (tokens_left text_len) (sym parts.0)
          ∙ c.loop-first.invariant.same text_len within;
      end = ends_with_back c.args.text.now c.loop-first.rest.now (c.in-Some.first.now ∷ []) c.in-Some.after.now c.loop-first.invariant.end parts.0;
    }
