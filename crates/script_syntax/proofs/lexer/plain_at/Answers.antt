use Rattle.std.proofs.Common.{sym, ◌∙◌}
use Rattle.script_syntax.proofs.ScanSteps.{plain_word}
use Rattle.script_syntax.proofs.lexer.plain_at.Goals as goal

pub returns-then-is_letter : goal.returns-then-is_letter
returns-then-is_letter c =
    plain_word c.args.text.now c.in-Some.first.now c.in-Some.rest.now c.split_at.result.0.now c.in_ok-token.token c.word_len-len.result
    c.in-Some.ensures.cases.0 (sym c.is_letter.ensures ∙ c.if-is_letter.true) c.word_len-len.ensures.value c.split_at.ensures.front c.in_ok-token.ensures
