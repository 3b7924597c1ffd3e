use Rattle.std.proofs.Common.{sym, ◌∙◌}
use Rattle.script_syntax.proofs.ScanLaws.{tokens_are, tokens_one}
use Rattle.script_syntax.proofs.law.one_list_of_tokens.Goals as goal

pub returns : goal.returns
returns c = record { found = tokens_are; one = λ text a b h k. tokens_one text a h ∙ sym (tokens_one text b k) }
