use Rattle.text_base.proofs.TokensUnique.{tokens_unique}
use Rattle.text_base.proofs.token.tokens_are_unique.Goals as goal

pub returns : goal.returns
returns c = tokens_unique
