use Rattle.plain_eval.proofs.Callers.{base_knows_all}
use Rattle.plain_eval.proofs.laws.the_base_kit_knows_all_words.Goals as goal

pub returns : goal.returns
returns c = base_knows_all
