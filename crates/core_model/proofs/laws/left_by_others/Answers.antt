use Rattle.core_model.proofs.Others as Lemmas
use Rattle.core_model.proofs.laws.left_by_others.Goals as goal

pub returns : goal.returns
returns c = Lemmas.left_by_others
