use Rattle.std.proofs.Common.{refl, rules, arith}
use Rattle.std.proofs.lemmas.Int.{ints}
use Rattle.area_ops.proofs.TallyLemmas.{same_tally}
use Rattle.area_ops.proofs.tally.Tally.sum.Goals as goal

pub returns-clause-value : goal.returns-clause-value
returns-clause-value c = same_tally _ _ refl (omega (arith, ints, c.requires.self_sound.bounded, c.requires.other_sound.bounded, c.requires.few)) (search rules) (search rules)

pub returns-clause-sound : goal.returns-clause-sound
returns-clause-sound c = record {
  bounded = omega (arith, ints, c.requires.self_sound.bounded, c.requires.other_sound.bounded, c.requires.few);
  empty = λ h. absurd (omega (arith, h, c.requires.some));
}
