use Rattle.std.proofs.Common.{◌==◌, length, sym, ap, arith}
use Rattle.std.proofs.lemmas.List.Sums.{position_or_len_is}
use Rattle.script_types.proofs.table.space_at.Goals as goal

pub returns-then-word-at-eq32-clause-first : goal.returns-then-word-at-eq32-clause-first
returns-then-word-at-eq32-clause-first c = sym (position_or_len_is (λ byte. byte == 32) c.args.word.now c.loop-at.at 0 (omega arith) c.loop-at.invariant (λ _. ap (λ b. b == 32) c.if-word-at-eq32.true))

pub returns-clause-first : goal.returns-clause-first
returns-clause-first c = sym (position_or_len_is (λ byte. byte == 32) c.args.word.now (length c.args.word.now) 0 (omega arith) (λ k h. c.loop-at.invariant k (omega arith)) (λ h. absurd (omega arith)))
