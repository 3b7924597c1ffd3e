use Rattle.std.proofs.Common.{[], ◌∷◌, refl, subst}
use Rattle.std.specs.Iterator.{Yields}
use Rattle.std.specs.Vec.Iter.{into_iter_steps}
use Rattle.dusterindigo.proofs.words_of.Goals as goal

-- there is no text
pub returns-in_default : goal.returns-in_default
returns-in_default c = ([], (c.next.new.self, (c.args.args, refl, c.in_default.ensures.cases)), c.new-words.ensures.items)

-- the program's name, and the texts that were gone over
pub returns : goal.returns
returns c =
    let rest : Yields into_iter_steps c.next.new.self c.loop-arg.yielded c.loop-arg.arg-iterator = subst (λ start. Yields into_iter_steps start c.loop-arg.yielded c.loop-arg.arg-iterator) c.into_iter-arg-iterator.ensures.into_iter_gives c.loop-arg.yielded_by in
    (c.in-Some._program ∷ c.loop-arg.yielded, (c.next-in-loop-arg.new.self, (c.loop-arg.arg-iterator, (c.next.new.self, c.in-Some.ensures.cases, rest), c.in-None.ensures.steps)), c.loop-arg.invariant)
