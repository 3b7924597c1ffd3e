use Rattle.std.proofs.Common.{◌<◌, ◌∷◌, ◌∙◌, Some, length, ap, subst, sym, arith}
use Rattle.turn_cell.specs.inside.Views.{boxed, holding_view, MayFind}
use Rattle.turn_cell.proofs.StepLemmas.{looks, takes_turn}
use Rattle.turn_cell.proofs.cell.TurnCell.take_turn.Goals as goal

pub load-requires : goal.load-requires
load-requires g c =
    let word = c.args.self.now.one_word in
    (c.loop.invariant.cell ∙ c.requires.cell, omega arith, looks _ _ _ _ _ _ _ _)

pub compare_exchange-requires : goal.compare_exchange-requires
compare_exchange-requires g c =
    let word = c.args.self.now.one_word in
    let same = c.load.ensures.2 ∙ c.loop.invariant.same in
    (c.load.ensures.0 ∙ (c.loop.invariant.cell ∙ c.requires.cell), omega arith, takes_turn _ _ _ _ _ _ _ _ (subst (λ m. 0 < length m.0.authors) (sym same) c.requires.idle.1))

pub returns-then-compare_exchange-eq0-clause-took : goal.returns-then-compare_exchange-eq0-clause-took
returns-then-compare_exchange-eq0-clause-took g c =
    let b = g.B.Chronicle in
    let took = c.compare_exchange.ensures.2.0 c.if-compare_exchange-eq0.true in
    let same = c.load.ensures.2 ∙ c.loop.invariant.same in
    let v = c.args.seat.now.me.0 in (
      took.0,
      took.1 ∙ (ap (λ m. (holding_view m.0 (boxed b.history took.0), (0, Some took.0) ∷ m.1)) same ∙ ap (λ xs. (holding_view v (boxed b.history took.0), (0, Some took.0) ∷ xs)) c.requires.idle.0),
      subst (λ m. MayFind (boxed b.plan) (boxed b.history) b.author m.0 took.0) same took.2,
    )
