use Rattle.std.proofs.Common.{◌≡◌, ◌∷◌, ◌∙◌, Some, ap, refl, subst, sym, arith}
use mathlib.Core.Option.{none}
use Rattle.atomic_table.specs.Table.{rest, step}
use Rattle.turn_cell.specs.Histories.{Appends, is_author, entries_by}
use Rattle.turn_cell.specs.inside.Views.{boxed}
use Rattle.turn_cell.proofs.AuthorLemmas.{least_in}
use Rattle.turn_cell.proofs.SeatLemmas.{exchanged_both, finds_same, turn_over, own_after}
use Rattle.turn_cell.proofs.StepLemmas.{gives_back}
use Rattle.turn_cell.proofs.cell.TurnCell.with_turn.Goals as goal

pub exchange-requires : goal.exchange-requires
exchange-requires g c =
    let took = c.take_turn.ensures.took in
    (c.take_turn.ensures.cell ∙ c.requires.cell, (Some took.0, subst (λ m. m.1 ≡ (0, Some took.0) ∷ rest m.1) (sym took.1) refl))

pub store-requires : goal.store-requires
store-requires g c =
    let b = g.B.Chronicle in
    let seat = c.args.seat.now in
    let word = c.args.self.now.one_word in
    let took = c.take_turn.ensures.took in
    let act = c.act_in-answer.ensures in
    let both = exchanged_both (boxed b.plan) (boxed b.history) b.author _ _ _ seat.seat.me.0 took.0 c.unwrap-value.result _ _ took.1 c.exchange.ensures.2 c.exchange.ensures.3 c.unwrap-value.ensures c.exchange-out.ensures.3 in
    let may = finds_same (boxed b.plan) (boxed b.history) b.author _ _ _ _ refl both.0 took.2 in (
      c.exchange-out.ensures.0 ∙ (c.exchange.ensures.0 ∙ (c.take_turn.ensures.cell ∙ c.requires.cell)),
      omega arith,
      gives_back _ _ _ _ _ _ _ _ _ _ _ _ both.1 seat.settled may act.plan c.requires.author act.history,
    )

pub returns-clause-turn : goal.returns-clause-turn
returns-clause-turn g c =
    let b = g.B.Chronicle in
    let seat = c.args.seat.now in
    let v = seat.seat.me.0 in
    let took = c.take_turn.ensures.took in
    let act = c.act_in-answer.ensures in
    let met = c.unwrap-value.result in
    let left = c.act_in-answer.new.block in
    let both = exchanged_both (boxed b.plan) (boxed b.history) b.author _ _ _ v took.0 met _ _ took.1 c.exchange.ensures.2 c.exchange.ensures.3 c.unwrap-value.ensures c.exchange-out.ensures.3 in
    let may = finds_same (boxed b.plan) (boxed b.history) b.author _ _ _ _ refl both.0 took.2 in
    let over = turn_over (boxed b.plan) (boxed b.history) b.author _ _ v _ (step 0 0 0 0 none) 0 _ both.1 c.store.ensures.2 in
    let mine = ap (λ k. is_author k v.authors) c.requires.author ∙ least_in v.authors seat.some in (
      met.value,
      left.value,
      record {
        may = record { planned = may.planned; begins = may.begins; own = may.own };
        did = act.gives;
        plan = act.plan;
        history = act.history;
        seen = ap (λ m. m.0.seen) over;
        own = subst (λ m. Appends b.author (g.J.Job.acts_as c.args.job) (entries_by b.author v.authors v.seen) (entries_by b.author m.0.authors m.0.seen)) (sym over) (own_after b.author v.authors _ _ _ _ may.own mine act.history);
      },
    )
