use Rattle.std.proofs.Common.{◌≡◌, ◌<◌, ◌∙◌, true, length, ap, subst, sym, arith}
use Rattle.turn_cell.specs.Histories.{is_author}
use Rattle.turn_cell.specs.inside.Views.{SettlesView}
use Rattle.turn_cell.proofs.StepLemmas.{joins, settles}
use Rattle.turn_cell.proofs.cell.TurnCell.take_in.Goals as goal

pub join_seat-requires : goal.join_seat-requires
join_seat-requires g c =
    let word = c.args.self.now.one_word in
    (c.requires.cell.0, c.requires.cell.1, c.requires.idle.1, omega arith, joins _ _ _ _ _ _ _ _ _ c.requires.root.1 c.requires.settled.0 c.requires.settled.1 c.requires.idle.2)

pub load-requires : goal.load-requires
load-requires g c =
    let word = c.args.self.now.one_word in
    let is = c.join_seat.ensures.2 in
    (c.join_seat.ensures.0 ∙ c.requires.cell.0, omega arith, settles _ _ _ _ _ _ _ _ (ap (λ m. is_author 0 m.0.authors) is ∙ c.requires.root.0) (subst (λ m. 0 < length m.0.authors) (sym is) c.requires.root.1))
