use Rattle.std.proofs.Common.{◌≡◌, ◌+◌, ◌++◌, ◌∙◌, length, ap, sym, subst, length-append}
use Rattle.turn_cell.specs.Authors.{AreDistinct}
use Rattle.turn_cell.proofs.SeatLemmas.{one_share}
use Rattle.turn_cell.proofs.cell.TurnCell.join.Goals as goal

pub returns-clause-share : goal.returns-clause-share
returns-clause-share g c =
    let xs = c.args.seat.now.seat.me.0.authors in
    let other = c.args.other in
    let s = c.take_in.ensures.settled in
    let a = ap (λ v. v.authors) s.is ∙ ap (λ x. xs ++ x.me.0.authors) c.into_inner-inner.ensures in
    let one = one_share xs other.seat.me.0.authors c.requires.root (subst AreDistinct a s.distinct) other.some other.single in
    (one, ap length a ∙ (length-append xs other.seat.me.0.authors ∙ ap (λ k. length xs + k) one))
