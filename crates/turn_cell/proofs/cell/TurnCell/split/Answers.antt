use Rattle.std.proofs.Common.{◌+◌, ◌∙◌, length, ap, subst, sym, arith}
use Rattle.turn_cell.specs.Histories.{entries_by}
use Rattle.turn_cell.proofs.SeatLemmas.{IsAtRest, left_rests, split_shares, split_entries}
use Rattle.turn_cell.proofs.StepLemmas.{splits}
use Rattle.turn_cell.proofs.cell.TurnCell.split.Goals as goal

pub split_seat-given-requires : goal.split_seat-given-requires
split_seat-given-requires g c =
    let seat = c.args.seat.now in
    let word = c.args.self.now.one_word in
    (c.requires.cell, omega arith, splits _ _ _ _ _ _ _ c.requires.share seat.distinct seat.free seat.settled)

pub invariant_of-seat : goal.invariant_of-seat
invariant_of-seat g c =
    let s = c.args.seat.now in
    let r = subst IsAtRest (sym c.split_seat-given.ensures.2) (left_rests s.seat.me record { idle = s.idle; free = s.free; settled = s.settled; some = s.some; distinct = s.distinct; single = s.single } c.requires.share) in
    record { idle = r.idle; free = r.free; settled = r.settled; some = r.some; distinct = r.distinct; single = r.single }

pub returns-clause-share : goal.returns-clause-share
returns-clause-share g c =
    let s = c.args.seat.now in (
      ap (λ m. length m.0.authors + 1) c.split_seat-given.ensures.2 ∙ split_shares s.seat.me.0.authors s.some s.distinct,
      ap (λ m. length m.0.authors) c.split_seat-given.ensures.4,
    )

pub returns-clause-own : goal.returns-clause-own
returns-clause-own g c =
    let s = c.args.seat.now in
    let author = g.B.Chronicle.author in (
      ap (λ m. entries_by author m.0.authors m.0.seen) c.split_seat-given.ensures.2 ∙ split_entries author s.seat.me.0.authors s.seat.me.0.seen s.some c.requires.fresh,
      ap (λ m. entries_by author m.0.authors m.0.seen) c.split_seat-given.ensures.4 ∙ c.requires.fresh,
    )
