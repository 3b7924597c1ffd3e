use Rattle.std.proofs.Common.{◌≡◌, ◌<◌, ◌∙◌, ap, refl, subst, sym}
use Rattle.turn_cell.proofs.SeatLemmas.{IsAtRest, opening_rests}
use Rattle.turn_cell.proofs.StepLemmas.{opens_with}
use Rattle.turn_cell.proofs.cell.TurnCell.make.Goals as goal

pub new-requires : goal.new-requires
new-requires g c =
    let b = g.B.Chronicle in
    let about = c.of-about.ensures in
    let made = c.in_ok-slots.ensures.made in
    opens_with _ _ _ _ _ _ made.0 made.1 (ap b.history made.2 ∙ c.requires.empty) (ap b.plan made.2 ∙ ap b.plan (sym about.0)) (subst (λ k. 0 < k) (sym about.1) c.requires.seats)

pub only-requires : goal.only-requires
only-requires g c = let made = c.in_ok-slots.ensures.made in (made.0, c.in-Err.ensures.err ∙ made.1)

pub invariant_of-result-in-Ok : goal.invariant_of-result-in-Ok
invariant_of-result-in-Ok g c =
    let about = c.of-about.ensures in
    let r = subst IsAtRest (sym c.in-Ok.ensures.ok.4) (opening_rests _ _ (subst (λ k. 0 < k) (sym about.1) c.requires.seats)) in
    record { idle = r.idle; free = r.free; settled = r.settled; some = r.some; distinct = r.distinct; single = r.single }
