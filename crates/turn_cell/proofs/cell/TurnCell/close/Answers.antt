use Rattle.std.proofs.Common.{◌≡◌, ◌∙◌, Some, length, ap, refl, subst, sym, arith}
use Rattle.std.specs.Option.{IsSome}
use Rattle.turn_cell.specs.inside.Views.{boxed}
use Rattle.turn_cell.proofs.SeatLemmas.{IsAtRest, finds_same, unboxed}
use Rattle.turn_cell.proofs.StepLemmas.{closes_with}
use Rattle.turn_cell.proofs.cell.TurnCell.close.Goals as goal

pub unwrap-requires : goal.unwrap-requires
unwrap-requires g c =
    let s = c.args.seat in
    let i = c.into_inner.ensures in
    let r = subst (λ x. IsAtRest x.me) (sym i) record { idle = s.idle; free = s.free; settled = s.settled; some = s.some; distinct = s.distinct; single = s.single } in
    let k = closes_with _ _ _ _ _ _ _ _ _ _ r.some r.free r.settled (ap (λ x. length x.me.0.authors) i ∙ c.requires.all) c.close_with-closed.ensures.values.2 c.take-slot.ensures.value in
    subst IsSome (sym k.1) refl

pub returns-clause-met : goal.returns-clause-met
returns-clause-met g c =
    let b = g.B.Chronicle in
    let s = c.args.seat in
    let i = c.into_inner.ensures in
    let r = subst (λ x. IsAtRest x.me) (sym i) record { idle = s.idle; free = s.free; settled = s.settled; some = s.some; distinct = s.distinct; single = s.single } in
    let k = closes_with _ _ _ _ _ _ _ _ _ _ r.some r.free r.settled (ap (λ x. length x.me.0.authors) i ∙ c.requires.all) c.close_with-closed.ensures.values.2 c.take-slot.ensures.value in
    let two : Some k.0 ≡ Some c.unwrap.result = sym k.1 ∙ c.unwrap.ensures in
    let same : k.0 ≡ c.unwrap.result = cc in
    let may = unboxed b.plan b.history b.author _ c.unwrap.result _ c.into_inner-2.ensures (finds_same (boxed b.plan) (boxed b.history) b.author _ _ _ _ (ap (λ x. x.me.0) i) same k.2) in
    record { planned = may.planned; begins = may.begins; own = may.own }

pub returns-clause-history : goal.returns-clause-history
returns-clause-history g c =
    let b = g.B.Chronicle in
    let s = c.args.seat in
    let i = c.into_inner.ensures in
    let r = subst (λ x. IsAtRest x.me) (sym i) record { idle = s.idle; free = s.free; settled = s.settled; some = s.some; distinct = s.distinct; single = s.single } in
    let k = closes_with _ _ _ _ _ _ _ _ _ _ r.some r.free r.settled (ap (λ x. length x.me.0.authors) i ∙ c.requires.all) c.close_with-closed.ensures.values.2 c.take-slot.ensures.value in
    let two : Some k.0 ≡ Some c.unwrap.result = sym k.1 ∙ c.unwrap.ensures in
    let same : k.0 ≡ c.unwrap.result = cc in
    ap b.history c.into_inner-2.ensures ∙ (sym (ap (boxed b.history) same) ∙ (k.3 ∙ ap (λ x. x.me.0.seen) i))
