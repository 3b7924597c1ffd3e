use Rattle.std.proofs.Common.{◌≡◌, ◌<◌, ◌∙◌, inl, inr, sym, arith, length}
use Rattle.drain_meaning.specs.Drains.{next_at}
use Rattle.drain_meaning.specs.declared.next.Next.TheVariants as next
use Rattle.drain_meaning.proofs.Callers.{next_inside, path_leaves}
use Rattle.drain_check.specs.declared.walk.Mark.TheVariants.{Walked}
use Rattle.drain_check.specs.inside.Walks.{map_of, mark_at}
use Rattle.drain_check.proofs.Marks.{fails_from, from_step, goes_round, keeps_done, keeps_walked, underway_pit, underway_step}
use Rattle.drain_check.proofs.walk.walk_down.Goals as goal

pub loop-marks-preserved-in-Cell : goal.loop-marks-preserved-in-Cell
loop-marks-preserved-in-Cell c =
    let w : c.loop-marks.at < length c.loop-marks.marks = omega (arith, c.loop-marks.invariant.underway.size) in
    let n : next_at (map_of c.args.codes) c.loop-marks.at ≡ next.Cell c.in-Cell.down = sym c.in-Cell.ensures in
    rw c.in_ok-push-in-Cell.ensures.items (record {
      within = next_inside (map_of c.args.codes) c.requires.map c.loop-marks.at c.in-Cell.down n;
      underway = underway_step _ _ _ _ _ _ c.loop-marks.invariant.underway w c.in-Unseen.is n;
      keeps = keeps_walked _ _ _ w c.in-Unseen.is c.loop-marks.invariant.keeps;
      from = inr (from_step _ _ _ c.loop-marks.invariant.from);
    })

pub loop-marks-preserved : goal.loop-marks-preserved
loop-marks-preserved c =
    let w : c.loop-marks.at < length c.loop-marks.marks = omega (arith, c.loop-marks.invariant.underway.size) in
    let n : next_at (map_of c.args.codes) c.loop-marks.at ≡ next.Pit = sym c.in-Pit.ensures in
    rw c.in_ok-push-in-Pit.ensures.items (record {
      within = c.loop-marks.invariant.within;
      underway = underway_pit _ _ _ _ _ c.loop-marks.invariant.underway w c.in-Unseen.is n;
      keeps = keeps_done _ _ _ w c.loop-marks.invariant.keeps;
      from = c.loop-marks.invariant.from;
    })

pub returns-in-Outside : goal.returns-in-Outside
returns-in-Outside c =
    fails_from _ _ _ _ _ _ c.loop-marks.invariant.underway c.loop-marks.invariant.from (λ p. elim c.in-Outside.is as (λ _. ⊥) [
      | inl b ↦ path_leaves _ _ p (inl (sym c.next.ensures ∙ b))
      | inr b ↦ path_leaves _ _ p (inr (sym c.next.ensures ∙ b))
    ])

pub returns-in-Unseen-marks : goal.returns-in-Unseen-marks
returns-in-Unseen-marks c =
    let e : mark_at c.loop-marks.marks c.loop-marks.at ≡ Walked = elim c.in-Unseen-marks.is as (λ _. mark_at c.loop-marks.marks c.loop-marks.at ≡ Walked) [ inl b ↦ absurd (c.in_default.not-Unseen b) | inr b ↦ b ] in
    fails_from _ _ _ _ _ _ c.loop-marks.invariant.underway c.loop-marks.invariant.from (goes_round _ _ _ _ _ c.loop-marks.invariant.underway e)
