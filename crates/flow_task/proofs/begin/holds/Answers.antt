use Rattle.std.proofs.Common.{arith, sym, subst}
use Rattle.tile_map.specs.Rects.{HoldsPlace}
use Rattle.tile_map.specs.declared.rect.Rect.{Rect}
use Rattle.flow_task.proofs.Within.{lies_out, lies_there}
use Rattle.flow_task.proofs.begin.holds.Goals as goal

pub returns-then-row-rect : goal.returns-then-row-rect
returns-then-row-rect c = lies_out c.args.tiling.now c.args.tile c.args.place c.requires.place (λ h.
    let held = subst (λ (r : Rect). HoldsPlace c.args.tiling.now.cols r c.args.place) (sym c.requires.rect) h in
    omega (arith, held.from_top, c.if-row-rect.true))

pub returns-then-col-rect : goal.returns-then-col-rect
returns-then-col-rect c = lies_out c.args.tiling.now c.args.tile c.args.place c.requires.place (λ h.
    let held = subst (λ (r : Rect). HoldsPlace c.args.tiling.now.cols r c.args.place) (sym c.requires.rect) h in
    omega (arith, held.from_left, c.if-col-rect.true))

pub returns-then-row-rect-2 : goal.returns-then-row-rect-2
returns-then-row-rect-2 c = lies_out c.args.tiling.now c.args.tile c.args.place c.requires.place (λ h.
    let held = subst (λ (r : Rect). HoldsPlace c.args.tiling.now.cols r c.args.place) (sym c.requires.rect) h in
    omega (arith, held.from_top, held.above_bottom, c.if-row-rect-2.true))

pub returns-then-col-rect-2 : goal.returns-then-col-rect-2
returns-then-col-rect-2 c = lies_out c.args.tiling.now c.args.tile c.args.place c.requires.place (λ h.
    let held = subst (λ (r : Rect). HoldsPlace c.args.tiling.now.cols r c.args.place) (sym c.requires.rect) h in
    omega (arith, held.from_left, held.before_right, c.if-col-rect-2.true))

pub returns : goal.returns
returns c =
    let held : HoldsPlace c.args.tiling.now.cols c.args.rect c.args.place = record {
      from_top = omega (arith, c.if-row-rect.false);
      above_bottom = omega (arith, c.if-row-rect.false, c.if-row-rect-2.false);
      from_left = omega (arith, c.if-col-rect.false);
      before_right = omega (arith, c.if-col-rect.false, c.if-col-rect-2.false);
    } in
    lies_there c.args.tiling.now c.args.tile c.args.place (subst (λ (r : Rect). HoldsPlace c.args.tiling.now.cols r c.args.place) c.requires.rect held)
