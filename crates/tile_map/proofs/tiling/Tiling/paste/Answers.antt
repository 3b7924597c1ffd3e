use Rattle.std.proofs.Common.{arith, ◌≡◌, ◌∙◌, ◌+◌, ◌*◌, ℕ, take, ap, sym, subst, length}
use borrow.Rule.Slice.PartMut.{put_mid}
use Rattle.tile_map.specs.declared.rect.Rect.{Rect}
use Rattle.tile_map.specs.Rects.{cell_count}
use Rattle.tile_map.specs.Pastes.{IsPasted}
use Rattle.tile_map.proofs.PasteLemmas.{front, pastes_nothing, pastes_row, pastes_all}
use Rattle.tile_map.proofs.tiling.Tiling.paste.Goals as goal

pub loop-row-init : goal.loop-row-init
loop-row-init c = pastes_nothing c.args.self.now.cols c.rect-rect.result c.args.part.now c.args.into.now

pub loop-row-preserved : goal.loop-row-preserved
loop-row-preserved c =
    let g = c.args.self.now in
    let r = c.rect-rect.result in
    let start = c.row_start-start.result in
    let part_size : length c.args.part.now ≡ cell_count r = c.requires.part ∙ ap cell_count (sym c.rect-rect.ensures.value) in
    subst (λ (k : ℕ). IsPasted g.cols (front r (c.loop-row.row + 1)) (take ((c.loop-row.row + 1) * r.cols) c.args.part.now) c.args.into.now (put_mid start k c.loop-row.into c.copy_from_slice.new.self)) (omega arith)
    (pastes_row g.rows g.cols r c.args.part.now c.args.into.now c.loop-row.into c.copy_from_slice.new.self c.loop-row.row start
    c.rect-rect.ensures.inside c.loop-row-test.true (omega arith) part_size c.row_start-start.ensures.value c.copy_from_slice.ensures.after c.loop-row.invariant)

pub returns : goal.returns
returns c =
    let g = c.args.self.now in
    let r = c.rect-rect.result in
    let part_size : length c.args.part.now ≡ cell_count r = c.requires.part ∙ ap cell_count (sym c.rect-rect.ensures.value) in
    subst (λ (q : Rect). IsPasted g.cols q c.args.part.now c.args.into.now c.loop-row.into) c.rect-rect.ensures.value
    (pastes_all g.cols r c.args.part.now c.args.into.now c.loop-row.into c.loop-row.row (omega arith) part_size c.loop-row.invariant)
