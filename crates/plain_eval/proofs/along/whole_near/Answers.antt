-- The whole map as one rectangle.
use Rattle.std.proofs.Common.{◌∙◌, ◌*◌, ℕ, ap}
use Rattle.std.proofs.Math.Path.{fun_ext}
use Rattle.drain_meaning.specs.Near.{near_outcome}
use Rattle.tile_map.specs.Cuts.{cell_at}
use Rattle.tile_map.specs.Parts.{part_of}
use Rattle.tile_map.specs.Rects.{place_in}
use Rattle.plain_eval.proofs.Wholes.{place_in-whole, surrounded, whole_rect}
use Rattle.plain_eval.proofs.along.whole_near.Goals as goal

pub near_part-requires : goal.near_part-requires
near_part-requires c = record {
  drains = c.args.drain.now;
  values = c.args.cells.now;
  around_it = surrounded c.args.drain.now c.args.cells.now c.cells.result.now c.rows.result c.cols.result c.cells.ensures.sound c.rows.ensures c.cols.ensures c.cells.ensures.value c.requires.cells c.requires.scalars;
}

pub returns : goal.returns
returns c =
    let m = c.args.drain.now in
    let values = c.args.cells.now in
    let of = λ (rows cols : ℕ). part_of (λ i. near_outcome c.args.op m (cell_at values) (place_in m.cols (whole_rect rows cols) i)) (rows * cols) in
    c.in_ok-part.ensures m values (surrounded m values c.cells.result.now c.rows.result c.cols.result c.cells.ensures.sound c.rows.ensures c.cols.ensures c.cells.ensures.value c.requires.cells c.requires.scalars)
    ∙ (ap (λ (rows : ℕ). of rows c.cols.result) c.rows.ensures
    ∙ (ap (λ (cols : ℕ). of m.rows cols) c.cols.ensures
    ∙ ap (λ f. part_of f (m.rows * m.cols)) (fun_ext (λ i. ap (near_outcome c.args.op m (cell_at values)) (place_in-whole m.rows m.cols i)))))
