-- The whole map as one rectangle.
use Rattle.std.proofs.Common.{◌∙◌, ◌*◌, ap}
use Rattle.std.proofs.Math.Path.{fun_ext}
use Rattle.region_meaning.specs.Windows.{window_outcome}
use Rattle.tile_map.specs.Parts.{part_of}
use Rattle.plain_eval.proofs.Wholes.{around_whole, place_in-whole}
use Rattle.plain_eval.proofs.focal.whole_windows.Goals as goal

pub returns : goal.returns
returns c =
    let rows = c.args.rows in
    let cols = c.args.cols in
    let cells = c.args.cells.now in
    c.in_ok-part.ensures rows cols cells (around_whole rows cols c.args.k cells c.requires.cells)
    ∙ ap (λ f. part_of f (rows * cols)) (fun_ext (λ i. ap (window_outcome c.args.op rows cols c.args.k cells) (place_in-whole rows cols i)))
