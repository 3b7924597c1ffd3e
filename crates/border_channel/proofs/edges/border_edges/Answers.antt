use Rattle.std.proofs.Common.{◌≡◌, ◌*◌, ◌/◌, ℕ, arith, length, ap, ◌∙◌}
use Rattle.border_channel.specs.Edges.{border_edges_of, edges_below}
use Rattle.border_channel.proofs.InsideLemmas.{all_rows}
use Rattle.border_channel.proofs.edges.border_edges.Goals as goal

pub returns : goal.returns
unfolding border_edges_of
returns c =
    let m = c.args.drain.now in
    let g = c.args.tiling.now in
    let all = all_rows m g c.cells.ensures.sound c.requires g.sides.some_cols in
    let value : length c.cells.result.now ≡ length m.codes = ap length c.cells.ensures.value in
    let rows : c.loop-row.row ≡ g.rows = omega (arith, c.loop-row-test.false, c.loop-row.auto.row-end, ap (λ (y : ℕ). y / g.cols) value, all.0) in
    let places : c.loop-row.row * g.cols ≡ length m.codes = ap (λ (y : ℕ). y * g.cols) rows ∙ all.1 in
    c.loop-row.invariant ∙ ap (edges_below m g c.args.orient) places
