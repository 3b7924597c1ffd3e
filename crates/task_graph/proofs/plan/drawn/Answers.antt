use Rattle.std.proofs.Common.{arith, ◌≡◌, ◌∙◌, ℕ, ap, subst, refl}
use Rattle.tile_map.specs.Tiles.{tile_count}
use Rattle.tile_map.proofs.TileLemmas.{count_few}
use Rattle.task_graph.specs.Layouts.{firsts_from}
use Rattle.task_graph.specs.Plans.{entries_of}
use Rattle.task_graph.specs.inside.Grown.{IsDrawn}
use Rattle.task_graph.proofs.HeldLemmas.{can_lay, drawn_small, entries_same, few_laid, some_tiles}
use Rattle.task_graph.proofs.plan.drawn.Goals as goal

pub firsts-requires-clause-tiles : goal.firsts-requires-clause-tiles
firsts-requires-clause-tiles c = omega (arith, count_few c.args.tiling.now, c.count.ensures)

pub firsts-requires-clause-few : goal.firsts-requires-clause-few
firsts-requires-clause-few c = few_laid c.args.program.now c.args.span c.args.tiling.now c.count.result c.args.operations.now c.count.ensures c.requires.operations c.requires.few

pub draw-requires-clause-some : goal.draw-requires-clause-some
draw-requires-clause-some c = some_tiles c.args.tiling.now

pub draw-requires-clause-few : goal.draw-requires-clause-few
draw-requires-clause-few c = few_laid c.args.program.now c.args.span c.args.tiling.now (tile_count c.args.tiling.now) c.args.operations.now refl c.requires.operations c.requires.few

pub draw-requires-clause-can : goal.draw-requires-clause-can
draw-requires-clause-can c =
    can_lay c.args.program.now c.args.span c.args.tiling.now c.len.result c.in_ok-firsts.field-0 c.args.operations.now c.requires.program c.requires.span c.requires.few
    c.len.ensures
    (c.in_ok-firsts.ensures ∙ (ap (λ (n : ℕ). firsts_from n 0 c.args.operations.now) c.count.ensures ∙ ap (firsts_from (tile_count c.args.tiling.now) 0) c.requires.operations))
    c.requires.operations

pub returns : goal.returns
returns c =
    let program = c.args.program.now in
    let g = c.args.tiling.now in
    let same : _ ≡ entries_of program c.args.span g =
    entries_same program c.args.span g c.len.result c.in_ok-firsts.field-0 c.args.operations.now c.len.ensures
    (c.in_ok-firsts.ensures ∙ (ap (λ (n : ℕ). firsts_from n 0 c.args.operations.now) c.count.ensures ∙ ap (firsts_from (tile_count g) 0) c.requires.operations))
    c.requires.operations in
    let is : IsDrawn c.in_ok-drawn.drawn (entries_of program c.args.span g) = subst (IsDrawn c.in_ok-drawn.drawn) same c.in_ok-drawn.ensures in
    record { drawn = is; small = drawn_small program c.args.span g c.in_ok-drawn.drawn c.requires.program c.requires.span c.requires.few is }
