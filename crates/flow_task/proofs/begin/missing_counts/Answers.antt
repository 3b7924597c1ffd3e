use Rattle.std.proofs.Common.{◌≡◌, ◌∙◌, ◌++◌, ℕ, List, ap, arith, length}
use Rattle.tile_map.specs.declared.rect.Rect.{Rect}
use Rattle.tile_map.specs.Rects.{place_in}
use Rattle.drain_meaning.specs.declared.op.Orient.{Orient}
use Rattle.border_channel.specs.Edges.{fed_by}
use Rattle.flow_task.specs.inside.Begins.{missing_first, tile_place_of, turned_round}
use Rattle.flow_task.proofs.Within.{fed_few, over_more}
use Rattle.flow_task.proofs.begin.missing_counts.Goals as goal

pub loop-cell-preserved : goal.loop-cell-preserved
loop-cell-preserved c =
    let m = c.args.drain.now in
    let place : c.place.result ≡ tile_place_of c.args.tiling.now c.args.tile c.loop-cell.cell = c.place.ensures.value ∙ ap (λ (r : Rect). place_in c.args.tiling.now.cols r c.loop-cell.cell) c.requires.rect in
    let grown : c.push_fed.new.into.items ≡ c.clear.new.self.items ++ fed_by c.turned_round.result m c.place.result = c.in_ok-push_fed.ensures in
    let fed : c.push_fed.new.into.items ≡ fed_by c.turned_round.result m c.place.result = grown ∙ ap (λ (y : List ℕ). y ++ fed_by c.turned_round.result m c.place.result) c.clear.ensures.items in
    let len : c.len.result ≡ length c.push_fed.new.into.items = omega arith in
    over_more (missing_first c.args.orient m c.args.tiling.now c.args.tile) c.loop-cell.cell _ c.loop-cell.missing.items c.push.new.self.items c.loop-cell.invariant
    (len ∙ (ap length fed ∙ (ap (λ (o : Orient). length (fed_by o m c.place.result)) c.turned_round.ensures ∙ ap (λ (p : ℕ). length (fed_by (turned_round c.args.orient) m p)) place)))
    c.in_ok-push.ensures.items

pub overflow_cast-len : goal.overflow_cast-len
overflow_cast-len c =
    let m = c.args.drain.now in
    let grown : c.push_fed.new.into.items ≡ c.clear.new.self.items ++ fed_by c.turned_round.result m c.place.result = c.in_ok-push_fed.ensures in
    let fed : c.push_fed.new.into.items ≡ fed_by c.turned_round.result m c.place.result = grown ∙ ap (λ (y : List ℕ). y ++ fed_by c.turned_round.result m c.place.result) c.clear.ensures.items in
    let few = fed_few c.turned_round.result m c.requires.drain c.place.result in
    let len : c.len.result ≡ length c.push_fed.new.into.items = omega arith in
    let many : c.len.result ≡ length (fed_by c.turned_round.result m c.place.result) = len ∙ ap length fed in
    omega (arith, few, many)
