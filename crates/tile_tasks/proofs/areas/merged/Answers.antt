-- The partials of the tiles are taken in one by one.
use Rattle.std.proofs.Common.{◌≡◌, ◌<◌, ◌∙◌, ℕ, List, length, map, sym, arith}
use Rattle.std.specs.Arc.{arc_value}
use Rattle.std.proofs.lemmas.List.{length-map}
use Rattle.task_tiles.specs.declared.tile.Tile.{Tile}
use Rattle.tile_tasks.proofs.AreaTiles.{item_at, merging_all, merging_few, merging_more, merging_op}
use Rattle.tile_tasks.proofs.areas.merged.Goals as goal

pub loop-tile-init : goal.loop-tile-init
loop-tile-init c = record { op = c.in_ok-total.ensures.op; stands = λ f h are. c.in_ok-total.ensures.stands }

pub take_in-requires-clause-op : goal.take_in-requires-clause-op
take_in-requires-clause-op c =
    let ts : List Tile = map arc_value c.args.tiles.now in
    let i : ℕ = c.loop-tile.tile-index in
    let below : i < length ts = omega (arith, length-map c.args.tiles.now arc_value, c.loop-tile-test.true) in
    merging_op c.args.op c.args.tiling.now ts i c.loop-tile.total c.deref.result.now c.loop-tile.invariant c.requires below
    (c.deref.ensures ∙ sym (item_at arc_value c.args.tiles.now i c.tile-item.result c.tile-item.is c.loop-tile-test.true))

pub take_in-requires-clause-few : goal.take_in-requires-clause-few
take_in-requires-clause-few c =
    let ts : List Tile = map arc_value c.args.tiles.now in
    let i : ℕ = c.loop-tile.tile-index in
    let below : i < length ts = omega (arith, length-map c.args.tiles.now arc_value, c.loop-tile-test.true) in
    merging_few c.args.op c.args.tiling.now ts i c.loop-tile.total c.deref.result.now c.loop-tile.invariant c.requires below
    (c.deref.ensures ∙ sym (item_at arc_value c.args.tiles.now i c.tile-item.result c.tile-item.is c.loop-tile-test.true))

pub loop-tile-preserved : goal.loop-tile-preserved
loop-tile-preserved c =
    let ts : List Tile = map arc_value c.args.tiles.now in
    let i : ℕ = c.loop-tile.tile-index in
    let below : i < length ts = omega (arith, length-map c.args.tiles.now arc_value, c.loop-tile-test.true) in
    merging_more c.args.op c.args.tiling.now ts i c.loop-tile.total c.in_ok-total-2.total c.deref.result.now c.loop-tile.invariant below
    (c.deref.ensures ∙ sym (item_at arc_value c.args.tiles.now i c.tile-item.result c.tile-item.is c.loop-tile-test.true))
    c.in_ok-total-2.ensures.op c.in_ok-total-2.ensures.stands

pub returns-clause-op : goal.returns-clause-op
returns-clause-op c = c.loop-tile.invariant.op

pub returns-clause-stands : goal.returns-clause-stands
returns-clause-stands c = λ f h are.
    let ts : List Tile = map arc_value c.args.tiles.now in
    let i : ℕ = c.loop-tile.tile-index in
    let end : i ≡ length ts = omega (arith, length-map c.args.tiles.now arc_value, c.loop-tile-test.false, c.loop-tile.auto.tile-index-end) in
    merging_all c.args.op c.args.tiling.now ts i c.loop-tile.total c.loop-tile.invariant end f h are
