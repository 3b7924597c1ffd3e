use Rattle.std.proofs.Common.{arith}
use Rattle.tile_map.specs.Tiles.{tile_at}
use Rattle.tile_map.proofs.TileLemmas.{tile_below, tile_holds, tile_only, count_few}
use Rattle.tile_map.proofs.tiling.Tiling.tile_of.Goals as goal

pub overflow_mul-result : goal.overflow_mul-result
unfolding tile_at
overflow_mul-result c =
    let few = count_few c.args.self.now in
    let below = tile_below c.args.self.now c.args.place c.requires in
    rw c.across.ensures (omega arith)

pub overflow_add-result : goal.overflow_add-result
unfolding tile_at
overflow_add-result c =
    let few = count_few c.args.self.now in
    let below = tile_below c.args.self.now c.args.place c.requires in
    rw c.across.ensures (omega arith)

pub returns-clause-below : goal.returns-clause-below
unfolding tile_at
returns-clause-below c = rw c.across.ensures (tile_below c.args.self.now c.args.place c.requires)

pub returns-clause-holds : goal.returns-clause-holds
unfolding tile_at
returns-clause-holds c = rw c.across.ensures (tile_holds c.args.self.now c.args.place c.requires)

pub returns-clause-only : goal.returns-clause-only
unfolding tile_at
returns-clause-only c = λ tile holds. rw c.across.ensures (tile_only c.args.self.now c.args.place tile holds)
