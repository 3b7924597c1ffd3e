use Rattle.std.proofs.Common.{arith}
use Rattle.tile_map.specs.Tiles.{rect_of}
use Rattle.tile_map.proofs.TileLemmas.{top_below, left_below, rect_inside, rect_some, sides_few}
use Rattle.tile_map.proofs.tiling.Tiling.rect.Goals as goal

pub overflow_mul-top : goal.overflow_mul-top
overflow_mul-top c =
    let few = sides_few c.args.self.now in
    let top = top_below c.args.self.now c.args.tile c.requires in
    rw c.across-across.ensures (omega arith)

pub overflow_mul-left : goal.overflow_mul-left
overflow_mul-left c =
    let few = sides_few c.args.self.now in
    let left = left_below c.args.self.now c.args.tile in
    rw c.across-across.ensures (omega arith)

pub overflow_sub-self : goal.overflow_sub-self
overflow_sub-self c = let top = top_below c.args.self.now c.args.tile c.requires in rw c.across-across.ensures (omega arith)

pub overflow_sub-self-2 : goal.overflow_sub-self-2
overflow_sub-self-2 c = let left = left_below c.args.self.now c.args.tile in rw c.across-across.ensures (omega arith)

pub returns-clause-inside : goal.returns-clause-inside
unfolding rect_of
returns-clause-inside c = rw (c.min.ensures, c.min-2.ensures, c.across-across.ensures) (rect_inside c.args.self.now c.args.tile c.requires)

pub returns-clause-some : goal.returns-clause-some
unfolding rect_of
returns-clause-some c = rw (c.min.ensures, c.min-2.ensures, c.across-across.ensures) (rect_some c.args.self.now c.args.tile c.requires)
