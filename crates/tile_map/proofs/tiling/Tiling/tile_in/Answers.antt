use Rattle.std.proofs.Common.{arith}
use Rattle.tile_map.specs.Rects.{place_in}
use Rattle.tile_map.proofs.MetLemmas.{in_grid}
use Rattle.tile_map.proofs.tiling.Tiling.tile_in.Goals as goal

pub overflow_add-result : goal.overflow_add-result
overflow_add-result c = let few = in_grid c.args.self.now c.args.met c.args.number c.requires.met c.requires.number in omega arith

pub overflow_mul-result : goal.overflow_mul-result
unfolding place_in
overflow_mul-result c = let few = in_grid c.args.self.now c.args.met c.args.number c.requires.met c.requires.number in rw c.across.ensures (omega arith)

pub overflow_add-result-3 : goal.overflow_add-result-3
unfolding place_in
overflow_add-result-3 c = let few = in_grid c.args.self.now c.args.met c.args.number c.requires.met c.requires.number in rw c.across.ensures (omega arith)
