use Rattle.std.proofs.Common.{arith}
use Rattle.tile_map.proofs.TileLemmas.{count_few}
use Rattle.tile_map.proofs.tiling.Tiling.count.Goals as goal

pub overflow_mul-result : goal.overflow_mul-result
overflow_mul-result c = let few = count_few c.args.self.now in rw (c.down.ensures, c.across.ensures) (omega arith)
