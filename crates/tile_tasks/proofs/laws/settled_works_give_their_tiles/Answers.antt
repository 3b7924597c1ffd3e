-- The tile is that of the whole map's values.
use Rattle.tile_tasks.proofs.FlowMeanings.{give_their_tiles}
use Rattle.tile_tasks.proofs.laws.settled_works_give_their_tiles.Goals as goal

pub returns : goal.returns
returns c = give_their_tiles c.tiles_of_operations_are_cuts.ensures c.settled_tiles_are_right.ensures
