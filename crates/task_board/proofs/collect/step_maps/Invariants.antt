use Rattle.std.proofs.Common.{◌≡◌, ◌+◌, ◌++◌, List, take}
use Rattle.tile_map.specs.Tiles.{tile_count}
use Rattle.map_meaning.specs.Maps.{WholeMap}
use Rattle.map_meaning.specs.Spans.{kept_maps}
use Rattle.task_graph.specs.Counts.{tasks_of}
use Rattle.task_board.specs.inside.Collected.{HaveTiles}
use Rattle.task_board.proofs.collect.step_maps.Given as goal

abbrev pub invariant-loop-k : goal.invariant-loop-k
invariant-loop-k l = record {
  next : l.task ≡ l.start + tasks_of (tile_count l.tiling) (take l.k l.operations);
  maps : (maps : List WholeMap) → HaveTiles l.tiling l.tiles l.start l.number maps l.operations → l.into ≡ l.fn.into ++ kept_maps l.step maps l.number (take l.k l.operations);
}
