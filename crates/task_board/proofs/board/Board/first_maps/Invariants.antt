use Rattle.std.proofs.Common.{◌≡◌}
use Rattle.tile_map.specs.Tiles.{tile_count}
use Rattle.task_graph.specs.Layouts.{tasks_in}
use Rattle.task_board.specs.inside.Collected.{first_maps}
use Rattle.task_board.proofs.SpanTasks.{laid_before}
use Rattle.task_board.proofs.board.Board.first_maps.Given as goal

abbrev pub invariant-loop-n : goal.invariant-loop-n
invariant-loop-n g l = record {
  task : l.task ≡ tasks_in (tile_count l.self.plan.plan.tiling) (laid_before l.self.program l.self.plan.span l.n);
  maps : l.maps ≡ first_maps l.self.program l.self.plan.span l.self.known l.n;
}
