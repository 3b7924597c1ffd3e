use Rattle.std.proofs.Common.{◌≡◌, ◌*◌}
use Rattle.region_meaning.specs.declared.area.AreaOp.TheVariants.{Average}
use Rattle.timed_calls.proofs.tasks.merge_round.Given as goal

-- the total is an average of the cells of the tiles before
abbrev pub invariant-loop-tile : goal.invariant-loop-tile
invariant-loop-tile g l = record {
  op : l.total.op ≡ Average;
  cells : l.total.cells ≡ l.tile * 4096;
}
