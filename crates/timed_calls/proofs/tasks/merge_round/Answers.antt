use Rattle.std.proofs.Common.{◌≡◌, ◌∙◌, ℕ, ◌+◌, ◌*◌, ◌<◌, ◌≤◌, sym, arith}
use Rattle.timed_calls.proofs.tasks.merge_round.Goals as goal

-- the tiles together have no more cells than the map
few : (total share tile : ℕ) → total ≡ tile * 4096 → share ≡ 4096 → tile < 1024 → total + share ≤ 4194304
few total share tile before one below = omega (arith, before, one, below)

one_more : (both total share tile : ℕ) → both ≡ total + share → total ≡ tile * 4096 → share ≡ 4096 → both ≡ (tile + 1) * 4096
one_more both total share tile sum before one = omega (arith, sum, before, one)

pub with-requires-clause-op : goal.with-requires-clause-op
with-requires-clause-op g c = c.loop-tile.invariant.op ∙ sym c.in_ok-share.ensures.op

pub with-requires-clause-few : goal.with-requires-clause-few
with-requires-clause-few g c = few c.loop-tile.total.cells c.in_ok-share.share.cells c.loop-tile.tile c.loop-tile.invariant.cells c.in_ok-share.ensures.cells c.loop-tile-test.true

pub loop-tile-preserved : goal.loop-tile-preserved
loop-tile-preserved g c = record {
  op = c.in_ok-total-2.ensures.op ∙ c.loop-tile.invariant.op;
  cells = one_more c.in_ok-total-2.total.cells c.loop-tile.total.cells c.in_ok-share.share.cells c.loop-tile.tile c.in_ok-total-2.ensures.cells c.loop-tile.invariant.cells c.in_ok-share.ensures.cells;
}
