use Rattle.std.proofs.Common.{◌≡◌, ◌+◌, ◌%◌, ℕ, arith, subst}
use Rattle.border_channel.proofs.InsideLemmas.{next_starts, none_between}
use Rattle.border_channel.proofs.edges.push_sides.Goals as goal

pub push_ends-requires-clause-between : goal.push_ends-requires-clause-between
push_ends-requires-clause-between c =
    none_between c.args.drain.now c.args.tiling.now c.args.orient c.args.row c.loop-left.left c.min-right.result c.requires.size c.requires.above c.requires.below
    (c.loop-left.invariant.starts c.loop-left-test.true) (omega (arith, c.min-right.ensures)) (omega (arith, c.min-right.ensures))

pub loop-left-preserved : goal.loop-left-preserved
loop-left-preserved c =
    let t = c.args.tiling.now in
    record {
      high = omega (arith, c.min-right.ensures);
      starts = λ less.
          let next : c.loop-left.left + t.tile_cols ≡ c.min-right.result = omega (arith, c.min-right.ensures) in
          subst (λ (y : ℕ). y % t.tile_cols ≡ 0) next (next_starts c.loop-left.left t.tile_cols t.sides.some_tile_cols (c.loop-left.invariant.starts c.loop-left-test.true));
      items = c.in_ok-push_ends.ensures;
    }
