use Rattle.std.proofs.Common.{◌≡◌, ℕ}
use Rattle.tile_map.specs.Parts.{first_over, or_missing, tabulate}
use Rattle.drain_ops.specs.inside.Cutout.{flow_within}
use Rattle.drain_ops.proofs.near.inner_part.Given as goal

-- the cells and the first Over of the places so far
abbrev pub invariant-loop-i : goal.invariant-loop-i
invariant-loop-i l =
    let outcome = flow_within l.around l.codes l.flows l.inner in
    record {
      cells : l.results.items ≡ tabulate (λ (place : ℕ). or_missing (outcome place)) l.i;
      over : l.over ≡ first_over outcome l.i;
    }
