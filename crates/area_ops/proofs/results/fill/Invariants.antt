use Rattle.std.proofs.Common.{◌≡◌, ℕ}
use Rattle.tile_map.specs.Args.{arg_cell}
use Rattle.tile_map.specs.Parts.{first_over, or_missing, tabulate}
use Rattle.area_ops.specs.inside.Leaders.{AreKnown, place_result}
use Rattle.area_ops.proofs.results.fill.Given as goal

-- the cells and the first Over of the places so far
abbrev pub invariant-loop-place : goal.invariant-loop-place
invariant-loop-place l =
    let outcome = λ (place : ℕ). place_result l.results.entries (arg_cell l.classes place) in
    record {
      cells : l.cells.items ≡ tabulate (λ place. or_missing (outcome place)) l.place;
      known : AreKnown l.results.entries l.known;
      over : l.over ≡ first_over outcome l.place;
    }
