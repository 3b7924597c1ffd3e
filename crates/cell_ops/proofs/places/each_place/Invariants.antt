use Rattle.std.proofs.Common.{◌≡◌, ℕ}
use Rattle.tile_map.specs.Parts.{first_over, or_missing, tabulate}
use Rattle.cell_ops.proofs.places.each_place.Given as goal

-- the cells and the first Over of the places so far
abbrev pub invariant-loop-place : goal.invariant-loop-place
invariant-loop-place g l =
    let outcome = λ (place : ℕ). g.R.CellRule.rule l.rule (g.A.Shape.cell l.a place) (g.B.Shape.cell l.b place) (g.C.Shape.cell l.c place) (g.D.Shape.cell l.d place) in
    record {
      cells : l.cells.items ≡ tabulate (λ place. or_missing (outcome place)) l.place;
      over : l.over ≡ first_over outcome l.place;
    }
