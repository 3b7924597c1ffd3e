use Rattle.std.proofs.Common.{◌≡◌, ℕ, length}
use Rattle.cell_values.specs.Kinds.{IsCell}
use Rattle.cell_values.specs.declared.kind.Kind.TheVariants.{Ldd}
use Rattle.tile_map.specs.Cuts.{cell_at}
use Rattle.timed_calls.proofs.drains.codes.Given as goal

-- the codes so far
abbrev pub invariant-loop-place : goal.invariant-loop-place
invariant-loop-place l = record {
  many : length l.cells.items ≡ l.place;
  codes : (place : ℕ) → IsCell Ldd (cell_at l.cells.items place);
}
