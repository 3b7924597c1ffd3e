use Rattle.std.proofs.Common.{◌≡◌, ◌<◌, ◌+◌, ℕ, get_or}
use Rattle.cell_values.specs.inside.Parts.{row_digits, digit_behind}
use Rattle.cell_values.proofs.same.is_within.Given as goal

abbrev pub invariant-loop-i : goal.invariant-loop-i
invariant-loop-i l = (k : ℕ) → k < l.i → get_or (row_digits l.row) k 48 ≡ digit_behind (row_digits l.other) l.other_start (k + l.start)
