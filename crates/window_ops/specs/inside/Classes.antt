-- What is asked of the classes in a window, and how often they stand there.
use Rattle.std.specs.Prelude.{◌≡◌, ℕ, ◌+◌, ◌-◌, ◌*◌, ◌<◌, ℤ, List, Some, cond, ◌==◌, ◌&&◌, ◌||◌, nat_lt, int_lt, unwrap_or, if◌then◌else◌}
use Rattle.std.specs.HashMap.{HashMap, get}
use Rattle.std.specs.Ordering.{int_eq}
use Rattle.cell_values.specs.declared.cell.Cell.{Cell}
use Rattle.cell_values.specs.declared.cell.Cell.TheVariants.{Mv, Val}
use Rattle.tile_map.specs.Cuts.{cell_at}
use Rattle.window_ops.specs.declared.counts.Ranked.{Ranked}
use Rattle.window_ops.specs.declared.strip.Strip.{Strip}
use Rattle.region_meaning.specs.declared.window.WindowOp.{WindowOp}
use Rattle.region_meaning.specs.declared.window.WindowOp.TheVariants.{Diversity, Majority}
use Rattle.window_ops.specs.declared.classes.Classed.{Classed}
use Rattle.window_ops.specs.declared.classes.Classed.TheVariants.{Different, MostFrequent}
use Rattle.window_ops.specs.inside.Outcomes.{over}

-- the operation that asks for it
abbrev pub class_op_of : Classed → WindowOp
class_op_of Different = Diversity
class_op_of MostFrequent = Majority

-- how often a class stands there by a map of counts: 0 where there is none
abbrev pub class_count : {S : Type 0} → HashMap ℤ ℕ S → ℤ → ℕ
class_count counts class = unwrap_or (get int_eq counts class) 0

-- each class that has a count stands there
abbrev pub AreSome : {S : Type 0} → HashMap ℤ ℕ S → Type 0
AreSome counts = (class : ℤ) (count : ℕ) → get int_eq counts class ≡ Some count → 0 < count

-- how often a class stands in one cell
abbrev pub class_in_cell : ℤ → Cell → ℕ
class_in_cell class Mv = 0
class_in_cell class (Val value) = cond (int_eq value class) 1 0

-- how often a class stands in a column from a row on to before another one, in a map of so many columns
abbrev pub class_in_column : ℕ → List Cell → ℤ → ℕ → ℕ → ℕ → ℕ
class_in_column cols cells class top bottom col =
    over ◌+◌ 0 (λ row. class_in_cell class (cell_at cells (row * cols + col))) top (bottom - top)

-- the counts of a strip are those of its rows and its columns
pub record IsStrip (cells : List Cell) (cols : ℕ) (strip : Strip) : Type 0 where
  pub each : (class : ℤ) → class_count strip.counts class ≡
      over ◌+◌ 0 (class_in_column cols cells class strip.top strip.bottom) strip.from (strip.to - strip.from)
  pub some : AreSome strip.counts

-- the one of two values that is the more frequent one, or the less one of two that are as frequent
abbrev pub first_ranked : Ranked → Ranked → Ranked
first_ranked a b = if nat_lt a.count b.count || ((b.count == a.count) && int_lt b.value a.value) then b else a
