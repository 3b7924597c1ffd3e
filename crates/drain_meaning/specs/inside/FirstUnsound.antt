-- The first unsound place of a drain map, by following the directions from each place.
use Rattle.std.specs.Prelude.{ℕ, zero, suc, Bool, true, false, not, ◌&&◌, length, Option}
use Rattle.std.specs.List.{find, range_with_len}
use Rattle.drain_meaning.specs.declared.next.Next.{Next}
use Rattle.drain_meaning.specs.declared.next.Next.TheVariants as next
use Rattle.drain_meaning.specs.Drains.{DrainMap, next_at}
use Rattle.drain_meaning.specs.Masks.{leads_on}

-- a direction is a pit's, or leads to a cell that passes a test
abbrev pub is_pit_or : (ℕ → Bool) → Next → Bool
is_pit_or test next.Pit = true
is_pit_or test (next.Cell d) = test d
is_pit_or test next.Outside = false
is_pit_or test next.Missing = false

-- a path of so many cells at most leads from the cell to a pit
abbrev pub comes_to_pit : DrainMap → ℕ → ℕ → Bool
comes_to_pit m zero c = false
comes_to_pit m (suc most) c = is_pit_or (comes_to_pit m most) (next_at m c)

-- the cell has a direction, and no path that is no longer than there are cells
abbrev pub fails_at : DrainMap → ℕ → Bool
fails_at m c = leads_on (next_at m c) && not (comes_to_pit m (length m.codes) c)

-- the first place of a drain map whose path fails, if there is one
unfoldable pub first_unsound : DrainMap → Option ℕ
first_unsound m = find (fails_at m) (range_with_len 0 (length m.codes))
