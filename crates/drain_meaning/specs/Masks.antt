-- The part of a drain map that a mask keeps.
use Rattle.std.specs.Prelude.{ℕ, pos, Bool, true, false, ◌&&◌, length, map, if◌then◌else◌}
use Rattle.std.specs.List.{range_with_len}
use Rattle.std.specs.Ordering.{int_eq}
use Rattle.cell_values.specs.declared.cell.Cell.{Cell}
use Rattle.cell_values.specs.declared.cell.Cell.TheVariants as cell
use Rattle.tile_map.specs.Cuts.{cell_at}
use Rattle.drain_meaning.specs.declared.next.Next.{Next}
use Rattle.drain_meaning.specs.declared.next.Next.TheVariants as next
use Rattle.drain_meaning.specs.Drains.{DrainMap, next_at}

-- a boolean is 1
abbrev pub is_chosen : Cell → Bool
is_chosen cell.Mv = false
is_chosen (cell.Val number) = int_eq number (pos 1)

-- there is a direction, if only that of a pit
abbrev pub leads_on : Next → Bool
leads_on next.Pit = true
leads_on (next.Cell d) = true
leads_on next.Outside = true
leads_on next.Missing = false

-- a cell is kept: it has a direction, and the mask is 1 there
abbrev pub is_kept : DrainMap → (ℕ → Cell) → ℕ → Bool
is_kept m mask c = leads_on (next_at m c) && is_chosen (mask c)

-- a pit's code
abbrev pub pit_code : Cell
pit_code = cell.Val (pos 5)

-- the code of a kept cell: a pit's where the cell that it drained into is not kept, and else as before
abbrev pub kept_code : DrainMap → (ℕ → Cell) → Cell → Next → Cell
kept_code m mask code (next.Cell d) = if is_kept m mask d then code else pit_code
kept_code m mask code next.Pit = code
kept_code m mask code next.Outside = code
kept_code m mask code next.Missing = code

-- the code at a place of the masked map: missing where the cell is not kept
abbrev pub masked_code : DrainMap → (ℕ → Cell) → ℕ → Cell
masked_code m mask c = if is_kept m mask c then kept_code m mask (cell_at m.codes c) (next_at m c) else cell.Mv

-- `lddmask`: the part of a drain map that a mask keeps
unfoldable pub lddmask_of : DrainMap → (ℕ → Cell) → DrainMap
lddmask_of m mask =
    record { rows = m.rows; cols = m.cols; codes = map (masked_code m mask) (range_with_len 0 (length m.codes)) }
