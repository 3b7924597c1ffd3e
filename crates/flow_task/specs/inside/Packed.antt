-- Cells by their numbers. Words of private contracts.
use Rattle.std.specs.Prelude.{ℤ, negsuc, if◌then◌else◌}
use Rattle.std.specs.Ordering.{int_eq}
use Rattle.cell_values.specs.declared.cell.Cell.{Cell}
use Rattle.cell_values.specs.declared.cell.Cell.TheVariants.{Mv, Val}

-- the number that is kept of a missing cell: the least of 64 bits, below all scalars
abbrev pub kept_missing : ℤ
kept_missing = negsuc 9223372036854775807

-- the number that is kept of a cell
abbrev pub packed_number : Cell → ℤ
packed_number Mv = kept_missing
packed_number (Val n) = n

-- the cell of which a number is kept
abbrev pub unpacked_cell : ℤ → Cell
unpacked_cell n = if int_eq n kept_missing then Mv else Val n
