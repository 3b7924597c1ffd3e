use Rattle.std.proofs.Common.{◌≡◌, ◌-◌, ◌≤◌, length}
use Rattle.grid_text.specs.inside.Reading.{cells_from}
use Rattle.text_base.specs.Tokens.{tokens_left}
use Rattle.grid_text.proofs.CellLaws.{before}
use Rattle.grid_text.proofs.cells.read_cells.Given as goal

-- the cells so far and those that the rest writes are those of the text
abbrev pub invariant-loop : goal.invariant-loop
invariant-loop l = record {
  same : before l.cells.items (cells_from l.kind l.nodata l.text_len (l.count - l.counter) (tokens_left l.text_len l.rest)) ≡ cells_from l.kind l.nodata l.text_len l.count (tokens_left l.text_len l.bytes);
  within : length l.rest ≤ l.text_len;
}
