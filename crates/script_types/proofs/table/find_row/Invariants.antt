use Rattle.std.proofs.Common.{◌≡◌, ◌&&◌, drop}
use Rattle.std.specs.List.{find}
use Rattle.map_meaning.specs.Table.{takes}
use Rattle.script_types.specs.Table.{is_spelled}
use Rattle.script_types.proofs.table.find_row.Given as goal

abbrev pub invariant-loop-row : goal.invariant-loop-row
invariant-loop-row l = find (λ row. is_spelled row l.word && takes row l.count) (drop l.row-index l.rows) ≡ find (λ row. is_spelled row l.word && takes row l.count) l.rows
