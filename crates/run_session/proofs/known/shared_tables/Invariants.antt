use Rattle.std.proofs.Common.{◌≡◌, take}
use Rattle.run_session.proofs.known.shared_tables.Given as goal

-- those so far
abbrev pub invariant-loop-table : goal.invariant-loop-table
invariant-loop-table l = l.all ≡ take l.table-index l.tables
