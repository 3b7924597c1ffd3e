use Rattle.std.proofs.Common.{rules, int_le}
use Rattle.std.proofs.lemmas.List.Sorted.{IsPartitionPoint-from_clause}
use Rattle.lookup_table.proofs.SortedRows.{started_first}
use Rattle.lookup_table.proofs.table.count_started.Goals as goal

pub returns-clause-point : goal.returns-clause-point
returns-clause-point c = IsPartitionPoint-from_clause (λ row. int_le row.a.first c.args.number) c.args.rows.now c.partition_point.result c.partition_point.ensures.partitioned (started_first c.args.rows.now c.args.number c.requires) (λ a r f called. search rules)
