use Rattle.std.proofs.Common.{rules}
use Rattle.std.specs.Prelude.{nat_lt}
use Rattle.std.proofs.lemmas.List.Sorted.{IsPartitionPoint-from_clause}
use Rattle.time_series.proofs.Search.{steps_first}
use Rattle.time_series.proofs.series.count_before.Goals as goal

pub returns-clause-point : goal.returns-clause-point
returns-clause-point c = IsPartitionPoint-from_clause (λ row. nat_lt row.step c.args.step) c.args.rows.now c.partition_point.result c.partition_point.ensures.partitioned (steps_first c.args.rows.now c.args.step c.requires) (λ a r f called. search rules)
