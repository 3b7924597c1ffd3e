use Rattle.std.proofs.Common.{subst, ap}
use Rattle.cell_values.specs.declared.kind.Kind.{Kind}
use Rattle.cell_values.specs.Kinds.{IsCell}
use Rattle.time_series.specs.Form.{SeriesValue}
use Rattle.time_series.proofs.Search.{value_cell}
use Rattle.time_series.proofs.series.Series.value.Goals as goal

pub returns-in-Some-clause-cell : goal.returns-in-Some-clause-cell
returns-in-Some-clause-cell c =
    subst (λ (k : Kind). IsCell k c.cell_in_column.result) (ap (λ (s : SeriesValue). s.kind) c.self.view_is)
    (value_cell c.self.inside.kind _ c.as_slice.result.now c.self.inside.rows.items c.in-Some.row.now c.as_slice-in-Some.result.now _ c.cell_in_column.result c.as_slice.ensures.value c.self.invariant.cells c.in-Some.ensures c.as_slice-in-Some.ensures c.cell_in_column.ensures)
