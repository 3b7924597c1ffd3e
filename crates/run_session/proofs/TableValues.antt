-- What a table's text gives.
use Rattle.std.proofs.Common.{ℕ, List, [], ◌∷◌}
use Rattle.std.specs.Prelude.{All}
use Rattle.std.specs.List.{AllZip}
use Rattle.std.proofs.lemmas.List.Elements.{All-cons, All-nil}
use Rattle.text_base.specs.Lines.{Line}
use Rattle.cell_values.specs.declared.kind.Kind.{Kind}
use Rattle.cell_values.specs.Kinds.{IsValue}
use Rattle.cell_values.proofs.Readings.{value-from_cell}
use Rattle.lookup_table.specs.Form.{IsTableRow, TableRow}

-- the results of rows that are read are values of the kind
pub results_fit : (keys : ℕ) (kind : Kind) (lines : List Line) (rows : List TableRow) → AllZip (λ line row. IsTableRow keys kind line.bytes row) lines rows → All (λ row. IsValue kind row.result) rows
results_fit keys kind [] [] all = All-nil (λ row. IsValue kind row.result)
results_fit keys kind [] (r ∷ rows) all = absurd all
results_fit keys kind (l ∷ lines) [] all = absurd all
results_fit keys kind (l ∷ lines) (r ∷ rows) all =
    let read = value-from_cell kind all.0.result_column r.result all.0.result in
    All-cons (λ row. IsValue kind row.result) r rows read.2.value (results_fit keys kind lines rows all.1)
