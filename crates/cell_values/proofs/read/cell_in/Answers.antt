use Rattle.std.proofs.Common.{ap, sym, ◌∙◌, rules, FitsSigned}
use Rattle.std.proofs.lemmas.Int.{to_z-of_z}
use mir.Syntax.{w128}
use Rattle.cell_values.specs.Decimal.{numerator, denominator}
use Rattle.cell_values.specs.inside.Parts.{decimal_with}
use Rattle.cell_values.specs.inside.Reading.{cell_read, cell_of_decimal, cell_taken, number_taken}
use Rattle.cell_values.proofs.Readings.{cell-ok, cell-over, beyond-cell}
use Rattle.cell_values.proofs.read.cell_in.Goals as goal

pub returns-in_default : goal.returns-in_default
unfolding cell_read
returns-in_default c = ap (cell_of_decimal c.args.kind) c.in_default.ensures

pub returns-in_default-value_in : goal.returns-in_default-value_in
unfolding cell_read
returns-in_default-value_in c =
    let d = decimal_with c.in-Some.parts in
    beyond-cell c.args.kind (number_taken c.args.kind (numerator d) (denominator d)) c.in_default-value_in.ensures ∙ ap (cell_of_decimal c.args.kind) c.in-Some.ensures

pub returns-in-Ok : goal.returns-in-Ok
unfolding cell_read
returns-in-Ok c =
    let z = c.in-Some-value_in.value in
    let fits : FitsSigned w128 z = search rules in
    let same = to_z-of_z w128 z fits in
    cell-ok c.args.kind z c.in-Ok.cell (sym (rw same at c.in-Ok.ensures)) ∙ ap (cell_taken c.args.kind) (sym c.in-Some-value_in.ensures) ∙ ap (cell_of_decimal c.args.kind) c.in-Some.ensures

pub returns-in-Err : goal.returns-in-Err
unfolding cell_read
returns-in-Err c =
    let z = c.in-Some-value_in.value in
    let fits : FitsSigned w128 z = search rules in
    let same = to_z-of_z w128 z fits in
    cell-over c.args.kind z c.in-Err.field-0 (sym (rw same at c.in-Err.ensures)) ∙ ap (cell_taken c.args.kind) (sym c.in-Some-value_in.ensures) ∙ ap (cell_of_decimal c.args.kind) c.in-Some.ensures
