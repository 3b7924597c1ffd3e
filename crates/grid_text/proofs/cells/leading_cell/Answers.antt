use Rattle.std.proofs.Common.{◌≡◌, false, take, Ok, sym, ◌∙◌, rules, FitsSigned}
use Rattle.std.proofs.lemmas.Int.{to_z-of_z}
use mir.Syntax.{w64}
use Rattle.cell_values.specs.declared.cell.Cell.TheVariants.{Val}
use Rattle.cell_values.specs.inside.Reading.{cell_read}
use Rattle.grid_text.specs.inside.Steps.{is_maybe_missing}
use Rattle.grid_text.proofs.ShortLaws.{begins}
use Rattle.grid_text.proofs.cells.leading_cell.Goals as goal

pub returns : goal.returns
returns c =
    let z = c.in_ok-value.value in
    let bytes = c.args.bytes.now in
    let len = c.in_ok-value.len in
    let fits : FitsSigned w64 z = search rules in
    let same = to_z-of_z w64 z fits in
    let read : cell_read c.args.kind (take len bytes) ≡ Ok (Val z) = c.in_ok-value.ensures.reading in
    let other : is_maybe_missing c.args.number (Ok (Val z)) ≡ false = rw same at (sym c.is_maybe_missing.ensures ∙ c.if-is_maybe_missing.false) in
    rw same (begins c.args.kind c.args.nodata.now c.args.number c.args.text_len bytes c.split_at.result.1.now c.in_ok-behind_token.field-0.now len z c.requires.prepared c.requires.within c.in_ok-value.ensures.within c.split_at.ensures.back read other c.in_ok-behind_token.ensures)
