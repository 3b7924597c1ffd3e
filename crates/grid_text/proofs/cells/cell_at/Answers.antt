use Rattle.std.proofs.Common.{◌≡◌, true, false, sym, ◌∙◌, subst}
use Rattle.std.proofs.lemmas.Slice.Eq.{bytes_eq-Decides}
use Rattle.grid_text.specs.Form.{is_missing}
use Rattle.grid_text.proofs.ValueLaws.{nodata_missing, cell_missing, cell_there, not_missing}
use Rattle.grid_text.proofs.cells.cell_at.Goals as goal

pub returns-then-eq : goal.returns-then-eq
returns-then-eq c =
    let same : c.args.token.now ≡ c.args.nodata.now = (bytes_eq-Decides c.args.token.now c.args.nodata.now).0 (sym c.eq.ensures ∙ c.if-eq.true) in
    let missing : is_missing c.args.nodata.now c.args.token.now ≡ true = subst (λ token. is_missing c.args.nodata.now token ≡ true) (sym same) (nodata_missing c.args.nodata.now c.requires.nodata) in
    cell_missing c.args.kind c.args.nodata.now c.args.token.now missing

pub returns-then-not-is_maybe_missing : goal.returns-then-not-is_maybe_missing
returns-then-not-is_maybe_missing c =
    let there : is_missing c.args.nodata.now c.args.token.now ≡ false = not_missing c.args.kind c.args.nodata.now c.args.token.now c.args.number c.read_cell-read.result c.requires.prepared c.read_cell-read.ensures.reading (sym c.is_maybe_missing.ensures ∙ c.if-not-is_maybe_missing.true) in
    c.read_cell-read.ensures.reading ∙ cell_there c.args.kind c.args.nodata.now c.args.token.now there

pub returns-then-stands_for_missing : goal.returns-then-stands_for_missing
returns-then-stands_for_missing c = cell_missing c.args.kind c.args.nodata.now c.args.token.now (sym c.stands_for_missing.ensures ∙ c.if-stands_for_missing.true)

pub returns : goal.returns
returns c = c.read_cell-read.ensures.reading ∙ cell_there c.args.kind c.args.nodata.now c.args.token.now (sym c.stands_for_missing.ensures ∙ c.if-stands_for_missing.false)
