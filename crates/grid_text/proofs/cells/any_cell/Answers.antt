use Rattle.std.proofs.Common.{sym, ap, ◌∙◌, arith}
use Rattle.text_base.specs.Tokens.{token_view, tokens_left}
use Rattle.grid_text.specs.inside.Reading.{cell_or_fault_at}
use Rattle.grid_text.specs.inside.Steps.{NoToken, NoCell}
use Rattle.grid_text.proofs.ShortLaws.{behind_blanks}
use Rattle.grid_text.proofs.cells.any_cell.Goals as goal

pub returns-in-Some : goal.returns-in-Some
returns-in-Some c =
    let same = c.skip_blanks-front.ensures.same c.args.text_len c.requires.within in
    behind_blanks c.args.kind c.args.nodata.now c.args.text_len c.args.bytes.now c.skip_blanks-front.result.now _ _ same c.in-Some.ensures

pub returns-in_default-next_token : goal.returns-in_default-next_token
returns-in_default-next_token c = NoToken c.in_default-next_token.ensures.tokens c.count_fault.ensures

pub returns-in-Ok : goal.returns-in-Ok
returns-in-Ok c = record {
  token = token_view c.in-Some-next_token.token;
  first = c.in-Some-next_token.ensures.tokens;
  read = ap (cell_or_fault_at c.in-Some-next_token.token.at) (sym c.cell_at.ensures) ∙ sym c.cell_or_fault.ensures ∙ c.in-Ok.is;
  within = omega (arith, c.in-Some-next_token.ensures.shorter, c.requires.within);
}

pub returns-in-Err : goal.returns-in-Err
returns-in-Err c =
    NoCell (token_view c.in-Some-next_token.token) (tokens_left c.args.text_len c.in-Some-next_token.behind.now) c.in-Some-next_token.ensures.tokens
    (ap (cell_or_fault_at c.in-Some-next_token.token.at) (sym c.cell_at.ensures) ∙ sym c.cell_or_fault.ensures ∙ c.in-Err.is)
