use Rattle.std.proofs.Common.{◌≡◌, is_some, sym, ◌∙◌, rules}
use Rattle.cell_values.specs.inside.Reading.{decimal_of}
use Rattle.cell_values.proofs.DecimalLaws.{some-from_text, text-from_some}
use Rattle.cell_values.proofs.decimal.is_decimal.Goals as goal

pub returns-clause-grammar : goal.returns-clause-grammar
returns-clause-grammar c =
    let reading : c.is_some.result ≡ is_some (decimal_of c.args.text.now) = search rules in
    (λ yes. text-from_some c.args.text.now (sym reading ∙ yes), λ is. reading ∙ some-from_text c.args.text.now is)
