use Rattle.cell_values.proofs.Digits.{drop-append}
use Rattle.cell_values.proofs.digit_row.Row.back.Goals as goal

pub returns : goal.returns
returns c =
    let row = c.args.self.now in
    let parts = drop-append c.args.count row.first.now row.second.now in
    cc (parts, c.back.ensures.value, c.back-2.ensures.value, c.saturating_sub-behind.ensures)
