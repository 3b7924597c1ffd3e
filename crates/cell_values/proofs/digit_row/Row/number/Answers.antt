use Rattle.std.proofs.Common.{◌≡◌, ◌++◌, arith, ap, sym, ◌∙◌}
use Rattle.std.specs.Str.Parse.{digits_value, digits_value_after}
use Rattle.cell_values.proofs.Digits.{value_after-append, value_after-ge}
use Rattle.cell_values.proofs.digit_row.Row.number.Goals as goal

pub returns-in-Some : goal.returns-in-Some
returns-in-Some c =
    let row = c.args.self.now in
    let whole : digits_value_after 10 c.in-Some.number row.second.now ≡ digits_value 10 (row.first.now ++ row.second.now) =
    ap (λ n. digits_value_after 10 n row.second.now) c.in-Some.ensures ∙ sym (value_after-append 0 row.first.now row.second.now) in
    rw (← whole) c.number_after-in-Some.ensures

pub returns-in-None : goal.returns-in-None
returns-in-None c =
    let row = c.args.self.now in
    let more = value_after-ge (digits_value 10 row.first.now) row.second.now in
    let whole = value_after-append 0 row.first.now row.second.now in
    omega (arith, more, whole, c.in-None.ensures)
