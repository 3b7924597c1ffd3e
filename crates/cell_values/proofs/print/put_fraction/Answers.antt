use Rattle.std.proofs.Common.{◌≡◌, ◌+◌, ◌-◌, ◌≤◌, ◌∷◌, length, take, drop, set, ap, ◌∙◌, arith}
use Rattle.std.proofs.Math.Seq.{take-append_seam}
use Rattle.std.proofs.lemmas.List.{take-append-le}
use Rattle.cell_values.specs.inside.Printed.{six_digits, trimmed}
use Rattle.cell_values.proofs.Printing.{seven_digits, fraction_is, point_set, trimmed_front, trimmed_le}
use Rattle.cell_values.proofs.print.put_fraction.Goals as goal

pub write_digits-one-requires : goal.write_digits-one-requires
write_digits-one-requires c =
    let seven = ap length (seven_digits c.args.part c.requires.part) in
    (omega (arith, seven), omega (arith, c.requires.room))

pub returns-clause-within : goal.returns-clause-within
returns-clause-within c =
    let w = c.write_digits-one in
    let row = point_set w.new.buf c.args.text.now w.result c.args.part c.requires.part (omega (arith, c.requires.room)) w.ensures.start w.ensures.written in
    let kept = c.without_zeros.ensures ∙ ap (λ t. trimmed (take 7 t)) row ∙ ap trimmed (take-append_seam (46 ∷ six_digits c.args.part) (drop 28 c.args.text.now)) in
    let most = trimmed_le (46 ∷ six_digits c.args.part) in
    (omega arith, omega (arith, ap length kept, most))

pub returns-clause-written : goal.returns-clause-written
returns-clause-written c =
    let w = c.write_digits-one in
    let row = point_set w.new.buf c.args.text.now w.result c.args.part c.requires.part (omega (arith, c.requires.room)) w.ensures.start w.ensures.written in
    let kept = c.without_zeros.ensures ∙ ap (λ t. trimmed (take 7 t)) row ∙ ap trimmed (take-append_seam (46 ∷ six_digits c.args.part) (drop 28 c.args.text.now)) in
    let most = trimmed_le (46 ∷ six_digits c.args.part) in
    let short : length c.without_zeros.result.now ≤ 7 = omega (arith, ap length kept, most) in
    let n : 21 + length c.without_zeros.result.now - 21 ≡ length c.without_zeros.result.now = omega arith in
    ap (λ k. take k (drop 21 (set w.new.buf 21 46))) n
    ∙ ap (take (length c.without_zeros.result.now)) row
    ∙ take-append-le (length c.without_zeros.result.now) (46 ∷ six_digits c.args.part) (drop 28 c.args.text.now) short
    ∙ ap (λ t. take (length t) (46 ∷ six_digits c.args.part)) kept
    ∙ trimmed_front (46 ∷ six_digits c.args.part)
    ∙ fraction_is c.args.part c.if-part-eq0.false
