use Rattle.std.proofs.Common.{◌≡◌, ◌<◌, ◌+◌, ◌*◌, ◌^◌, ◌∷◌, [], suc, take, codes, true, false, Ok, ℤ, pos, ◌-ℤ◌, inl, refl, ap, sym, ◌∙◌, subst, arith}
use Rattle.std.proofs.lemmas.Int.{to_z_pos}
use mir.Val.{of_z, to_z}
use mir.Syntax.{w64}
use Rattle.cell_values.specs.declared.cell.Cell.TheVariants.{Val}
use Rattle.cell_values.specs.Kinds.{IsValue}
use Rattle.cell_values.specs.Decimal.{with_sign}
use Rattle.cell_values.specs.inside.Reading.{cell_read}
use Rattle.cell_values.proofs.FewDigits.{negated, negated_size, value-found}
use Rattle.cell_values.proofs.short.short_cell.Goals as goal

pub in_range-requires : goal.in_range-requires
in_range-requires c =
    let size = c.in_ok-size-in-Some-eq45-default.size in
    let small = c.in_ok-size-in-Some-eq45-default.ensures.reading.small in
    rw (negated size small, negated_size size) small

pub in_range-requires-in_default : goal.in_range-requires-in_default
in_range-requires-in_default c =
    let size = c.in_ok-size-in_default.size in
    let small : size < 2 * 10 ^ 18 = c.in_ok-size-in_default.ensures.reading.small in
    rw (to_z_pos w64 size (omega (arith, small))) small

pub returns-in_ok-size-in-Some-eq45-default-clause-reading : goal.returns-in_ok-size-in-Some-eq45-default-clause-reading
returns-in_ok-size-in-Some-eq45-default-clause-reading c =
    let kind = c.args.kind in
    let text = c.args.text.now in
    let unsigned = c.in-Some-eq45-default.unsigned.now in
    let len = c.in_ok-size-in-Some-eq45-default.len in
    let size = c.in_ok-size-in-Some-eq45-default.size in
    let is = c.in_ok-size-in-Some-eq45-default.ensures.reading in
    let front : text ≡ 45 ∷ unsigned = cc (c.in-Some-eq45-default.ensures.cases.0, c.in-Some-eq45-default.field-0-0-test) in
    let n : len + 1 ≡ suc len = omega arith in
    let z : ℤ = to_z w64 (of_z w64 (pos 0 -ℤ to_z w64 size)) in
    let same : z ≡ with_sign true size = negated size is.small in
    value-found kind text c.in_range.result z (len + 1) c.in_range.ensures (λ value.
    ap (λ t. cell_read kind (take (len + 1) t)) front
    ∙ ap (λ k. cell_read kind (take k (45 ∷ unsigned))) n
    ∙ is.reads true (codes "-") refl (subst (IsValue kind) same value)
    ∙ ap (λ y. Ok (Val y)) (sym same))

pub returns-in_ok-size-in_default-clause-reading : goal.returns-in_ok-size-in_default-clause-reading
returns-in_ok-size-in_default-clause-reading c =
    let kind = c.args.kind in
    let text = c.args.text.now in
    let len = c.in_ok-size-in_default.len in
    let size = c.in_ok-size-in_default.size in
    let is = c.in_ok-size-in_default.ensures.reading in
    let small : size < 2 * 10 ^ 18 = is.small in
    let z : ℤ = to_z w64 size in
    let same : z ≡ with_sign false size = to_z_pos w64 size (omega (arith, small)) in
    value-found kind text c.in_range-in_default.result z len c.in_range-in_default.ensures (λ value.
    is.reads false [] (inl refl) (subst (IsValue kind) same value) ∙ ap (λ y. Ok (Val y)) (sym same))
