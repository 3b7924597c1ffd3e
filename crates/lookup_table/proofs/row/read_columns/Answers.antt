use Rattle.std.proofs.Common.{◌≡◌, ◌<◌, length, length-set, sym, ap, ◌∙◌, Err, Ok, ℕ, ℤ, pos, List, take, to_z, of_z, w64, arith}
use Rattle.std.proofs.lemmas.Result.{err_from_is_err_and}
use Rattle.lookup_table.specs.declared.key.KeyRange.{KeyRange}
use Rattle.lookup_table.specs.declared.fault.TableKind.{TableKind}
use Rattle.lookup_table.specs.inside.Steps.{row_view, answer_by}
use Rattle.lookup_table.proofs.RowSteps.{key_more, key_fails, result_more, result_fails, value_kept, four_are}
use Rattle.lookup_table.proofs.row.read_columns.Goals as goal

pub returns-in_err-range-clause-row : goal.returns-in_err-range-clause-row
returns-in_err-range-clause-row c =
    let p = err_from_is_err_and c.from_residual.result c.from_residual.ensures.1 in
    ap (answer_by (row_view c.args.keys)) p.1 ∙ ap (λ (f : TableKind). Err f) p.2
    ∙ key_fails c.args.keys c.args.kind c.loop-i.ranges c.loop-i.i c.loop-i.rest.now c.in_err-range.field-0.0 c.loop-i-test.true (sym c.in_err-range.ensures)
    ∙ c.loop-i.invariant.same

pub loop-i-preserved : goal.loop-i-preserved
loop-i-preserved c =
    let within : c.loop-i.i < length c.loop-i.ranges = omega (arith, c.loop-i.invariant.room, c.requires, c.loop-i-test.true) in
    record {
      same = key_more c.args.keys c.args.kind c.loop-i.ranges c.loop-i.i c.loop-i.rest.now c.in_ok-range.range c.in_ok-range.behind.now c.loop-i-test.true within (sym c.in_ok-range.ensures) ∙ c.loop-i.invariant.same;
      room = length-set c.loop-i.ranges c.loop-i.i c.in_ok-range.range ∙ c.loop-i.invariant.room;
    }

pub returns-in_err-result-clause-row : goal.returns-in_err-result-clause-row
returns-in_err-result-clause-row c =
    let p = err_from_is_err_and c.from_residual-in_err-result.result c.from_residual-in_err-result.ensures.1 in
    ap (answer_by (row_view c.args.keys)) p.1 ∙ ap (λ (f : TableKind). Err f) p.2
    ∙ result_fails c.args.keys c.args.kind c.loop-i.ranges c.loop-i.i c.loop-i.rest.now c.in_err-result.field-0.0 c.loop-i-test.false (sym c.in_err-result.ensures.result)
    ∙ c.loop-i.invariant.same

pub returns-clause-row : goal.returns-clause-row
returns-clause-row c =
    let keys : ℕ = c.args.keys in
    let kept : to_z w64 (of_z w64 c.in_ok-result.result) ≡ c.in_ok-result.result = value_kept c.args.kind c.in_ok-result.result c.in_ok-result.ensures.value in
    let four = four_are (record { first = pos 0; last = pos 0 }) c.loop-i.ranges c.loop-i.invariant.room in
    ap (λ (rs : List KeyRange). Ok (record { keys = take keys rs; result = to_z w64 (of_z w64 c.in_ok-result.result) })) four
    ∙ ap (λ (z : ℤ). Ok (record { keys = take keys c.loop-i.ranges; result = z })) kept
    ∙ result_more keys c.args.kind c.loop-i.ranges c.loop-i.i c.loop-i.rest.now c.in_ok-result.result c.loop-i.auto.i-end c.loop-i-test.false (sym c.in_ok-result.ensures.result)
    ∙ c.loop-i.invariant.same
