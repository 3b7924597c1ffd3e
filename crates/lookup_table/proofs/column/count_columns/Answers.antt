use Rattle.std.proofs.Common.{◌≡◌, ◌<◌, List, ℕ, length, Some, Ok, Err, IfSome, sym, ap, subst, ◌∙◌, arith}
use Rattle.std.specs.Borrow.{Bor}
use Rattle.std.specs.declared.option.Option.{Option}
use Rattle.std.proofs.lemmas.Result.{err_from_is_err_and}
use Rattle.lookup_table.specs.declared.fault.TableKind.{TableKind}
use Rattle.lookup_table.specs.inside.Reading.{first_column}
use Rattle.lookup_table.specs.inside.Steps.{column_view}
use Rattle.lookup_table.proofs.ColumnLists.{count_more, count_none, count_fails}
use Rattle.lookup_table.proofs.column.count_columns.Goals as goal

pub returns-in_err-behind : goal.returns-in_err-behind
returns-in_err-behind c =
    let p = err_from_is_err_and c.from_residual.result c.from_residual.ensures.1 in
    p.1 ∙ ap (λ (f : TableKind). Err f) p.2
    ∙ count_fails c.loop-behind.count c.loop-behind.rest.now c.in_err-behind.field-0.0 (sym c.in_err-behind.ensures.column)
    ∙ c.loop-behind.invariant.same

pub loop-behind-preserved : goal.loop-behind-preserved
loop-behind-preserved c =
    let rest : List ℕ = c.loop-behind.rest.now in
    let found : first_column rest ≡ Ok (Some (c.in-Some.field-0-0.now, c.in-Some.behind.now)) =
    sym c.in_ok-behind.ensures.column ∙ ap (λ (o : Option (Bor (List ℕ) × Bor (List ℕ))). Ok (column_view o)) c.in-Some.is in
    let shorter : length c.in-Some.behind.now < length rest =
    subst (λ (o : Option (Bor (List ℕ) × Bor (List ℕ))). IfSome o (λ parts. length parts.1.now < length rest)) c.in-Some.is c.in_ok-behind.ensures.shorter in
    record {
      same = count_more c.loop-behind.count rest _ c.in-Some.behind.now found ∙ c.loop-behind.invariant.same;
      within = omega (arith, shorter, c.loop-behind.invariant.within);
    }

pub returns : goal.returns
returns c =
    count_none c.loop-behind.count c.loop-behind.rest.now
    (sym c.in_ok-behind.ensures.column ∙ ap (λ (o : Option (Bor (List ℕ) × Bor (List ℕ))). Ok (column_view o)) c.in_default.is)
    ∙ c.loop-behind.invariant.same
