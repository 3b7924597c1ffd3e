use Rattle.std.proofs.Common.{◌≡◌, None, Some, ◌-◌, get_or, sym, subst, arith}
use Rattle.std.specs.List.{find}
use Rattle.std.proofs.Math.Facts.{to_z-of_z}
use Rattle.lookup_table.specs.Keys.{lies_in}
use Rattle.lookup_table.proofs.Search.{no_row, none_begun, last_fails, last_takes}
use Rattle.lookup_table.proofs.table.find_apart.Goals as goal

pub returns-then-begun-eq0 : goal.returns-then-begun-eq0
returns-then-begun-eq0 c =
    subst (λ z. None ≡ find (λ row. lies_in row.a z) c.args.rows.now) (to_z-of_z c.ranges.number)
    (sym (none_begun c.args.rows.now no_row c.requires _ _ c.count_begun-begun.ensures.point c.if-begun-eq0.true))

pub returns-then-not-has : goal.returns-then-not-has
returns-then-not-has c =
    subst (λ z. None ≡ find (λ row. lies_in row.a z) c.args.rows.now) (to_z-of_z c.ranges.number)
    (sym (last_fails c.args.rows.now no_row c.requires _ _ c.count_begun-begun.ensures.point (omega arith) c.count_begun-begun.ensures.within (sym c.if-not-has.ensures)))

pub returns : goal.returns
returns c =
    subst (λ z. Some (get_or c.args.rows.now (c.count_begun-begun.result - 1) no_row) ≡ find (λ row. lies_in row.a z) c.args.rows.now) (to_z-of_z c.ranges.number)
    (sym (last_takes c.args.rows.now no_row c.requires _ _ c.count_begun-begun.ensures.point (omega arith) c.count_begun-begun.ensures.within (sym c.if-not-has.ensures)))
