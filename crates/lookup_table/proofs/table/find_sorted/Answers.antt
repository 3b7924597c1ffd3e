use Rattle.std.proofs.Common.{◌≤◌, ◌∙◌, ℤ, List, [], ◌∷◌, ap, arith, w64, to_z, of_z}
use Rattle.std.specs.List.{find}
use Rattle.lookup_table.specs.Keys.{all_lie_in}
use Rattle.lookup_table.specs.inside.Steps.{row_view}
use Rattle.lookup_table.proofs.Search.{no_row}
use Rattle.lookup_table.proofs.SortedRows.{find_between}
use Rattle.lookup_table.proofs.Values.{kept_four}
use Rattle.lookup_table.proofs.table.find_sorted.Goals as goal

pub returns : goal.returns
returns c =
    let n = c.min-ended.result in
    let low : n ≤ c.count_ended.result = omega (arith, c.min-ended.ensures) in
    let within : n ≤ c.count_started-started.result = omega (arith, c.min-ended.ensures) in
    c.find_first.ensures
    ∙ (find_between c.args.keys c.args.rows.now no_row (to_z w64 (of_z w64 c.args.a)) (to_z w64 (of_z w64 c.args.b) ∷ to_z w64 (of_z w64 c.args.c) ∷ to_z w64 (of_z w64 c.args.d) ∷ [])
    c.count_ended.result c.count_started-started.result n c.requires.some c.count_started-started.ensures.point c.count_ended.ensures.point low within c.count_started-started.ensures.within
    ∙ ap (λ (zs : List ℤ). find (λ row. all_lie_in (row_view c.args.keys row).keys zs) c.args.rows.now) (kept_four _ _ _ _ c.ranges.a c.ranges.b c.ranges.c c.ranges.d))
