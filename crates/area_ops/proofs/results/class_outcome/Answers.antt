use Rattle.std.proofs.Common.{◌≡◌, ap, sym, ◌∙◌, arith, to_z, of_z, w64, int_cmp}
use Rattle.std.specs.BTreeMap.{get}
use Rattle.std.proofs.lemmas.Int.{ints}
use Rattle.area_ops.proofs.PlaceLemmas.{result_found}
use Rattle.area_ops.proofs.results.class_outcome.Goals as goal

pub returns : goal.returns
returns c =
    let f = c.ranges.class.sfits in
    let same : to_z w64 (of_z w64 c.args.class) ≡ c.args.class = omega (arith, ints) in
    let found = c.copied.ensures ∙ (c.get.ensures.value ∙ ap (get int_cmp c.args.results.now) same) in
    c.unwrap_or.ensures ∙ sym (result_found c.args.results.now.entries c.args.class c.copied.result (sym found))
