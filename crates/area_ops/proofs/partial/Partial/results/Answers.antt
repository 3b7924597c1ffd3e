use Rattle.std.proofs.Common.{ap, sym, subst, ◌∙◌}
use Rattle.std.specs.Prelude.{option_map}
use Rattle.std.specs.BTreeMap.{get}
use Rattle.std.specs.Ordering.{int_cmp}
use Rattle.std.proofs.lemmas.Result.{IfOk-weaker}
use Rattle.region_meaning.specs.Areas.{numbers_of}
use Rattle.area_ops.specs.Partials.{PartialValue, StandsFor}
use Rattle.region_meaning.specs.AreaResults.{area_result}
use Rattle.area_ops.specs.inside.Tallies.{tally_result}
use Rattle.area_ops.proofs.PlaceLemmas.{result_found, results_of_tallies}
use Rattle.area_ops.proofs.partial.Partial.results.Goals as goal

pub returns-then-counts_numbers : goal.returns-then-counts_numbers
returns-then-counts_numbers c = λ places stands.
    let same = ap (λ (v : PartialValue). v.op) c.self.view_is in
    let is = subst (λ (v : PartialValue). StandsFor v places) (sym c.self.view_is) stands in
    IfOk-weaker c.counted.result _ _ (λ results h class.
    h class (numbers_of c.self.inside.op places class) (λ w. is.counts (sym c.counts_numbers.ensures ∙ c.if-counts_numbers.true) class w)
    ∙ ap (λ op. area_result op (numbers_of op places class)) same) c.counted.ensures

pub returns : goal.returns
returns c = λ places stands.
    let p : PartialValue = record { op = c.self.inside.op; cells = c.self.inside.cells; tallies = c.self.inside.areas.entries; counts = c.self.inside.counts.entries } in
    let same = ap (λ (v : PartialValue). v.op) c.self.view_is in
    let is = subst (λ (v : PartialValue). StandsFor v places) (sym c.self.view_is) stands in
    IfOk-weaker c.tallied.result _ _ (λ results h class.
    result_found results.entries class (option_map (tally_result c.self.inside.op) (get int_cmp c.self.inside.areas class)) (h class)
    ∙ (results_of_tallies p places is (sym c.counts_numbers.ensures ∙ c.if-counts_numbers.false) class
    ∙ ap (λ op. area_result op (numbers_of op places class)) same)) c.tallied.ensures
