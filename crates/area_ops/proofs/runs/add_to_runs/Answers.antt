use Rattle.std.proofs.Common.{◌≡◌, ℕ, ℤ, set, sym, ap, ◌∙◌, arith, to_z, of_z, w64}
use Rattle.std.proofs.lemmas.Int.{ints}
use Rattle.text_base.specs.Limits.{most_cells}
use Rattle.area_ops.specs.inside.Runs.{run_at, class_slot, tally_with, tally_with_runs}
use Rattle.area_ops.specs.inside.Tallies.{seen_from, tally_join, tally_of_one}
use Rattle.area_ops.proofs.RunLemmas.{few_with, runs_more, runs_set}
use Rattle.area_ops.proofs.runs.add_to_runs.Goals as goal

pub add_number-requires-clause-few : goal.add_number-requires-clause-few
add_number-requires-clause-few c = few_with c.args.areas.now c.args.runs.now c.class_slot.result most_cells c.requires.runs c.class_slot.ensures.below c.requires.few

pub returns-clause-tallies : goal.returns-clause-tallies
returns-clause-tallies c =
    let f = c.ranges.class.sfits in
    let k = to_z w64 (of_z w64 c.args.class) in
    let same : k ≡ c.args.class = omega (arith, ints) in
    let there : c.class_slot.result ≡ class_slot c.args.class = c.class_slot.ensures.value ∙ ap class_slot same in
    let g = c.ranges.number.sfits in
    let number : to_z w64 (of_z w64 c.args.number) ≡ c.args.number = omega (arith, ints) in
    let old = c.args.areas.now in
    let new = c.add_number.new.areas in
    let runs = c.args.runs.now in
    let run = c.add_number.new.run in
    let more : (own : ℤ) → tally_with new run own ≡ tally_join (tally_with old (run_at runs (class_slot c.args.class)) own) (seen_from own c.args.class (tally_of_one c.args.number)) = λ own.
    c.in_ok-add_number.ensures.tallies own
    ∙ (ap (λ (s : ℕ). tally_join (tally_with old (run_at runs s) own) (seen_from own k (tally_of_one (to_z w64 (of_z w64 c.args.number))))) there
    ∙ (ap (λ (z : ℤ). tally_join (tally_with old (run_at runs (class_slot c.args.class)) own) (seen_from own z (tally_of_one (to_z w64 (of_z w64 c.args.number))))) same
    ∙ ap (λ (z : ℤ). tally_join (tally_with old (run_at runs (class_slot c.args.class)) own) (seen_from own c.args.class (tally_of_one z))) number)) in
    λ own.
    ap (λ (s : ℕ). tally_with_runs new (set runs s run) own) there
    ∙ runs_more old new runs run c.args.class (tally_of_one c.args.number) c.requires.runs (c.in_ok-add_number.ensures.class ∙ same) more own

pub returns-clause-runs : goal.returns-clause-runs
returns-clause-runs c =
    let f = c.ranges.class.sfits in
    let k = to_z w64 (of_z w64 c.args.class) in
    let same : k ≡ c.args.class = omega (arith, ints) in
    let there : c.class_slot.result ≡ class_slot c.args.class = c.class_slot.ensures.value ∙ ap class_slot same in
    runs_set c.args.runs.now c.class_slot.result c.add_number.new.run c.requires.runs c.class_slot.ensures.below (ap class_slot c.in_ok-add_number.ensures.class ∙ sym c.class_slot.ensures.value) c.in_ok-add_number.ensures.run
