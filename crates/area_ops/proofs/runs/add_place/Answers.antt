use Rattle.std.proofs.Common.{◌≡◌, ℤ, refl, ap, sym, ◌∙◌, rules, arith, to_z, of_z, w64, FitsSigned}
use Rattle.std.proofs.lemmas.Int.{ints}
use Rattle.std.proofs.lemmas.Result.{on_ok_weaker}
use Rattle.area_ops.specs.inside.Runs.{tally_with_runs}
use Rattle.area_ops.specs.inside.Tallies.{no_tally, place_tally, seen_from, tally_join, tally_of_one}
use Rattle.area_ops.proofs.PlaceLemmas.{place-missing, place-none, place-some}
use Rattle.area_ops.proofs.TallyLemmas.{join_none}
use Rattle.area_ops.proofs.runs.add_place.Goals as goal

pub returns-in-Val-Some-clause-tallies : goal.returns-in-Val-Some-clause-tallies
returns-in-Val-Some-clause-tallies c =
    let f : FitsSigned w64 c.in-Val-Some.number = search rules in
    let same : to_z w64 (of_z w64 c.in-Val-Some.number) ≡ c.in-Val-Some.number = omega (arith, ints) in
    let g : FitsSigned w64 c.in-Val-Some.class = search rules in
    let here : to_z w64 (of_z w64 c.in-Val-Some.class) ≡ c.in-Val-Some.class = omega (arith, ints) in
    on_ok_weaker c.add_to_runs.result (λ h own.
    h own ∙ ap (tally_join (tally_with_runs c.args.areas.now c.args.runs.now own))
    (ap (λ (z : ℤ). seen_from own z (tally_of_one (to_z w64 (of_z w64 c.in-Val-Some.number)))) here
    ∙ (ap (λ (z : ℤ). seen_from own c.in-Val-Some.class (tally_of_one z)) same
    ∙ (sym (place-some c.args.op own c.args.value c.in-Val-Some.class c.in-Val-Some.number (sym c.taken.ensures ∙ c.in-Val-Some.is-1))
    ∙ ap (place_tally c.args.op own c.args.value) (sym c.in-Val-Some.is-0))))) c.add_to_runs.ensures.tallies

pub returns-in_default-clause-tallies : goal.returns-in_default-clause-tallies
returns-in_default-clause-tallies c = λ own.
    sym (ap (tally_join (tally_with_runs c.args.areas.now c.args.runs.now own)) (place-none c.args.op own c.args.value c.args.area (sym c.taken.ensures ∙ c.in_default.is-1)) ∙ join_none (tally_with_runs c.args.areas.now c.args.runs.now own) no_tally refl)

pub returns-in_default-2-clause-tallies : goal.returns-in_default-2-clause-tallies
returns-in_default-2-clause-tallies c = λ own.
    sym (ap (tally_join (tally_with_runs c.args.areas.now c.args.runs.now own)) (ap (place_tally c.args.op own c.args.value) c.in_default.is-0 ∙ place-missing c.args.op own c.args.value) ∙ join_none (tally_with_runs c.args.areas.now c.args.runs.now own) no_tally refl)
