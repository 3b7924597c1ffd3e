use Rattle.std.proofs.Common.{◌≡◌, ◌-◌, ◌≤◌, ◌∙◌, ℤ, ap, sym, rules, arith, to_z, of_z, w64, FitsSigned}
use Rattle.std.proofs.lemmas.Int.{ints}
use Rattle.text_base.specs.Limits.{most_cells}
use Rattle.area_ops.specs.declared.tally.Tally.{Tally}
use Rattle.area_ops.specs.inside.Runs.{tally_with}
use Rattle.area_ops.specs.inside.Tallies.{seen_from, tally_at, tally_join, tally_of_one}
use Rattle.area_ops.proofs.RunLemmas.{run_few, run_more}
use Rattle.area_ops.proofs.runs.add_number.Goals as goal

pub join-run-requires-clause-few : goal.join-run-requires-clause-few
join-run-requires-clause-few c =
    let few : (tally_with c.args.areas.now c.args.run.now c.args.run.now.class).count ≤ most_cells - 1 = let h = c.requires.few c.args.run.now.class in omega (arith, h) in
    let both = run_few c.args.areas.now c.args.run.now (most_cells - 1) few in
    let one = ap (λ (t : Tally). t.count) c.one-one.ensures.value in
    omega (arith, both, one)

pub returns-then-class-run-clause-tallies : goal.returns-then-class-run-clause-tallies
returns-then-class-run-clause-tallies c =
    let f : FitsSigned w64 c.args.number = search rules in
    let same : to_z w64 (of_z w64 c.args.number) ≡ c.args.number = omega (arith, ints) in
    let g : FitsSigned w64 c.args.class = search rules in
    let h : FitsSigned w64 c.args.run.now.class = search rules in
    let own_class : to_z w64 (of_z w64 c.args.class) ≡ c.args.class = omega (arith, ints) in
    let run_class : to_z w64 (of_z w64 c.args.run.now.class) ≡ c.args.run.now.class = omega (arith, ints) in
    let there : c.args.run.now.class ≡ c.args.class = sym run_class ∙ (ap (to_z w64) (sym c.if-class-run.true) ∙ own_class) in
    let one : c.one-one.result ≡ tally_of_one c.args.number = c.one-one.ensures.value ∙ ap tally_of_one same in
    λ own.
    ap (λ (t : Tally). tally_join (tally_at c.args.areas.now own) (seen_from own c.args.run.now.class t)) (c.join-run.ensures.value ∙ ap (tally_join c.args.run.now.tally) one)
    ∙ (run_more c.args.areas.now c.args.run.now.class c.args.run.now.tally (tally_of_one c.args.number) own
    ∙ ap (λ (z : ℤ). tally_join (tally_with c.args.areas.now c.args.run.now own) (seen_from own z (tally_of_one c.args.number))) there)
