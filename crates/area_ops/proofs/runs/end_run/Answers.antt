use Rattle.std.proofs.Common.{◌≡◌, ◌+◌, ◌≤◌, ℤ, sym, subst, rules, arith, to_z, of_z, w64, FitsSigned}
use Rattle.std.proofs.lemmas.Int.{ints}
use Rattle.text_base.specs.Limits.{most_cells}
use Rattle.area_ops.specs.inside.Tallies.{tally_at}
use Rattle.area_ops.proofs.RunLemmas.{run_few, run_none}
use Rattle.area_ops.proofs.runs.end_run.Goals as goal

pub returns-then-run-eq0-clause-tallies : goal.returns-then-run-eq0-clause-tallies
returns-then-run-eq0-clause-tallies c = λ own. sym (run_none c.args.areas.now c.args.run own (c.requires.run.empty c.if-run-eq0.true))

pub add-requires-clause-few : goal.add-requires-clause-few
add-requires-clause-few c =
    let f : FitsSigned w64 c.args.run.class = search rules in
    let same : to_z w64 (of_z w64 c.args.run.class) ≡ c.args.run.class = omega (arith, ints) in
    subst (λ (z : ℤ). (tally_at c.args.areas.now z).count + c.args.run.tally.count ≤ most_cells) (sym same) (run_few c.args.areas.now c.args.run most_cells (c.requires.few c.args.run.class))
