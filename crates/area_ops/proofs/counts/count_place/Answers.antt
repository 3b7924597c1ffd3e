use Rattle.std.proofs.Common.{◌≡◌, ◌+◌, ℤ, ap, sym, ◌∙◌, rules, arith, to_z, of_z, w64, FitsSigned}
use Rattle.std.proofs.lemmas.Int.{ints}
use Rattle.std.proofs.lemmas.Result.{on_ok_weaker}
use Rattle.area_ops.specs.inside.Counts.{count_at, count_seen, times_given}
use Rattle.area_ops.proofs.CountLemmas.{count-missing, count-none, count-some}
use Rattle.area_ops.proofs.counts.count_place.Goals as goal

pub returns-in-Val-Some-clause-counts : goal.returns-in-Val-Some-clause-counts
returns-in-Val-Some-clause-counts c =
    let f : FitsSigned w64 c.in-Val-Some.number = search rules in
    let same : to_z w64 (of_z w64 c.in-Val-Some.number) ≡ c.in-Val-Some.number = omega (arith, ints) in
    let g : FitsSigned w64 c.in-Val-Some.class = search rules in
    let here : to_z w64 (of_z w64 c.in-Val-Some.class) ≡ c.in-Val-Some.class = omega (arith, ints) in
    on_ok_weaker c.add_count.result (λ h own.
    h own ∙ ap (λ n. count_at c.args.counts.now own + n)
    (ap (λ (z : ℤ). count_seen own (z, to_z w64 (of_z w64 c.in-Val-Some.number)) 1) here
    ∙ (ap (λ (z : ℤ). count_seen own (c.in-Val-Some.class, z) 1) same
    ∙ (sym (count-some c.args.op own c.args.value c.in-Val-Some.class c.in-Val-Some.number (sym c.taken.ensures ∙ c.in-Val-Some.is-1))
    ∙ ap (times_given c.args.op own c.args.value) (sym c.in-Val-Some.is-0))))) c.add_count.ensures.counts

pub returns-in_default-clause-counts : goal.returns-in_default-clause-counts
returns-in_default-clause-counts c = λ own.
    let e = ap (times_given c.args.op own c.args.value) c.in_default.is-0 ∙ count-none c.args.op own c.args.value _ (sym c.taken.ensures ∙ c.in_default.is-1) in
    omega (arith, e)

pub returns-in_default-2-clause-counts : goal.returns-in_default-2-clause-counts
returns-in_default-2-clause-counts c = λ own.
    let e = ap (times_given c.args.op own c.args.value) c.in_default.is-0 ∙ count-missing c.args.op own c.args.value in
    omega (arith, e)
