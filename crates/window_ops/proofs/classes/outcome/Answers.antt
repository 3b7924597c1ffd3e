use Rattle.std.proofs.Common.{◌≡◌, ◌*◌, ◌<◌, ℤ, ◌*ℤ◌, length, refl, rules, arith, ap, sym, ◌∙◌, pos, to_z, of_z, w64, FitsSigned}
use Rattle.std.specs.Int.{w128}
use Rattle.std.specs.Prelude.{Ok}
use Rattle.std.proofs.lemmas.Int.{ints, to_z-of_z}
use Rattle.cell_values.specs.declared.kind.Kind.TheVariants.{Scalar}
use Rattle.cell_values.specs.declared.cell.Cell.TheVariants.{Val}
use Rattle.cell_values.specs.Kinds.{cell_of_number}
use Rattle.cell_values.specs.Units.{million}
use Rattle.tile_map.specs.Parts.{Outcome}
use Rattle.region_meaning.specs.WindowResults.{window_result}
use Rattle.window_ops.specs.declared.classes.Classed.{Classed}
use Rattle.window_ops.specs.inside.Classes.{class_op_of}
use Rattle.window_ops.proofs.ClassLemmas.{result_different, result_majority, result_none, some_from}
use Rattle.window_ops.proofs.classes.outcome.Goals as goal

pub returns-then-is_empty : goal.returns-then-is_empty
returns-then-is_empty c = λ values same. result_none (class_op_of c.args.classed) c.args.counts.now values (c.if-is_empty.ensures.0 refl) same

pub returns-in-Different : goal.returns-in-Different
returns-in-Different c = λ values same.
    let counts = c.args.counts.now in
    let more : 0 < length counts.entries = some_from (length counts.entries) c.if-is_empty.ensures.1 in
    let is = result_different counts c.len.ensures.unique c.requires more values same in
    let number : to_z w128 (of_z w128 (to_z w128 c.len.result *ℤ pos 1000000)) ≡ pos (length counts.entries * million) =
    (let small = c.len.ensures.small in let len = c.len.ensures.len in omega (arith, ints, small, len)) in
    c.to_cell.ensures ∙ (ap (cell_of_number Scalar) number ∙ (is ∙ ap (λ (d : Classed). window_result (class_op_of d) values) (sym c.in-Different.is)))

pub returns-in-MostFrequent : goal.returns-in-MostFrequent
returns-in-MostFrequent c = λ values same.
    let counts = c.args.counts.now in
    let more : 0 < length counts.entries = some_from (length counts.entries) c.if-is_empty.ensures.1 in
    let fits : FitsSigned w64 c.leader.result = search rules in
    let is = result_majority counts c.requires more values same c.leader.result c.leader.ensures in
    ap (λ (n : ℤ). let o : Outcome = Ok (Val n) in o) (to_z-of_z w64 c.leader.result fits) ∙ (is ∙ ap (λ (d : Classed). window_result (class_op_of d) values) (sym c.in-MostFrequent.is))
