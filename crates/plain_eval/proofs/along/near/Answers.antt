-- The drain map and the values are those of the definition.
use Rattle.std.proofs.Common.{◌≡◌, ◌*◌, ◌∙◌, ℕ, List, length, sym, ap, subst}
use Rattle.cell_values.specs.declared.kind.Kind.TheVariants.{Scalar}
use Rattle.cell_values.specs.Kinds.{IsCell}
use Rattle.tile_map.specs.Args.{arg_cell}
use Rattle.tile_map.specs.Cuts.{cell_at}
use Rattle.drain_meaning.specs.Near.{near_outcome}
use Rattle.tile_map.specs.Parts.{part_of, tabulate}
use Rattle.map_meaning.specs.Evaluation.{operand_cell}
use Rattle.tile_map.proofs.PartLemmas.{length-tabulate}
use Rattle.map_meaning.specs.Maps.{CellAt, WholeMap, nth}
use Rattle.plain_eval.specs.inside.Held.{done_of}
use Rattle.plain_eval.specs.inside.Sections.{scene_in}
use Rattle.plain_eval.proofs.ScopeLemmas.{done_drains, drain_is, near_means, operand_scalars}
use Rattle.span_operands.proofs.Callers.{tabulate-scalars}
use Rattle.plain_eval.proofs.along.near.Goals as goal

pub whole_near-requires-clause-cells : goal.whole_near-requires-clause-cells
whole_near-requires-clause-cells c = rw (c.sheet.ensures, c.drain_map.ensures.rows, c.drain_map.ensures.cols) (length-tabulate (arg_cell c.arg-values.result) (c.args.known.now.rows * c.args.known.now.cols))

pub whole_near-requires-clause-scalars : goal.whole_near-requires-clause-scalars
whole_near-requires-clause-scalars c =
    let o = c.args.operation in
    let program = c.args.program.now in
    let known = c.args.known.now in
    let scene = scene_in program c.args.span known in
    let done = done_of program c.args.span known c.args.held.now in
    let places : ℕ = known.rows * known.cols in
    let all : (place : ℕ) → IsCell Scalar (cell_at (tabulate (arg_cell c.arg-values.result) places) place) =
    tabulate-scalars (arg_cell c.arg-values.result) places (λ place below. subst (λ (f : CellAt). IsCell Scalar (f place)) (sym c.arg-values.ensures.cell) (operand_scalars program scene done o.a c.requires.sound.a place below)) in
    λ place. subst (λ (m : WholeMap). IsCell Scalar (cell_at m place)) (sym c.sheet.ensures) (all place)

pub returns : goal.returns
returns c =
    let o = c.args.operation in
    let program = c.args.program.now in
    let known = c.args.known.now in
    let scene = scene_in program c.args.span known in
    let done = done_of program c.args.span known c.args.held.now in
    let m = c.drain_map.result.now in
    let count : m.rows * m.cols ≡ known.rows * known.cols = ap (λ (n : ℕ). n * m.cols) c.drain_map.ensures.rows ∙ ap (λ (n : ℕ). known.rows * n) c.drain_map.ensures.cols in
    let size : length m.codes ≡ known.rows * known.cols = c.drain_map.ensures.sound.map.size ∙ count in
    let same = drain_is program scene done o m c.drain_map.ensures.rows c.drain_map.ensures.cols (c.drain_map.ensures.codes ∙ sym (ap (λ (maps : List WholeMap). nth maps o.drain) (done_drains program c.args.span known c.args.held.now))) size in
    let means = ap (part_of (near_outcome c.args.op m (cell_at (tabulate (operand_cell scene done o.a) (known.rows * known.cols))))) count ∙ near_means program scene done o c.args.op m c.requires.scope.0 c.requires.scope.1 same in
    rw (c.sheet.ensures, c.arg-values.ensures.cell, means) at c.whole_near.ensures
