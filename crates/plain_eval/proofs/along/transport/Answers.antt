-- The drain map and the operands are those of the definition.
use Rattle.std.proofs.Common.{◌≡◌, ◌*◌, ◌∙◌, ℕ, List, length, sym, ap, subst}
use Rattle.cell_values.specs.declared.kind.Kind.TheVariants.{Scalar}
use Rattle.cell_values.specs.Kinds.{IsCell}
use Rattle.drain_meaning.specs.Equations.{transport_of}
use Rattle.drain_meaning.specs.Transports.{transport_outcome}
use Rattle.drain_ops.specs.Operands.{flow_operand}
use Rattle.tile_map.specs.Parts.{part_of}
use Rattle.map_meaning.specs.Evaluation.{operand_cell}
use Rattle.map_meaning.specs.Maps.{CellAt, WholeMap, nth}
use Rattle.map_meaning.specs.Programs.{kinds_of}
use Rattle.plain_eval.specs.inside.Held.{done_of}
use Rattle.plain_eval.specs.inside.Sections.{scene_in}
use Rattle.plain_eval.proofs.ScopeLemmas.{arg_scalars, done_drains, drain_is, has_word, operand_scalars, transport_means}
use Rattle.span_operands.proofs.Callers.{carried_kind}
use Rattle.plain_eval.proofs.along.transport.Goals as goal

pub whole-requires-clause-known : goal.whole-requires-clause-known
whole-requires-clause-known g c =
    let o = c.args.operation in
    c.requires.kit c.args.op (has_word c.args.op o.op (kinds_of c.args.program.now o) o.kind c.requires.scope.0 c.requires.sound.kinds)

pub whole-requires-clause-a_range : goal.whole-requires-clause-a_range
whole-requires-clause-a_range g c =
    let o = c.args.operation in
    let program = c.args.program.now in
    let known = c.args.known.now in
    let scene = scene_in program c.args.span known in
    let done = done_of program c.args.span known c.args.held.now in
    λ place. subst (λ (f : CellAt). IsCell Scalar (f place)) (sym c.given-a.ensures.cell)
    (arg_scalars c.arg.result (known.rows * known.cols) c.requires.some c.arg.ensures.spans (λ p below. subst (λ (f : CellAt). IsCell Scalar (f p)) (sym c.arg.ensures.cell) (operand_scalars program scene done o.a c.requires.sound.a p below)) place)

pub whole-requires-clause-b_range : goal.whole-requires-clause-b_range
whole-requires-clause-b_range g c =
    let o = c.args.operation in
    let program = c.args.program.now in
    let known = c.args.known.now in
    let scene = scene_in program c.args.span known in
    let done = done_of program c.args.span known c.args.held.now in
    λ place. subst (λ (f : CellAt). IsCell Scalar (f place)) (sym c.given-b.ensures.cell)
    (arg_scalars c.arg-2.result (known.rows * known.cols) c.requires.some c.arg-2.ensures.spans (λ p below. subst (λ (f : CellAt). IsCell Scalar (f p)) (sym c.arg-2.ensures.cell) (operand_scalars program scene done o.b c.requires.sound.b p below)) place)

pub returns : goal.returns
returns g c =
    let o = c.args.operation in
    let program = c.args.program.now in
    let known = c.args.known.now in
    let scene = scene_in program c.args.span known in
    let done = done_of program c.args.span known c.args.held.now in
    let m = c.drain_map-drain.result.now in
    let t = transport_of c.args.op in
    let kind = c.kind_or_scalar.result in
    let drain = c.drain_map-drain.ensures in
    let size : length m.codes ≡ known.rows * known.cols = drain.sound.map.size ∙ (ap (λ (n : ℕ). n * m.cols) drain.rows ∙ ap (λ (n : ℕ). known.rows * n) drain.cols) in
    let same = drain_is program scene done o m drain.rows drain.cols (drain.codes ∙ sym (ap (λ (maps : List WholeMap). nth maps o.drain) (done_drains program c.args.span known c.args.held.now))) size in
    c.in_ok-part.ensures
    ∙ (ap (λ (f : CellAt). part_of (transport_outcome t kind m f (flow_operand c.given-b.result)) (length m.codes)) (c.given-a.ensures.cell ∙ c.arg.ensures.cell)
    ∙ (ap (λ (f : CellAt). part_of (transport_outcome t kind m (operand_cell scene done o.a) f) (length m.codes)) (c.given-b.ensures.cell ∙ c.arg-2.ensures.cell)
    ∙ transport_means program scene done o c.args.op m kind c.requires.scope.0 c.requires.scope.1 drain.sound same size (c.kind_or_scalar.ensures ∙ carried_kind program known o c.requires.operation c.requires.scope.1)))
