-- The first Over stands at a place of the map.
use Rattle.std.proofs.Common.{◌≡◌, ◌<◌, ◌*◌, ◌∙◌, sym, ap, arith}
use Rattle.std.specs.Prelude.{Some, Err, Result}
use Rattle.tile_map.specs.declared.part.Part.{Part}
use Rattle.map_meaning.specs.declared.known.OverAt.{OverAt}
use Rattle.map_meaning.specs.Evaluation.{operation_part}
use Rattle.map_meaning.specs.Maps.{WholeMap}
use Rattle.map_meaning.specs.Overs.{map_or_over}
use Rattle.plain_eval.specs.inside.Held.{done_of}
use Rattle.plain_eval.specs.inside.Sections.{scene_in}
use Rattle.plain_eval.proofs.Parts.{over_below}
use Rattle.plain_eval.proofs.value.value.Goals as goal

pub over_at-requires-clause-few : goal.over_at-requires-clause-few
over_at-requires-clause-few g c =
    let known = c.args.known.now in
    let program = c.args.program.now in
    let scene = scene_in program c.args.span known in
    let done = done_of program c.args.span known c.args.held.now in
    let is : (operation_part program scene done c.args.operation).over ≡ Some c.in-Some.place = sym (ap (λ (p : Part). p.over) c.in_ok-cells.ensures) ∙ c.in-Some.is in
    let below : c.in-Some.place < known.rows * known.cols = over_below program scene done c.args.operation c.in-Some.place is in
    omega (arith, below, c.requires.few)

pub returns-in-Some : goal.returns-in-Some
returns-in-Some g c =
    let program = c.args.program.now in
    let o = c.args.operation in
    let scene = scene_in program c.args.span c.args.known.now in
    let part = operation_part program scene (done_of program c.args.span c.args.known.now c.args.held.now) o in
    let is : part.over ≡ Some c.in-Some.place = sym (ap (λ (p : Part). p.over) c.in_ok-cells.ensures) ∙ c.in-Some.is in
    ap (λ (at : OverAt). let told : Result WholeMap OverAt = Err at in told) (c.over_at.ensures program)
    ∙ sym (ap (λ over. map_or_over scene o.statement o.number over part.cells) is)
