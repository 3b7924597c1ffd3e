-- The operands are those of the definition, and so is the work.
use Rattle.map_meaning.specs.Programs.{kinds_of}
use Rattle.map_meaning.specs.Scenes.{setting_at}
use Rattle.plain_eval.specs.inside.Held.{done_of}
use Rattle.plain_eval.specs.inside.Sections.{scene_in}
use Rattle.span_operands.proofs.Callers.{part_means, work_is}
use Rattle.plain_eval.proofs.local.local.Goals as goal

pub cell_part-requires-clause-work : goal.cell_part-requires-clause-work
cell_part-requires-clause-work c =
    let o = c.args.operation in
    let program = c.args.program.now in
    let is = rw c.span_start.ensures at c.work.ensures in
    work_is c.work.result o.op (setting_at (scene_in program c.args.span c.args.known.now) o.file o.window (kinds_of program o)) o.kind is c.requires.operation.kinds

pub returns : goal.returns
returns c =
    let o = c.args.operation in
    let program = c.args.program.now in
    let known = c.args.known.now in
    let scene = scene_in program c.args.span known in
    let done = done_of program c.args.span known c.args.held.now in
    let is = rw c.span_start.ensures at c.work.ensures in
    let means = part_means program scene done o c.work.result c.requires.scope.1 is in
    rw (c.arg.ensures.cell, c.arg-2.ensures.cell, c.arg-3.ensures.cell, c.arg-4.ensures.cell, means) at c.cell_part.ensures
