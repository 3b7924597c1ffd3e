-- The windows are those of the definition.
use Rattle.std.proofs.Common.{◌*◌}
use Rattle.tile_map.specs.Args.{arg_cell}
use Rattle.tile_map.proofs.PartLemmas.{length-tabulate}
use Rattle.map_meaning.specs.Rules as rule
use Rattle.plain_eval.specs.inside.Held.{done_of}
use Rattle.plain_eval.specs.inside.Sections.{scene_in}
use Rattle.plain_eval.proofs.ScopeLemmas.{alone_means}
use Rattle.plain_eval.proofs.focal.focal.Goals as goal

pub whole_windows-requires-clause-cells : goal.whole_windows-requires-clause-cells
whole_windows-requires-clause-cells c = rw c.sheet.ensures (length-tabulate (arg_cell c.arg-values.result) (c.args.known.now.rows * c.args.known.now.cols))

pub returns : goal.returns
returns c =
    let o = c.args.operation in
    let program = c.args.program.now in
    let known = c.args.known.now in
    let scene = scene_in program c.args.span known in
    let done = done_of program c.args.span known c.args.held.now in
    let means = alone_means program scene done o (rule.Focal c.args.op) c.requires.scope.0 c.requires.scope.1 in
    rw (c.sheet.ensures, c.arg-values.ensures.cell, means) at c.whole_windows.ensures
