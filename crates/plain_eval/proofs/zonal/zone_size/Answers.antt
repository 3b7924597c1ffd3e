-- The areas are those of the definition.
use Rattle.map_meaning.specs.Rules as rule
use Rattle.plain_eval.specs.inside.Held.{done_of}
use Rattle.plain_eval.specs.inside.Sections.{scene_in}
use Rattle.plain_eval.proofs.ScopeLemmas.{alone_means}
use Rattle.plain_eval.proofs.zonal.zone_size.Goals as goal

pub returns : goal.returns
returns c =
    let o = c.args.operation in
    let program = c.args.program.now in
    let known = c.args.known.now in
    let scene = scene_in program c.args.span known in
    let done = done_of program c.args.span known c.args.held.now in
    let means = alone_means program scene done o rule.ZoneSize c.requires.scope.0 c.requires.scope.1 in
    rw (c.arg.ensures.cell, means) at c.areas.ensures
