use Rattle.std.proofs.Common.{rules, ◌≡◌, ◌+◌, sym, ◌∙◌, ap, length}
use Rattle.turn_cell.proofs.AuthorLemmas.{length_below}
use Rattle.tile_runtime.specs.inside.Knowledge.{plan_of_board}
use Rattle.tile_runtime.proofs.EndLemmas.{continues_more}
use Rattle.tile_runtime.proofs.run.run_board.Goals as goal

pub close-requires-clause-all : goal.close-requires-clause-all
close-requires-clause-all g c = ap length c.in_scope-root.ensures.root.authors ∙ (length_below (c.workers-workers.result + 1) ∙ sym c.in-Ok.ensures.cell.1)

pub returns-clause-continues : goal.returns-clause-continues
returns-clause-continues g c =
    let e : plan_of_board c.close.result ≡ plan_of_board c.args.board = search rules in
    continues_more c.args.board c.close.result c.complete.result c.requires.empty e c.complete.ensures.continues
