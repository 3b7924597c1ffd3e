use Rattle.std.proofs.Common.{◌∙◌, sym, subst}
use Rattle.std.specs.Arc.{arc_value}
use Rattle.task_board.specs.Boards.{BoardValue, IsTileFor}
use Rattle.task_board.specs.Tickets.{IsGood, work_in}
use Rattle.task_board.proofs.EndLemmas.{gives_tile}
use Rattle.task_board.proofs.board.Board.finished.Goals as goal

pub returns : goal.returns
returns g c =
    let k = c.args.ticket.now in
    let o = work_in g.K.FlowKit.work_of k in
    subst (λ (v : BoardValue). IsTileFor v k.task (arc_value c.in_ok-tile.tile)) c.self.view_is
    (gives_tile c.self.invariant.plan c.self.invariant.of c.settled_works_give_their_tiles.ensures k.worker k.task o c.in_ok-part.part (arc_value c.in_ok-tile.tile)
    (subst (λ (v : BoardValue). IsGood v k.worker k.task o) (sym c.self.view_is) c.requires.good) c.requires.end c.in_ok-part.ensures (c.in_ok-tile.ensures.ok ∙ c.of_part.ensures))
