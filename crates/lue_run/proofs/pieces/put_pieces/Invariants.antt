use Rattle.std.proofs.Common.{[], drop}
use Rattle.lue_run.specs.inside.Pieces.{Writing, with_pieces}
use Rattle.lue_run.proofs.pieces.put_pieces.Given as goal

-- what is left to be written is that of the pieces that are left
abbrev pub invariant-loop-piece : goal.invariant-loop-piece
invariant-loop-piece g l =
    let state = g.S.Sink.state in
    Writing (with_pieces [] l.pieces) (state l.fn.out) (drop l.piece-index l.pieces) (state l.out)
