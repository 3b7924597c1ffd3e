-- The loop over pieces.
use Rattle.std.proofs.Common.{◌≡◌, ℕ, List, [], ◌∷◌, ◌+◌, ◌<◌, length, get_or, drop, sym, ap, subst, ◌∙◌, add-one, drop-cons}
use Rattle.std.specs.Prelude.{Ok, Err, Result, IsErrAnd}
use Rattle.std.proofs.lemmas.List.{drop_all}
use Rattle.outside_io.specs.State.{SinkState}
use Rattle.outside_io.specs.declared.sink.SinkFailed.{SinkFailed}
use Rattle.lue_run.specs.declared.pieces.Piece.{Piece}
use Rattle.lue_run.specs.inside.Pieces.{PutsLine, WroteCut, Writing, with_pieces}
use Rattle.lue_run.proofs.PieceLemmas.{writing_cut, writing_done, writing_on, writing_start}
use Rattle.lue_run.proofs.pieces.put_pieces.Goals as goal

-- the next piece stands in front of those that are left
here : (pieces : List Piece) (i : ℕ) (none : Piece) → i < length pieces → drop i pieces ≡ get_or pieces i none ∷ drop (i + 1) pieces
here pieces i none below = drop-cons pieces i none below ∙ ap (λ k. get_or pieces i none ∷ drop k pieces) (sym (add-one i))

-- a `?` hands the error on
cut_out : (bytes : List ℕ) (old new : SinkState) (result : Result (Unit {0}) SinkFailed) (e : SinkFailed) → IsErrAnd result (λ end. end ≡ e) → WroteCut old new bytes → PutsLine bytes old new result
cut_out bytes old new (Ok done) e is w = absurd is
cut_out bytes old new (Err end) e is w = w

pub loop-piece-init : goal.loop-piece-init
loop-piece-init g c = writing_start c.args.pieces.now (g.S.Sink.state c.args.out.now)

pub returns-in_err-put_piece : goal.returns-in_err-put_piece
returns-in_err-put_piece g c =
    let state = g.S.Sink.state in
    let pieces = c.args.pieces.now in
    let whole = with_pieces [] pieces in
    let old = state c.args.out.now in
    let mid = state c.loop-piece.out in
    cut_out whole _ _ c.from_residual.result _ c.from_residual.ensures.1
    (writing_cut whole old mid _ _ _ (subst (λ left. Writing whole old left mid) (here pieces c.loop-piece.piece-index _ c.loop-piece-test.true) c.loop-piece.invariant) c.in_err-put_piece.ensures)

pub loop-piece-preserved : goal.loop-piece-preserved
loop-piece-preserved g c =
    let state = g.S.Sink.state in
    let pieces = c.args.pieces.now in
    let whole = with_pieces [] pieces in
    let old = state c.args.out.now in
    let mid = state c.loop-piece.out in
    writing_on whole old mid _ _ _ (subst (λ left. Writing whole old left mid) (here pieces c.loop-piece.piece-index _ c.loop-piece-test.true) c.loop-piece.invariant) c.in_ok-put_piece.ensures

pub returns : goal.returns
returns g c =
    let state = g.S.Sink.state in
    let pieces = c.args.pieces.now in
    let whole = with_pieces [] pieces in
    let old = state c.args.out.now in
    let mid = state c.loop-piece.out in
    writing_done whole old mid (subst (λ left. Writing whole old left mid) (drop_all c.loop-piece.piece-index pieces c.loop-piece-test.false) c.loop-piece.invariant)
