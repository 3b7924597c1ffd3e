use Rattle.std.proofs.Common.{ℕ, subst}
use Rattle.round_runtime.specs.Rounds.{GrowsByWorkers}
use Rattle.round_runtime.proofs.GrowLemmas.{grows_more, grows_none, grows_workers, nearer_round}
use Rattle.round_runtime.proofs.run.run_rounds.Goals as goal

pub loop-alloc-init : goal.loop-alloc-init
loop-alloc-init g c = (grows_none c.args.board.workers c.args.board, c.requires.idle)

pub loop-alloc-preserved : goal.loop-alloc-preserved
loop-alloc-preserved g c =
    let i = c.loop-alloc.invariant in let b = c.args.board in let last = c.args.board.workers in
    let grows : GrowsByWorkers last c.loop-alloc.board c.one_round.new.board = subst (λ (n : ℕ). GrowsByWorkers n c.loop-alloc.board c.one_round.new.board) (grows_workers last b c.loop-alloc.board i.0) c.in_ok-one_round.ensures.grows in
    (grows_more last b c.loop-alloc.board c.one_round.new.board i.0 grows, c.in_ok-one_round.ensures.idle)

pub loop-alloc-smaller : goal.loop-alloc-smaller
loop-alloc-smaller g c =
    let i = c.loop-alloc.invariant in let b = c.args.board in let last = c.args.board.workers in
    let grows : GrowsByWorkers last c.loop-alloc.board c.one_round.new.board = subst (λ (n : ℕ). GrowsByWorkers n c.loop-alloc.board c.one_round.new.board) (grows_workers last b c.loop-alloc.board i.0) c.in_ok-one_round.ensures.grows in
    nearer_round last b c.loop-alloc.board c.one_round.new.board c.plan-plan.ensures.keeps c.one_round.ensures.legal i.0 grows c.in_ok-one_round.ensures.moves
