use Rattle.round_runtime.proofs.GrowLemmas.{free_idle, idle_round}
use Rattle.round_runtime.proofs.run.one_round.Goals as goal

pub go_round-requires-clause-free : goal.go_round-requires-clause-free
go_round-requires-clause-free g c κs within = free_idle c.args.board.now c.workers-workers.result c.plan-plan.ensures.keeps c.requires.idle

pub returns-clause-idle : goal.returns-clause-idle
returns-clause-idle g c =
    let h = c.in_ok-_gone.ensures in
    idle_round c.workers-workers.result c.args.board.now c.go_round.new.board c.plan-plan.ensures.keeps c.go_round.ensures.legal c.requires.idle h.grows h.free
