use Rattle.task_states.proofs.StateLemmas.{park_shown}
use Rattle.task_states.proofs.states.TaskStates.park.Goals as goal

pub returns : goal.returns
returns c = λ g n s r le lt is none'.
    let m = c.args.self.now in
    record { shown = park_shown g n s m.states.items m.unmet.items m.claimable.items m.holding.items m.put_downs.items r.shown c.args.worker c.args.task le lt is none'; room = r.room }
