use Rattle.std.proofs.Common.{◌≡◌, ap, sym, ◌∙◌, arith, length}
use Rattle.task_states.proofs.StateLemmas.{opening_shown}
use Rattle.task_states.proofs.states.TaskStates.make.Goals as goal

pub returns : goal.returns
returns c = λ g counts.
    let e = c.in_ok-claimable.ensures in
    let us = c.args.unmet.items in
    let v : c.as_slice.result.now ≡ us = c.as_slice.ensures.value in
    record {
      shown = opening_shown g c.args.workers c.in_ok-states.states.items us c.in_ok-claimable.claimable.items c.in_ok-holding.holding.items c.in_ok-put_downs.put_downs.items
          counts (c.in_ok-states.ensures.all ∙ c.len-tasks.ensures ∙ c.args.unmet.ok.0) c.in_ok-states.ensures.each
          (rw (sym v) e.within) (rw (sym v) e.due) c.in_ok-holding.ensures.all c.in_ok-holding.ensures.each c.in_ok-put_downs.ensures.all c.in_ok-put_downs.ensures.each;
      room = let a = e.room in let l = ap length v in let p = counts.0 in omega arith;
    }
