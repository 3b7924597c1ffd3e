use Rattle.std.proofs.Common.{ℕ, List, set, sym, subst, arith, None}
use Rattle.core_model.specs.Steps.{effect}
use Rattle.core_model.specs.declared.step.Step.TheVariants.{PutDown}
use Rattle.task_states.specs.declared.states.TaskState.TheVariants.{Ready}
use Rattle.task_states.specs.States.{ShowsCore}
use Rattle.task_states.proofs.StateLemmas.{put_down_shown, room_more, not_held}
use Rattle.task_states.proofs.states.TaskStates.put_down.Goals as goal

pub push_reserved-requires : goal.push_reserved-requires
push_reserved-requires c =
    let q = c.requires in let m = c.args.self.now in
    let none' = not_held q.0 q.1 q.2 m.states.items m.unmet.items m.claimable.items m.holding.items m.put_downs.items q.3.shown c.args.worker c.args.task q.5 q.6 in
    let l = room_more q.0 q.1 q.2 m.states.items m.unmet.items m.claimable.items m.holding.items m.put_downs.items q.3.shown c.args.task q.5 none' in
    let k = m.claimable.ok.0 in let r = q.3.room in omega arith

pub returns : goal.returns
returns c = λ g n s r b le lt is.
    let m = c.args.self.now in
    record {
      shown = subst (λ (l : List ℕ). ShowsCore g n (effect g s (PutDown c.args.worker c.args.task)) (set m.states.items c.args.task Ready) m.unmet.items l (set m.holding.items c.args.worker None) (set m.put_downs.items c.args.worker mathlib.Core.Bool.true)) (sym c.push_reserved.ensures.items)
          (put_down_shown g n s m.states.items m.unmet.items m.claimable.items m.holding.items m.put_downs.items r.shown c.args.worker c.args.task b le lt is);
      room = let a = r.room in let k = c.push_reserved.ensures.capacity in omega arith;
    }
