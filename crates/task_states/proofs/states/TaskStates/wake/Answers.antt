use Rattle.std.proofs.Common.{◌≡◌, ℕ, ◌<◌, List, length, set, sym, ◌∙◌, subst, arith}
use Rattle.core_model.specs.Steps.{sent_on}
use Rattle.task_states.specs.declared.states.TaskState.TheVariants.{Ready, Parked, Due}
use Rattle.task_states.specs.States.{ShowsCore, state_at}
use Rattle.task_states.proofs.ListLemmas.{get_any}
use Rattle.task_states.proofs.StateLemmas.{woken_shown, room_more, not_parked}
use Rattle.task_states.proofs.states.TaskStates.wake.Goals as goal

pub push_reserved-requires : goal.push_reserved-requires
push_reserved-requires c =
    let q = c.requires in let m = c.args.self.now in
    let inside : c.args.task < length m.states.items = (let a = q.3.shown.all_states in let b = q.4 in omega arith) in
    let at : state_at m.states.items c.args.task ≡ Parked = get_any m.states.items c.args.task Ready c.index.result.now inside ∙ sym c.index.ensures ∙ c.in-Parked.is in
    let none' = not_parked q.0 q.1 q.2 m.states.items m.unmet.items m.claimable.items m.holding.items m.put_downs.items q.3.shown c.args.task q.4 at in
    let l = room_more q.0 q.1 q.2 m.states.items m.unmet.items m.claimable.items m.holding.items m.put_downs.items q.3.shown c.args.task q.4 none' in
    let k = m.claimable.ok.0 in let r = q.3.room in omega arith

pub returns-in-Parked : goal.returns-in-Parked
returns-in-Parked c = λ g n s e r lt c_lt i.
    let m = c.args.self.now in
    let inside : c.args.task < length m.states.items = (let a = r.shown.all_states in omega arith) in
    let at : state_at m.states.items c.args.task ≡ Parked = get_any m.states.items c.args.task Ready c.index.result.now inside ∙ sym c.index.ensures ∙ c.in-Parked.is in
    record {
      shown = subst (λ (l : List ℕ). ShowsCore g n (sent_on g s e) (set m.states.items c.args.task Due) m.unmet.items l m.holding.items m.put_downs.items) (sym c.push_reserved.ensures.items)
          (woken_shown g n s m.states.items m.unmet.items m.claimable.items m.holding.items m.put_downs.items r.shown e c.args.task lt c_lt i at);
      room = let a = r.room in let k = c.push_reserved.ensures.capacity in omega arith;
    }
