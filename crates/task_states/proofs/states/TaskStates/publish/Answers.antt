use Rattle.std.proofs.Common.{◌≡◌, ℕ, ◌<◌, List, length, get_or, set, ap, sym, ◌∙◌, subst, arith, None}
use Rattle.core_model.specs.Graphs.{Each}
use Rattle.core_model.specs.Steps.{effect}
use Rattle.core_model.specs.declared.step.Step.TheVariants.{Publish}
use Rattle.task_states.specs.declared.states.TaskState.{TaskState}
use Rattle.task_states.specs.declared.states.TaskState.TheVariants.{Ready, Published}
use Rattle.task_states.specs.States.{ShowsCore, state_at, due}
use Rattle.number_lists.specs.Turned.{times}
use Rattle.task_states.proofs.ListLemmas.{items_back}
use Rattle.task_states.proofs.StateLemmas.{readers_ready, readers_owed, publish_shown}
use Rattle.task_states.proofs.states.TaskStates.publish.Goals as goal

pub release-requires-clause-ready : goal.release-requires-clause-ready
release-requires-clause-ready c =
    let q = c.requires in let m = c.args.self.now in
    rw (c.as_slice.ensures.value, c.as_mut_slice.ensures.value) (subst (λ n. Each (λ r. (r < n) × (state_at (set m.states.items c.args.task Published) r ≡ Ready)) c.args.readers.now) (sym q.3.shown.all_unmet)
    (readers_ready q.0 q.1 q.2 m.states.items m.unmet.items m.claimable.items m.holding.items m.put_downs.items q.3.shown c.args.worker c.args.task c.args.readers.now q.4 q.6 q.7 q.8))

pub release-requires-clause-owed : goal.release-requires-clause-owed
release-requires-clause-owed c =
    let q = c.requires in let m = c.args.self.now in
    rw c.as_mut_slice.ensures.value (readers_owed q.0 q.1 q.2 m.states.items m.unmet.items m.claimable.items m.holding.items m.put_downs.items q.3.shown c.args.worker c.args.task c.args.readers.now q.6 q.7 q.8)

pub release-requires-clause-within : goal.release-requires-clause-within
release-requires-clause-within c =
    let q = c.requires in let m = c.args.self.now in rw c.as_mut_slice.ensures.value (subst (λ n. Each (λ t. t < n) m.claimable.items) (sym q.3.shown.all_unmet) q.3.shown.claimable_in)

pub returns : goal.returns
returns c = λ g n s r b le lt is reads.
    let m = c.args.self.now in
    let e = c.release.ensures in
    let us : List ℕ = c.release.new.unmet in
    let cs : List ℕ = c.release.new.claimable.items in
    let all = r.shown.all_unmet in
    let v : c.as_mut_slice.result.now ≡ m.unmet.items = c.as_mut_slice.ensures.value in
    let len : length us ≡ length m.unmet.items = c.release.auto.unmet ∙ ap length v in
    let same : length c.as_mut_slice.result.now ≡ g.tasks = ap length v ∙ all in
    let due' : (u : ℕ) → u < g.tasks → times u cs ≡ due (state_at (set m.states.items c.args.task Published) u) (get_or us u 0) =
    λ u u_lt. e.due u (subst (λ n. u < n) (sym same) u_lt) ∙ ap (λ (l : List TaskState). due (state_at l u) (get_or us u 0)) c.as_slice.ensures.value in
    record {
      shown = subst (λ (l : List ℕ). ShowsCore g n (effect g s (Publish c.args.worker c.args.task)) (set m.states.items c.args.task Published) l cs (set m.holding.items c.args.worker None) m.put_downs.items) (sym (items_back m.unmet us len))
          (publish_shown g n s m.states.items m.unmet.items m.claimable.items m.holding.items m.put_downs.items r.shown c.args.worker c.args.task c.args.readers.now us cs le lt is reads
          len (λ k. e.unmet k ∙ ap (λ (l : List ℕ). get_or l k 0) v) due' (subst (λ n. Each (λ t. t < n) cs) same e.within));
      room = let a = r.room in let k = e.room in omega arith;
    }
