use Rattle.std.proofs.Common.{ℕ, ◌<◌, List, subst, arith}
use Rattle.core_model.specs.Graphs.{Each}
use Rattle.task_states.specs.States.{ShowsCore}
use Rattle.task_states.proofs.ListLemmas.{each_last}
use Rattle.task_states.proofs.StateLemmas.{claimed}
use Rattle.task_states.proofs.states.TaskStates.claim.Goals as goal

pub index_mut-requires : goal.index_mut-requires
index_mut-requires c =
    let e = subst (λ (l : List ℕ). Each (λ k. k < c.requires.0.tasks) l) c.in-Some.ensures.items c.requires.3.shown.claimable_in in
    let lt = (each_last (λ k. k < c.requires.0.tasks) c.pop.new.self.items c.in-Some.task e).1 in
    let a = c.requires.3.shown.all_states in
    let l = c.args.self.now.states.ok.0 in omega arith

pub returns-in-Some : goal.returns-in-Some
returns-in-Some c = λ g n s r le none'.
    let h = subst (λ (l : List ℕ). ShowsCore g n s c.args.self.now.states.items c.args.self.now.unmet.items l c.args.self.now.holding.items c.args.self.now.put_downs.items) c.in-Some.ensures.items r.shown in
    let p = claimed g n s c.args.self.now.states.items c.args.self.now.unmet.items c.pop.new.self.items c.args.self.now.holding.items c.args.self.now.put_downs.items c.args.worker c.in-Some.task h le none' in
    (p.0, p.1, record { shown = p.2; room = let a = r.room in let b = c.in-Some.ensures.capacity in omega arith })
