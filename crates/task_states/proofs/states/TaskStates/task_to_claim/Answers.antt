use Rattle.std.proofs.Common.{◌≡◌, ℕ, ◌-◌, ◌<◌, List, length, get_or, sym, ◌∙◌, subst, arith}
use Rattle.core_model.specs.Graphs.{In}
use Rattle.task_states.proofs.ListLemmas.{each_get, in_get, times_in, no_items, get_any}
use Rattle.task_states.proofs.StateLemmas.{can_claim}
use Rattle.task_states.proofs.states.TaskStates.task_to_claim.Goals as goal

pub returns-then-count-eq0 : goal.returns-then-count-eq0
returns-then-count-eq0 c = λ g n s r. no_items c.args.self.now.claimable.items (let a = c.args.self.now.claimable.ok.0 in let b = c.len-count.ensures in let d = c.if-count-eq0.true in omega arith)

pub returns : goal.returns
returns c = λ g n s r.
    let m = c.args.self.now in
    let xs : List ℕ = m.claimable.items in
    let i : ℕ = c.len-count.result - 1 in
    let v : ℕ = c.index.result.now in
    let i_lt : i < length xs = (let a = m.claimable.ok.0 in let b = c.len-count.ensures in let d : 0 < c.len-count.result = omega (arith, c.if-count-eq0.false) in omega arith) in
    let at : v ≡ get_or xs i 0 = c.index.ensures ∙ get_any xs i v 0 i_lt in
    let lt : v < g.tasks = subst (λ z. z < g.tasks) (sym at) (each_get (λ t. t < g.tasks) xs i 0 r.shown.claimable_in i_lt) in
    (lt, can_claim g n s m.states.items m.unmet.items xs m.holding.items m.put_downs.items r.shown v lt (times_in v xs (subst (λ z. In z xs) (sym at) (in_get xs i 0 i_lt))))
