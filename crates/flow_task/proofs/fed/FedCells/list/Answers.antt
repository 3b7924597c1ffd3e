use Rattle.std.proofs.Common.{arith, ◌≡◌, ◌∙◌, ℕ, ◌-◌, ◌<◌, sym, ap, subst, length, List, [], get_or, take, drop}
use Rattle.number_lists.specs.inside.Joined.{lists_of}
use Rattle.number_lists.proofs.ListLemmas.{count_lists}
use Rattle.flow_task.proofs.fed.FedCells.list.Goals as goal

pub bounds-start-requires-clause-i : goal.bounds-start-requires-clause-i
bounds-start-requires-clause-i c =
    let ends = c.self.inside.ends.items in
    let all : length c.args.self.now ≡ length ends = ap length (sym c.self.view_is) ∙ count_lists 0 ends c.self.inside.cells.items in
    subst (λ (xs : List ℕ). c.args.i < length xs) (sym c.as_slice.ensures.value) (omega (arith, c.requires))

pub returns : goal.returns
returns c =
    let items = c.self.inside.cells.items in
    let start = c.bounds-start.result.0 in
    ap (λ (xs : List ℕ). take (c.bounds-start.result.1 - start) (drop start xs)) c.deref.ensures.value
    ∙ (sym (c.bounds-start.ensures.list items)
    ∙ (ap (λ (xs : List ℕ). get_or (lists_of 0 xs items) c.args.i []) c.as_slice.ensures.value
    ∙ ap (λ (xss : List (List ℕ)). get_or xss c.args.i []) c.self.view_is))
