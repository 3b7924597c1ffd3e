use Rattle.std.proofs.Common.{rules, ◌<◌, ℕ, List, ap, map, subst, heap_items, length}
use Rattle.std.specs.Prelude.{Some}
use Rattle.flow_task.specs.inside.Due.{IsLeast, Waiting}
use Rattle.flow_task.proofs.DueLemmas.{top_in, top_least}
use Rattle.flow_task.proofs.due.DueLinks.least.Goals as goal

pub returns-in-Some : goal.returns-in-Some
returns-in-Some c =
    let places = ap (λ (d : Waiting). d.places) c.self.view_is in
    let some : 0 < length (heap_items c.self.inside.heap) = search rules in
    let here : IsLeast (map (λ r. r.0) (heap_items c.self.inside.heap)) (Some c.in-Some.top.now.0) =
    (top_in (λ r. r.0) c.in-Some.top.now (heap_items c.self.inside.heap) some c.in-Some.ensures.lookup, top_least (λ r. r.0) c.in-Some.top.now (heap_items c.self.inside.heap) (c.in-Some.ensures.greatest c.self.invariant)) in
    subst (λ (y : List ℕ). IsLeast y (Some c.in-Some.top.now.0)) places here
