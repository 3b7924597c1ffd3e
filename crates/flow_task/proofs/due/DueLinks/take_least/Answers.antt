use Rattle.std.proofs.Common.{rules, ◌≡◌, ◌∙◌, ◌<◌, ℕ, List, [], ap, map, subst, heap_items, length}
use Rattle.std.specs.Prelude.{Some}
use Rattle.flow_task.specs.inside.Due.{IsLeast, Waiting, place_times}
use Rattle.flow_task.proofs.DueLemmas.{none_in, popped_times, top_in, top_least}
use Rattle.flow_task.proofs.due.DueLinks.take_least.Goals as goal
use Rattle.flow_task.proofs.due.DueLinks.take_least.Goals.{in-Some, in-None}

pub returns-clause-least : goal.returns-clause-least
returns-clause-least c =
    let places = ap (λ (d : Waiting). d.places) c.self.view_is in
    elim c.match-pop.branch [
      | in-Some w ↦
          let some : 0 < length (heap_items c.self.inside.heap) = search rules in
          let here : IsLeast (map (λ r. r.0) (heap_items c.self.inside.heap)) (Some w.in-Some.top.0) =
          (top_in (λ r. r.0) w.in-Some.top (heap_items c.self.inside.heap) some w.in-Some.ensures.top, top_least (λ r. r.0) w.in-Some.top (heap_items c.self.inside.heap) (w.in-Some.ensures.heap_order c.self.invariant).1) in
          rw w.result-is (subst (λ (y : List ℕ). IsLeast y (Some w.in-Some.top.0)) places here)
      | in-None w ↦
          let none : length (heap_items c.self.inside.heap) ≡ 0 = search rules in
          rw w.result-is (subst (λ (y : List ℕ). y ≡ []) places (none_in (λ r. r.0) (heap_items c.self.inside.heap) none))
    ]

pub returns-clause-times : goal.returns-clause-times
returns-clause-times c = elim c.match-pop.branch [
  | in-Some w ↦ rw w.result-is (λ (k : ℕ). popped_times (λ r. r.0) w.in-Some.top _ _ w.in-Some.ensures.permutation k ∙ ap (λ (d : Waiting). place_times d.places k) c.self.view_is)
  | in-None w ↦ rw w.result-is tt
]
