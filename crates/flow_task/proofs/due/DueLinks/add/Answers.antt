use Rattle.std.proofs.Common.{◌≡◌, ◌∙◌, ◌+◌, ap, arith, heap_items, length}
use Rattle.std.specs.Prelude.{◌==◌}
use Rattle.std.specs.Result.{is_ok}
use Rattle.std.specs.Prelude.{true}
use Rattle.std.proofs.lemmas.List.{length-map}
use Rattle.flow_task.specs.inside.Due.{Waiting, place_times}
use Rattle.flow_task.specs.inside.Underway.{one_if}
use Rattle.flow_task.proofs.DueLemmas.{opened, pushed_times}
use Rattle.flow_task.proofs.due.DueLinks.add.Goals as goal

pub returns-clause-times : goal.returns-clause-times
returns-clause-times c = λ k.
    let many = length-map (heap_items c.self.inside.heap) (λ r. r.0) in
    let seen = ap (λ (d : Waiting). length d.places) c.self.view_is in
    let room = ap (λ (d : Waiting). d.room) c.self.view_is in
    let ok : is_ok c.push.result ≡ true = c.push.ensures.succeeds (omega (arith, c.requires, many, seen, room)) in
    pushed_times (λ r. r.0) _ _ _ (opened c.push.result ok c.push.ensures.permutation) k
    ∙ ap (λ (d : Waiting). one_if (c.args.place == k) + place_times d.places k) c.self.view_is
