use Rattle.std.proofs.Common.{◌≡◌, ◌∙◌, ◌+◌, ◌<◌, ℕ, ap, subst, sym, arith, length, take, get_or, true, false}
use Rattle.std.proofs.lemmas.List.{get_or_default}
use Rattle.std.specs.List.{Contains}
use Rattle.flow_task.specs.inside.Due.{Waiting}
use Rattle.flow_task.specs.inside.Kept.{link_at}
use Rattle.flow_task.proofs.DueLemmas.{ArePartly, not_before_it, partly_off, partly_on, room_for}
use Rattle.flow_task.proofs.Turns.{next_of, queue_has}
use Rattle.flow_task.proofs.due.add_cell.Goals as goal
use Rattle.flow_task.proofs.due.add_cell.Goals.{then-index, else-index}

pub index-requires : goal.index-requires
index-requires c =
    let queue = c.args.queue.now.items in
    let cell = next_of queue c.args.at c.index-cell.result.now c.requires.at c.index-cell.ensures in
    let low = c.requires.can.inside c.index-cell.result.now (subst (λ (n : ℕ). Contains queue n) (sym cell) (queue_has queue c.args.at c.requires.at)) in
    omega (arith, low)

pub overflow_add-cell : goal.overflow_add-cell
overflow_add-cell c =
    let queue = c.args.queue.now.items in
    let cell = next_of queue c.args.at c.index-cell.result.now c.requires.at c.index-cell.ensures in
    let low = c.requires.can.inside c.index-cell.result.now (subst (λ (n : ℕ). Contains queue n) (sym cell) (queue_has queue c.args.at c.requires.at)) in
    omega (arith, low, c.requires.can.few)

pub add-requires : goal.add-requires
add-requires c =
    let queue = c.args.queue.now.items in
    let links = c.args.outbound.now.items in
    let k : ℕ = c.loop-k.k in
    let within : k < length links = omega (arith, c.first_link-k-end.ensures.within) in
    let low = c.first_link-k.ensures.above k (omega arith) within in
    let high = c.first_link-k-end.ensures.below k (omega arith) in
    let is : (link_at links k).cell ≡ c.index-cell.result.now = omega (arith, low, high) in
    let cell = next_of queue c.args.at c.index-cell.result.now c.requires.at c.index-cell.ensures in
    let out = not_before_it queue c.args.at c.index-cell.result.now c.requires.can.apart c.requires.at cell in
    let few = room_for links c.args.unsent.now.items (take c.args.at queue) c.index-cell.result.now k c.loop-k.due.places c.requires.can.many is out within c.loop-k.invariant.due in
    omega (arith, few, c.requires.can.room, c.loop-k.invariant.room)

pub loop-k-preserved : goal.loop-k-preserved
loop-k-preserved c =
    let queue = c.args.queue.now.items in
    let links = c.args.outbound.now.items in
    let unsent = c.args.unsent.now.items in
    let k : ℕ = c.loop-k.k in
    let within : k < length links = omega (arith, c.first_link-k-end.ensures.within) in
    let low = c.first_link-k.ensures.above k (omega arith) within in
    let high = c.first_link-k-end.ensures.below k (omega arith) in
    let is : (link_at links k).cell ≡ c.index-cell.result.now = omega (arith, low, high) in
    let cell = next_of queue c.args.at c.index-cell.result.now c.requires.at c.index-cell.ensures in
    let out = not_before_it queue c.args.at c.index-cell.result.now c.requires.can.apart c.requires.at cell in
    let read = get_or_default unsent k c.index-in-loop-k.result.now false (omega (arith, within, c.requires.can.many)) in
    elim c.if-index.branch [
      | then-index w ↦
          let on : get_or unsent k false ≡ true = sym read ∙ (sym c.index-in-loop-k.ensures ∙ w.if-index.true) in
          record {
            due = subst (λ (d : Waiting). ArePartly links unsent (take c.args.at queue) c.index-cell.result.now (k + 1) d.places) (sym w.due-is)
                (partly_on links unsent (take c.args.at queue) c.index-cell.result.now k c.loop-k.due.places w.add.new.self.places is out on w.add.ensures.times c.loop-k.invariant.due);
            room = (let more = ap (λ (d : Waiting). d.room) w.due-is in omega (arith, more, w.add.ensures.room, c.loop-k.invariant.room));
          }
      | else-index w ↦
          let off : get_or unsent k false ≡ false = sym read ∙ (sym c.index-in-loop-k.ensures ∙ w.if-index.false) in
          record {
            due = subst (λ (d : Waiting). ArePartly links unsent (take c.args.at queue) c.index-cell.result.now (k + 1) d.places) (sym w.due-is)
                (partly_off links unsent (take c.args.at queue) c.index-cell.result.now k c.loop-k.due.places off c.loop-k.invariant.due);
            room = (let more = ap (λ (d : Waiting). d.room) w.due-is in omega (arith, more, c.loop-k.invariant.room));
          }
    ]
