use Rattle.std.proofs.Common.{◌≡◌, ℕ, ◌+◌, ◌<◌, List, length, get_or, ap, sym, ◌∙◌, subst, arith}
use Rattle.core_model.specs.Graphs.{In}
use Rattle.border_channel.specs.Channels.{Queue, empty_queue}
use Rattle.task_states.proofs.Callers.{each_get, get_any, in_get}
use Rattle.task_board.specs.inside.Channels.{numbers_from, queue_at}
use Rattle.task_board.proofs.ChannelLemmas.{length-numbers, number_at}
use Rattle.task_board.proofs.channels.waiting_channel.Goals as goal

pub bounds-channels-c : goal.bounds-channels-c
bounds-channels-c c =
    let ns : List ℕ = numbers_from c.args.first c.args.places.now in
    let k : ℕ = c.loop-place.place-index in
    let l = length-numbers c.args.first c.args.places.now in
    subst (λ (n : ℕ). n < length c.args.channels.now) (number_at c.args.first c.args.places.now k (omega arith))
    (each_get (λ z. z < length c.args.channels.now) ns k 0 c.requires (omega arith))

pub returns-then-len-gt0 : goal.returns-then-len-gt0
returns-then-len-gt0 c =
    let ns : List ℕ = numbers_from c.args.first c.args.places.now in
    let k : ℕ = c.loop-place.place-index in
    let n : ℕ = c.args.first + get_or c.args.places.now k 0 in
    let l = length-numbers c.args.first c.args.places.now in
    let is = number_at c.args.first c.args.places.now k (omega arith) in
    let lt : n < length c.args.channels.now = subst (λ (z : ℕ). z < length c.args.channels.now) is (each_get (λ z. z < length c.args.channels.now) ns k 0 c.requires (omega arith)) in
    let at : queue_at c.args.channels.now n ≡ c.index-channels-c.result = get_any c.args.channels.now n (empty_queue 0) c.index-channels-c.result lt ∙ sym c.index-channels-c.is in (
      subst (λ (z : ℕ). In z ns) is (in_get ns k 0 (omega arith)),
      λ e. let z : length c.index-channels-c.result.messages ≡ 0 = ap (λ (q : Queue). length q.messages) (sym at) ∙ ap length e in absurd (omega (arith, z, c.len.ensures, c.if-len-gt0.true)),
    )
