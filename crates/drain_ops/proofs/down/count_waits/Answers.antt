use Rattle.std.proofs.Common.{◌∙◌, ◌≡◌, ◌+◌, inl, inr, arith, sym}
use Rattle.drain_meaning.specs.declared.next.Next.TheVariants as next
use Rattle.drain_meaning.specs.Drains.{next_at}
use Rattle.drain_meaning.specs.Paths.{IsDirected}
use Rattle.drain_meaning.proofs.Callers.{next_directed, next_inside}
use Rattle.drain_ops.proofs.FirstWaits.{FirstWaits, first_few, first_missing, first_on, first_rest}
use Rattle.drain_ops.proofs.down.count_waits.Goals as goal
use Rattle.drain_ops.proofs.down.count_waits.Goals.{in-Cell, in-Pit, in-Missing}

pub bounds-waits-down : goal.bounds-waits-down
bounds-waits-down c =
    let low = next_inside c.args.drain.now c.cell_number-place-end.ensures.sound.map c.loop-place.place c.in-Cell.down (sym c.in-Cell.ensures) in
    omega (arith, low, c.loop-place.invariant.many)

pub bounds-waits-down-in-Cell : goal.bounds-waits-down-in-Cell
bounds-waits-down-in-Cell c =
    let low = next_inside c.args.drain.now c.cell_number-place-end.ensures.sound.map c.loop-place.place c.in-Cell.down (sym c.in-Cell.ensures) in
    omega (arith, low, c.loop-place.invariant.many)

pub overflow_add-waits : goal.overflow_add-waits
overflow_add-waits c =
    let drain = c.cell_number-place-end.ensures.sound in
    let e : next_at c.args.drain.now c.loop-place.place ≡ next.Cell c.in-Cell.down = sym c.in-Cell.ensures in
    let here : IsDirected c.args.drain.now c.loop-place.place = λ k. cc (k, e) in
    let few = first_few c.args.drain.now c.loop-place.place c.in-Cell.down c.loop-place.waits c.loop-place.invariant (next_directed _ _ _ (drain.sound _ here) e) in
    omega (arith, few)

pub loop-place-preserved : goal.loop-place-preserved
loop-place-preserved c =
    let drain = c.cell_number-place-end.ensures.sound in
    elim c.match-next.branch [
      | in-Cell w ↦
          let e : next_at c.args.drain.now c.loop-place.place ≡ next.Cell w.in-Cell.down = sym w.in-Cell.ensures in
          let low = next_inside c.args.drain.now drain.map c.loop-place.place w.in-Cell.down e in
          rw w.waits-is (first_on c.args.drain.now c.loop-place.place w.in-Cell.down c.loop-place.waits drain c.loop-place.invariant (omega arith) low e)
      | in-Pit w ↦ elim w.in-Pit.is as (λ _. FirstWaits c.args.drain.now (c.loop-place.place + 1) c.match-next.waits) [
        | inl p ↦
            let e : next_at c.args.drain.now c.loop-place.place ≡ next.Pit = sym c.next.ensures ∙ p in
            rw w.waits-is (first_rest c.args.drain.now c.loop-place.place c.loop-place.waits c.loop-place.invariant (λ k. cc (k, e)) (λ d k. cc (k, e)))
        | inr p ↦
            let e : next_at c.args.drain.now c.loop-place.place ≡ next.Outside = sym c.next.ensures ∙ p in
            rw w.waits-is (first_rest c.args.drain.now c.loop-place.place c.loop-place.waits c.loop-place.invariant (λ k. cc (k, e)) (λ d k. cc (k, e)))
      ]
      | in-Missing w ↦ rw w.waits-is (first_missing c.args.drain.now c.loop-place.place 4294967295 c.loop-place.waits c.loop-place.invariant (omega arith) (λ k. omega (arith, k)) (sym w.in-Missing.ensures))
    ]
