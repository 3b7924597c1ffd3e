use Rattle.std.proofs.Common.{◌≡◌, sym}
use Rattle.drain_meaning.specs.declared.next.Next.TheVariants as next
use Rattle.drain_meaning.specs.Drains.{next_at}
use Rattle.drain_meaning.proofs.Callers.{next_inside}
use Rattle.drain_ops.proofs.PathSteps.{path_shorter}
use Rattle.drain_ops.proofs.TrailLemmas.{leads_missing, leads_step}
use Rattle.drain_ops.proofs.up.go_down.Goals as goal

pub loop-at-smaller : goal.loop-at-smaller
loop-at-smaller c =
    let e : next_at c.args.drain.now c.loop-at.at ≡ next.Cell c.in-Cell.down = sym c.in-Cell.ensures in
    path_shorter c.args.drain.now c.requires.drain.sound c.loop-at.at c.in-Cell.down (λ k. cc (k, e)) e

pub loop-at-preserved : goal.loop-at-preserved
loop-at-preserved c =
    let e : next_at c.args.drain.now c.loop-at.at ≡ next.Cell c.in-Cell.down = sym c.in-Cell.ensures in
    rw c.in_ok-push-in-Cell.ensures.items (leads_step c.args.drain.now c.args.place _ c.loop-at.at c.in-Cell.down c.loop-at.invariant e (next_inside c.args.drain.now c.requires.drain.map c.loop-at.at c.in-Cell.down e))

pub returns-in-Missing-clause-leads : goal.returns-in-Missing-clause-leads
returns-in-Missing-clause-leads c = leads_missing c.args.drain.now c.args.place c.args.ended.now _ c.loop-at.at c.requires.drain c.loop-at.invariant (sym c.in-Missing.ensures)
