use Rattle.std.proofs.Common.{◌≡◌, ℕ, List, ◌++◌, OnOk, subst}
use Rattle.drain_meaning.specs.declared.next.Next.TheVariants as next
use Rattle.drain_meaning.specs.Drains.{next_at}
use Rattle.border_channel.proofs.DrainingLemmas.{from_down, from_up, none_more}
use Rattle.border_channel.proofs.fed.push_fed.Goals as goal

pub returns-in-Up : goal.returns-in-Up
returns-in-Up c = subst (λ (y : List ℕ). OnOk c.push_upward.result (c.push_upward.new.into.items ≡ c.args.into.now.items ++ y)) (from_up c.args.drain.now c.args.orient c.args.cell c.in-Up.is) c.push_upward.ensures

pub returns-in_ok-push-in-Cell : goal.returns-in_ok-push-in-Cell
returns-in_ok-push-in-Cell c =
    let there : next_at c.args.drain.now c.args.cell ≡ next.Cell c.in-Cell.target = cc (c.next.ensures, c.in-Cell.is) in
    subst (λ (y : List ℕ). c.push.new.self.items ≡ c.args.into.now.items ++ y) (from_down c.args.drain.now c.args.orient c.args.cell c.in-Cell.target c.in-Down.is there) c.in_ok-push-in-Cell.ensures.items

pub returns-in-Pit : goal.returns-in-Pit
returns-in-Pit c = none_more c.args.drain.now c.args.orient c.args.cell c.next.result c.args.into.now.items c.in-Down.is c.next.ensures c.in-Pit.is
