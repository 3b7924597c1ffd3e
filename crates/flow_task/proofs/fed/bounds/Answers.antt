use Rattle.std.proofs.Common.{arith, ◌∙◌, ℕ, ap, get_or, []}
use Rattle.number_lists.specs.inside.Joined.{lists_of}
use Rattle.number_lists.proofs.ListLemmas.{end_within, first_list, later_at, order_at}
use Rattle.flow_task.proofs.fed.bounds.Goals as goal

pub returns-then-i-eq0-clause-list : goal.returns-then-i-eq0-clause-list
returns-then-i-eq0-clause-list c = λ items. let some = c.requires.i in
    ap (λ (k : ℕ). get_or (lists_of 0 c.args.ends.now items) k []) c.if-i-eq0.true ∙ first_list 0 c.args.ends.now items (omega arith)

pub returns-then-i-eq0-clause-within : goal.returns-then-i-eq0-clause-within
returns-then-i-eq0-clause-within c = (end_within 0 c.args.ends.now c.args.last 0 c.requires.ends (omega arith)).1

pub returns-clause-list : goal.returns-clause-list
returns-clause-list c = λ items. later_at c.args.ends.now items c.args.i c.if-i-eq0.false c.requires.i

pub returns-clause-order : goal.returns-clause-order
returns-clause-order c = order_at c.args.ends.now c.args.last c.args.i c.requires.ends c.if-i-eq0.false c.requires.i

pub returns-clause-within : goal.returns-clause-within
returns-clause-within c = (end_within 0 c.args.ends.now c.args.last c.args.i c.requires.ends c.requires.i).1
