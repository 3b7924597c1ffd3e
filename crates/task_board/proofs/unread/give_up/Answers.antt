use Rattle.std.proofs.Common.{ℕ, ◌<◌, List, length, get_or, refl, arith}
use Rattle.task_states.proofs.Callers.{each_get, owed_here}
use Rattle.task_board.proofs.ReadLemmas.{read_more}
use Rattle.task_board.proofs.unread.give_up.Goals as goal

pub overflow_sub-left : goal.overflow_sub-left
overflow_sub-left c =
    let xs : List ℕ = c.args.needs.now in let i : ℕ = c.loop-need.need-index in let r : ℕ = get_or xs i 0 in
    owed_here xs i r refl (omega arith) (get_or c.args.unread.now r 0) (get_or c.loop-need.unread r 0) (c.loop-need.invariant.counts r) (c.requires.owed r)

pub loop-need-preserved : goal.loop-need-preserved
loop-need-preserved c =
    let xs : List ℕ = c.args.needs.now in let i : ℕ = c.loop-need.need-index in let r : ℕ = get_or xs i 0 in
    let i_lt : i < length xs = omega arith in
    let within = each_get (λ k. k < length c.args.unread.now) xs i 0 c.requires.within i_lt in
    let lt : r < length c.loop-need.unread = (let a = c.loop-need.auto.unread in omega arith) in
    let some = owed_here xs i r refl i_lt (get_or c.args.unread.now r 0) (get_or c.loop-need.unread r 0) (c.loop-need.invariant.counts r) (c.requires.owed r) in
    read_more c.args.tiles.now c.loop-need.tiles c.let_go.new.tiles c.args.unread.now c.loop-need.unread c.args.kept.now xs i r refl i_lt c.loop-need.invariant lt some
    c.let_go.ensures.gone c.let_go.ensures.same
