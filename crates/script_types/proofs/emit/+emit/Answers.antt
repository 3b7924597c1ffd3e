use Rattle.std.proofs.Common.{rules, ◌≡◌, ◌+◌, ◌*◌, ◌-◌, ◌<◌, ◌≤◌, [], ◌∷◌, take, refl, ◌++◌, length, map, drop, sym, ◌∙◌, ap, subst, arith}
use Rattle.std.proofs.lemmas.List.{drop_more, drop_all, take_more, take_all}
use Rattle.map_meaning.specs.Trees.{meaning_of, operations_in}
use Rattle.script_types.specs.Lowered.{as_listed, numbered_operations, post_order}
use Rattle.script_types.specs.Names.{joined_lists}
use Rattle.script_types.specs.Statements.{operations_of}
use Rattle.script_types.specs.inside.Fits.{fits}
use Rattle.script_types.specs.inside.Nodes.{held_in}
use Rattle.script_types.specs.inside.Sections.{own_operand}
use Rattle.script_types.specs.inside.Values.{Emits, EmitsAll, HasOperands}
use Rattle.script_types.specs.inside.Written.{IsOperationOn, ListsTree}
use Rattle.script_types.proofs.EmitLemmas.{emits-call, emits-leaf, emits-none, emits-push}
use Rattle.script_types.proofs.FitLemmas.{fits-mask-is, pass-next}
use Rattle.script_types.proofs.NodeLemmas.{call-count, call-fits}
use Rattle.script_types.proofs.PostOrder.{leaf-lists, list-next, lists-all, lists-call, lists-leaf, lists-mask, room-next}
use Rattle.script_types.proofs.TreeCounts.{none-more}
use Rattle.script_types.proofs.TreeSizes.{call-larger, mask-larger, one-of, size, sizes}
use Rattle.script_types.proofs.emit.+emit.Goals as goal

pub emit-emit_all-requires : goal.emit-emit_all-requires
emit-emit_all-requires t c =
    let op = c.in-Operation in
    let items = op.operands.now in
    let e : size c.args.tree.now ≡ sizes items + 1 = call-larger c.args.tree.now op.kind op.op op.file op.window items op.ensures in
    let n : operations_of c.args.tree.now ≡ operations_in (map meaning_of items) + 1 = call-count c.args.tree.now op.kind op.op op.file op.window items op.ensures in
    let whole = c.requires.room in
    let room : length c.args.ops.now + operations_in (map meaning_of items) ≤ 8192 = omega (arith, n, whole) in
    let smaller : 2 * sizes items + 2 < 2 * size c.args.tree.now + 1 = omega (arith, e) in
    search rules

pub emit-operation_on-requires-clause-few : goal.emit-operation_on-requires-clause-few
emit-operation_on-requires-clause-few t c =
    let op = c.in-Operation in
    let items = op.operands.now in
    let n : operations_of c.args.tree.now ≡ operations_in (map meaning_of items) + 1 = call-count c.args.tree.now op.kind op.op op.file op.window items op.ensures in
    let whole = c.requires.room in
    let k = c.in_ok-found-in-Operation.ensures.listed.count in
    let l : c.len-number.result ≡ length c.emit_all.new.ops = c.len-number.ensures in
    omega (arith, n, whole, k, l)

pub emit-overflow_cast-number : goal.emit-overflow_cast-number
emit-overflow_cast-number t c =
    let op = c.in-Operation in
    let items = op.operands.now in
    let n : operations_of c.args.tree.now ≡ operations_in (map meaning_of items) + 1 = call-count c.args.tree.now op.kind op.op op.file op.window items op.ensures in
    let whole = c.requires.room in
    let k = c.in_ok-found-in-Operation.ensures.listed.count in
    let l : c.len-number.result ≡ length c.emit_all.new.ops = c.len-number.ensures in
    omega (arith, n, whole, k, l)

pub emit-emit_all-requires-in-Mask : goal.emit-emit_all-requires-in-Mask
emit-emit_all-requires-in-Mask t c =
    let items = c.in-Mask.operands.now in
    let e : size c.args.tree.now ≡ sizes items + 1 = mask-larger c.args.tree.now items c.in-Mask.ensures in
    let n : operations_of c.args.tree.now ≡ operations_in (map meaning_of items) = ap operations_of c.in-Mask.ensures ∙ none-more items in
    let whole = c.requires.room in
    let room : length c.args.ops.now + operations_in (map meaning_of items) ≤ 8192 = omega (arith, n, whole) in
    let smaller : 2 * sizes items + 2 < 2 * size c.args.tree.now + 1 = omega (arith, e) in
    search rules

pub emit-returns-in-There-clause-listed : goal.emit-returns-in-There-clause-listed
emit-returns-in-There-clause-listed t c = lists-leaf c.args.ops.now c.args.at.statement c.args.at.first c.args.tree.now (leaf-lists c.args.numbers.now (held_in c.args.holders.now) c.args.tree.now c.in-There.operand c.in-There.ensures)

pub emit-returns-in-There-clause-emits : goal.emit-returns-in-There-clause-emits
emit-returns-in-There-clause-emits t c = λ g e f. emits-leaf c.args.at.section g (held_in c.args.holders.now) c.args.numbers.now e c.args.ops.now c.args.at.statement c.args.at.first c.requires.first c.args.tree.now c.in-There.operand c.in-There.ensures f

pub emit-returns-in_ok-push-in-Operation-clause-listed : goal.emit-returns-in_ok-push-in-Operation-clause-listed
emit-returns-in_ok-push-in-Operation-clause-listed t c =
    let op = c.in-Operation in
    let p = subst (IsOperationOn c.operation_on.result op.op op.kind c.args.at) c.len-number.ensures c.operation_on.ensures.operation in
    subst (λ xs. ListsTree c.args.ops.now xs c.args.at.statement c.args.at.first c.args.tree.now) (sym c.in_ok-push-in-Operation.ensures.ok) (lists-call c.args.ops.now c.emit_all.new.ops c.args.at c.args.tree.now op.kind op.op op.file op.window op.operands.now c.operation_on.result op.ensures c.requires.first c.in_ok-found-in-Operation.ensures.listed p)

pub emit-returns-in_ok-push-in-Operation-clause-emits : goal.emit-returns-in_ok-push-in-Operation-clause-emits
emit-returns-in_ok-push-in-Operation-clause-emits t c = λ g e f.
    let op = c.in-Operation in
    let items = op.operands.now in
    let o = c.operation_on.result in
    let s = c.args.at.section in
    let st = c.args.at.statement in
    let fi = c.args.at.first in
    let tree = c.args.tree.now in
    let now = c.emit_all.new.ops in
    let holder = held_in c.args.holders.now in
    let found = c.in_ok-found-in-Operation in
    let p = subst (IsOperationOn o op.op op.kind c.args.at) c.len-number.ensures c.operation_on.ensures.operation in
    let has = subst (HasOperands o op.file op.window) c.as_slice.ensures.value c.operation_on.ensures.operands in
    let fit = call-fits g tree op.kind op.op op.file op.window items op.ensures f in
    let done = emits-call s g holder c.args.ops.now now st fi tree op.kind op.op op.file op.window items found.found.items o op.ensures fit c.requires.first p.op_is p.kind_is p.statement p.number has (found.ensures.emits g e fit.operands) in
    let pushed = subst (λ ops. Emits s g holder c.args.ops.now ops st fi tree (own_operand s (length now))) (sym c.in_ok-push-in-Operation.ensures.ok) done in
    subst (Emits s g holder c.args.ops.now c.push.new.self st fi tree) (sym (c.own_operand.ensures ∙ ap (own_operand s) c.len-number.ensures)) pushed

pub emit-returns-in_ok-emit_all-in-Mask-clause-listed : goal.emit-returns-in_ok-emit_all-in-Mask-clause-listed
emit-returns-in_ok-emit_all-in-Mask-clause-listed t c = lists-mask c.args.ops.now c.emit_all-in-Mask.new.ops c.args.at.statement c.args.at.first c.args.tree.now c.in-Mask.operands.now c.in-Mask.ensures c.in_ok-emit_all-in-Mask.ensures.listed

pub emit-returns-in_ok-emit_all-in-Mask-clause-emits : goal.emit-returns-in_ok-emit_all-in-Mask-clause-emits
emit-returns-in_ok-emit_all-in-Mask-clause-emits t c = λ g e f. let z = sym (ap (fits g) c.in-Mask.ensures ∙ fits-mask-is g c.in-Mask.operands.now) ∙ f in cc

pub emit_all-loop-tree-init : goal.emit_all-loop-tree-init
emit_all-loop-tree-init t c = record {
  first = c.requires.first;
  room = refl;
  listed = refl;
  values = λ g e f. (subst (EmitsAll c.args.at.section g (held_in c.args.holders.now) c.args.ops.now c.args.ops.now c.args.at.statement c.args.at.first []) (sym c.new-found.ensures.items) (emits-none c.args.at.section g (held_in c.args.holders.now) c.args.ops.now c.args.at.statement c.args.at.first), f);
}

pub emit_all-emit-requires : goal.emit_all-emit-requires
emit_all-emit-requires t c =
    let items = c.args.trees.now in
    let at = c.loop-tree.tree-index in
    let x = c.tree-item.result in
    let left = drop_more items at x (omega arith) ∙ ap (λ a. a ∷ drop (at + 1) items) (sym c.tree-item.is) in
    let whole = ap (λ xs. length c.loop-tree.ops + operations_in (map meaning_of xs)) (sym left) ∙ c.loop-tree.invariant.room in
    let r : length c.loop-tree.ops + operations_of x ≤ 8192 = room-next x (drop (at + 1) items) items (length c.args.ops.now) (length c.loop-tree.ops) whole c.requires.room in
    let k : size x ≤ sizes items = one-of items at x (drop (at + 1) items) left in
    let smaller : 2 * size x + 1 < 2 * sizes items + 2 = omega (arith, k) in
    search rules

pub emit_all-loop-tree-preserved : goal.emit_all-loop-tree-preserved
emit_all-loop-tree-preserved t c =
    let items = c.args.trees.now in
    let at = c.loop-tree.tree-index in
    let x = c.tree-item.result in
    let rest = drop (at + 1) items in
    let begun = c.args.ops.now in
    let old = c.loop-tree.ops in
    let inv = c.loop-tree.invariant in
    let st = c.args.at.statement in
    let fi = c.args.at.first in
    let s = c.args.at.section in
    let holder = held_in c.args.holders.now in
    let left = drop_more items at x (omega arith) ∙ ap (λ a. a ∷ rest) (sym c.tree-item.is) in
    let front = take_more items at x (omega arith) ∙ ap (λ a. take at items ++ a ∷ []) (sym c.tree-item.is) in
    let h = c.in_ok-operand.ensures.listed in
    let k = h.count in
    let r : length old + (operations_of x + operations_in (map meaning_of rest)) ≡ length begun + operations_in (map meaning_of items) = ap (λ xs. length old + operations_in (map meaning_of xs)) (sym left) ∙ inv.room in
    let f : fi ≤ length old = inv.first in
    record {
      first = omega (arith, k, f);
      room = omega (arith, k, r);
      listed = list-next old c.emit.new.ops st fi x (joined_lists (map post_order rest)) f h ∙ ap (λ xs. map as_listed old ++ numbered_operations st (length old - fi + 1) (joined_lists (map post_order xs))) (sym left) ∙ inv.listed;
      values = λ g e fit.
          let iv = inv.values g e fit in
          let here = pass-next (fits g) (drop at items) x rest left iv.1 in
          let one = c.in_ok-operand.ensures.emits g e here.0 in (
            subst (λ ts. EmitsAll s g holder begun c.emit.new.ops st fi ts c.push.new.self.items) (sym front) (subst (EmitsAll s g holder begun c.emit.new.ops st fi (take at items ++ x ∷ [])) (sym c.in_ok-push.ensures.items) (emits-push s g holder begun old c.emit.new.ops st fi (take at items) c.loop-tree.found.items x c.in_ok-operand.operand c.requires.first iv.0 one)),
            here.1,
          );
    }

pub emit_all-returns-clause-listed : goal.emit_all-returns-clause-listed
emit_all-returns-clause-listed t c =
    let items = c.args.trees.now in
    let at = c.loop-tree.tree-index in
    let begun = c.args.ops.now in
    let now = c.loop-tree.ops in
    let st = c.args.at.statement in
    let fi = c.args.at.first in
    let none = sym (drop_all at items (omega arith)) in
    lists-all begun now st fi items (ap (λ xs. length now + operations_in (map meaning_of xs)) none ∙ c.loop-tree.invariant.room) (ap (λ xs. map as_listed now ++ numbered_operations st (length now - fi + 1) (joined_lists (map post_order xs))) none ∙ c.loop-tree.invariant.listed)

pub emit_all-returns-clause-emits : goal.emit_all-returns-clause-emits
emit_all-returns-clause-emits t c = λ g e f. subst (λ ts. EmitsAll c.args.at.section g (held_in c.args.holders.now) c.args.ops.now c.loop-tree.ops c.args.at.statement c.args.at.first ts c.loop-tree.found.items) (take_all c.loop-tree.tree-index c.args.trees.now (omega arith)) (c.loop-tree.invariant.values g e f).0
