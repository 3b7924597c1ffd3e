use Rattle.std.proofs.Common.{◌≡◌, map, refl, sym, ◌∙◌, ap, subst, inl, inr, arith}
use Rattle.std.specs.Prelude.{slice_index_or}
use Rattle.map_meaning.specs.declared.program.DrainFrom.TheVariants as drain
use Rattle.map_meaning.specs.declared.program.Operand.TheVariants.{Unused}
use Rattle.map_meaning.specs.declared.tree.Tree.TheVariants as tree
use Rattle.map_meaning.specs.Trees.{meaning_of, operations_in}
use Rattle.script_types.specs.Statements.{operations_of}
use Rattle.script_types.specs.inside.Drains.{drain_named}
use Rattle.script_types.specs.inside.Nodes.{held_in}
use Rattle.script_types.specs.inside.Values.{EmitsDrain}
use Rattle.script_types.specs.inside.Written.{ListsTrees}
use Rattle.script_types.proofs.EmitDrains.{emits-mask, emits-same, mask-fits}
use Rattle.script_types.proofs.PostOrder.{lists-mask}
use Rattle.script_types.proofs.TreeCounts.{none-more}
use Rattle.script_types.proofs.drains.emit_drain.Goals as goal

pub emit_all-requires-clause-room : goal.emit_all-requires-clause-room
emit_all-requires-clause-room c =
    let n : operations_of c.args.tree.now ≡ operations_in (map meaning_of c.as_slice.result.now) = ap operations_of c.in-Mask.is ∙ none-more c.in-Mask.operands ∙ ap (λ ts. operations_in (map meaning_of ts)) (sym c.as_slice.ensures) in
    let room = c.requires.room in
    omega (arith, n, room)

pub returns-in_ok-found-in-Mask-clause-listed : goal.returns-in_ok-found-in-Mask-clause-listed
returns-in_ok-found-in-Mask-clause-listed c = record {
  tree = lists-mask c.args.ops.now c.emit_all.new.ops c.args.at.statement c.args.at.first c.args.tree.now c.in-Mask.operands c.in-Mask.is (subst (ListsTrees c.args.ops.now c.emit_all.new.ops c.args.at.statement c.args.at.first) c.as_slice.ensures c.in_ok-found-in-Mask.ensures.listed);
  computed = refl;
}

pub returns-in_ok-found-in-Mask-clause-emits : goal.returns-in_ok-found-in-Mask-clause-emits
returns-in_ok-found-in-Mask-clause-emits c = λ g e f.
    let s = c.args.at.section in
    let holder = held_in c.args.holders.now in
    let old = c.args.ops.now in
    let new = c.emit_all.new.ops in
    let st = c.args.at.statement in
    let fi = c.args.at.first in
    let xs = c.in_ok-found-in-Mask.found.items in
    let args = c.as_slice.result.now in
    let is = c.in-Mask.is ∙ ap tree.Mask (sym c.as_slice.ensures) in
    let all = c.in_ok-found-in-Mask.ensures.emits g e (mask-fits g c.args.tree.now args is f) in
    let of_is = c.drain_named-of.ensures ∙ ap drain_named (c.operand_at.ensures ∙ ap (λ ys. slice_index_or ys 0 Unused) c.as_slice-in-Mask.ensures.value) in
    let by_is = c.operand_at-by.ensures ∙ ap (λ ys. slice_index_or ys 1 Unused) c.as_slice-in-Mask-2.ensures.value in
    subst (λ of. EmitsDrain s g holder old new st fi c.args.tree.now (drain.Mask of c.operand_at-by.result)) (sym of_is) (subst (λ by. EmitsDrain s g holder old new st fi c.args.tree.now (drain.Mask (drain_named (slice_index_or xs 0 Unused)) by)) (sym by_is) (emits-mask s g holder old new st fi c.args.tree.now args xs is all))

pub returns-in_ok-operand-in_default : goal.returns-in_ok-operand-in_default
returns-in_ok-operand-in_default c = record {
  listed = record { tree = c.in_ok-operand-in_default.ensures.listed; computed = refl };
  emits = λ g e f.
      let s = c.args.at.section in
      let holder = held_in c.args.holders.now in
      let old = c.args.ops.now in
      let new = c.emit.new.ops in
      let x = c.in_ok-operand-in_default.operand in
      elim f as (λ z. EmitsDrain s g holder old new c.args.at.statement c.args.at.first c.args.tree.now (drain.Same c.drain_named.result)) [
        | inl h ↦ subst (λ n. EmitsDrain s g holder old new c.args.at.statement c.args.at.first c.args.tree.now (drain.Same n)) (sym c.drain_named.ensures) (emits-same s g holder old new c.args.at.statement c.args.at.first c.args.tree.now x (c.in_ok-operand-in_default.ensures.emits g e h))
        | inr m ↦ absurd (c.in_default.not-Mask m.operands m.is)
      ];
}
