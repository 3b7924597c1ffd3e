use Rattle.std.proofs.Common.{◌≡◌, ◌+◌, ◌<◌, ◌∷◌, [], ◌++◌, length, sym, ◌∙◌, ap, subst, drop, take, arith}
use Rattle.std.proofs.lemmas.List.{drop_more, length-take-le, take_more}
use Rattle.script_types.specs.Lowered.{total_operations}
use Rattle.script_types.specs.Statements.{operations_of}
use Rattle.script_types.specs.inside.Nodes.{held_in}
use Rattle.script_types.specs.inside.Scopes.{binding_in}
use Rattle.script_types.specs.inside.Written.{AddsLine, AreWritten}
use Rattle.script_types.proofs.LineLemmas.{adds-count, adds-drains, written-none, written-push}
use Rattle.script_types.proofs.section.write_section.Goals as goal

pub loop-number-init : goal.loop-number-init
loop-number-init c =
    let start = held_in c.args.holders.now in
    let bound = binding_in c.args.scope.now in
    let none = c.new-ops.ensures in
    record {
      room = ap (λ ops. length ops + total_operations c.args.lines.now) none ∙ (let z : 0 + total_operations c.args.lines.now ≡ total_operations c.args.lines.now = omega arith in z);
      few = omega arith;
      written = subst (λ ops. AreWritten c.args.section bound c.args.numbers.now start (c.args.above + 1) [] start ops c.args.drains.now c.args.drains.now c.args.outputs.now c.args.outputs.now) (sym none) (written-none c.args.section bound c.args.numbers.now start (c.args.above + 1) c.args.drains.now c.args.outputs.now);
    }

pub loop-number-preserved : goal.loop-number-preserved
loop-number-preserved c =
    let lines = c.args.lines.now in
    let at = c.loop-number.number in
    let l = c.index-lines-number.result in
    let rest = drop (at + 1) lines in
    let inv = c.loop-number.invariant in
    let old = c.loop-number.ops in
    let new = c.write_line.new.ops in
    let ds = c.loop-number.drains in
    let more = c.write_line.new.drains in
    let s = c.args.section in
    let start = held_in c.args.holders.now in
    let bound = binding_in c.args.scope.now in
    let below : at < length lines = c.loop-number-test.true in
    let left = drop_more lines at l below ∙ ap (λ a. a ∷ rest) (sym c.index-lines-number.is) in
    let front = take_more lines at l below ∙ ap (λ a. take at lines ++ a ∷ []) (sym c.index-lines-number.is) in
    let a = c.in_ok-write_line.ensures in
    let r : length old + (operations_of l.statement.value + total_operations rest) ≡ total_operations lines = ap (λ xs. length old + total_operations xs) (sym left) ∙ inv.room in
    let k = adds-count s bound c.args.numbers.now (held_in c.loop-number.holders) (held_in c.write_line.new.holders) old new ds more c.loop-number.outputs c.write_line.new.outputs _ l a in
    let d = adds-drains s bound c.args.numbers.now (held_in c.loop-number.holders) (held_in c.write_line.new.holders) old new ds more c.loop-number.outputs c.write_line.new.outputs _ l a in
    let many = length-take-le at lines (omega (arith, below)) in
    let few = inv.few in
    let number : c.args.above + at + 1 ≡ c.args.above + 1 + length (take at lines) = omega (arith, many) in
    record {
      room = omega (arith, k, r);
      few = omega (arith, d, few);
      written = subst (λ ls. AreWritten s bound c.args.numbers.now start (c.args.above + 1) ls (held_in c.write_line.new.holders) new c.args.drains.now more c.args.outputs.now c.write_line.new.outputs) (sym front)
          (written-push s bound c.args.numbers.now start (held_in c.loop-number.holders) (held_in c.write_line.new.holders) (c.args.above + 1) (take at lines) l old new c.args.drains.now ds more c.args.outputs.now c.loop-number.outputs c.write_line.new.outputs inv.written
          (subst (λ n. AddsLine s bound c.args.numbers.now (held_in c.loop-number.holders) (held_in c.write_line.new.holders) old new ds more c.loop-number.outputs c.write_line.new.outputs n l) number a));
    }
