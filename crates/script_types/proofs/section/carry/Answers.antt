use Rattle.std.proofs.Common.{◌≡◌, ◌+◌, ◌≤◌, ◌<◌, ◌∷◌, [], ◌++◌, sym, ◌∙◌, ap, subst, drop, take, arith}
use Rattle.std.proofs.lemmas.List.{drop_more, take_more}
use Rattle.map_meaning.specs.Limits.{most_operations}
use Rattle.script_types.specs.Lowered.{total_operations}
use Rattle.script_types.specs.Statements.{operations_of}
use Rattle.script_types.specs.inside.Nodes.{held_in}
use Rattle.script_types.specs.inside.Written.{held_before}
use Rattle.script_types.proofs.LineLemmas.{carried-push, total-push}
use Rattle.script_types.proofs.section.carry.Goals as goal
use Rattle.script_types.proofs.section.carry.Goals.{in-Some, in_default}

pub count_with-requires : goal.count_with-requires
count_with-requires c = let r = c.loop-line.invariant.rest in let room = c.requires in omega (arith, r, room)

pub carry_target-requires : goal.carry_target-requires
carry_target-requires c =
    let r = c.loop-line.invariant.rest in
    let room = c.requires in
    let few : c.loop-line.below ≤ 8192 = omega (arith, r, room) in
    elim c.match-count_with.branch [ in-Some w ↦ (let k = w.in-Some.ensures.1 in let e = w.below-is in omega (arith, k, e)) | in_default w ↦ (let e = w.below-is in omega (arith, few, e)) ]

pub loop-line-preserved : goal.loop-line-preserved
loop-line-preserved c =
    let lines = c.args.lines.now in
    let at = c.loop-line.line-index in
    let l = c.line-item.result in
    let rest = drop (at + 1) lines in
    let inv = c.loop-line.invariant in
    let left = drop_more lines at l (omega arith) ∙ ap (λ a. a ∷ rest) (sym c.line-item.is) in
    let front = take_more lines at l (omega arith) ∙ ap (λ a. take at lines ++ a ∷ []) (sym c.line-item.is) in
    let room = c.requires in
    let r : c.loop-line.below + (operations_of l.statement.value + total_operations rest) ≡ total_operations lines = ap (λ xs. c.loop-line.below + total_operations xs) (sym left) ∙ inv.rest in
    let b : c.match-count_with.below ≡ c.loop-line.below + operations_of l.statement.value = elim c.match-count_with.branch as (λ z. c.match-count_with.below ≡ c.loop-line.below + operations_of l.statement.value) [ in-Some w ↦ (w.below-is ∙ w.in-Some.ensures.0) | in_default w ↦ absurd (let many : most_operations < c.loop-line.below + operations_of l.statement.value = w.in_default.ensures in omega (arith, many, r, room)) ] in
    let t = total-push (take at lines) l in
    let f = inv.below in
    let all : c.match-count_with.below ≡ total_operations (take at lines) + operations_of l.statement.value = omega (arith, b, f) in
    record {
      below = all ∙ sym t ∙ ap total_operations (sym front);
      rest = omega (arith, b, r);
      held = λ name. subst (λ ls. held_in c.carry_target.new.holders name ≡ held_before (held_in c.args.holders.now) ls name) (sym front) (carried-push (held_in c.args.holders.now) (take at lines) l c.match-count_with.below name (held_in c.loop-line.holders name) (held_in c.carry_target.new.holders name) all (inv.held name) (c.in_ok-carry_target.ensures name));
    }
