use Rattle.std.proofs.Common.{◌≡◌, [], ◌++◌, drop, length, Err, sym, ◌∙◌, ap, append-nil, subst, arith}
use Rattle.std.proofs.Math.Seq.{drop-append_seam}
use Rattle.script_types.specs.declared.typed.Section.TheVariants.{Initial, Dynamic}
use Rattle.script_types.specs.Statements.{counts, lines_below}
use Rattle.script_types.specs.inside.Answers.{AddsAll, IsFew, StandsBelow}
use Rattle.script_types.proofs.Steps.{both-settled, counts-total, dynamic-ends, initial-ends}
use Rattle.script_types.proofs.settle.add_lines.Goals as goal

pub add_section-requires-clause-below : goal.add_section-requires-clause-below
add_section-requires-clause-below c = subst (StandsBelow c.args.script.now c.args.settled.now.scope) (sym c.requires.none) c.requires.below

pub add_section-requires-clause-few : goal.add_section-requires-clause-few
add_section-requires-clause-few c = subst IsFew (sym c.requires.none) (record { in_initial = omega arith; in_dynamic = omega arith })

pub add_section-requires-clause-none : goal.add_section-requires-clause-none
add_section-requires-clause-none c = ap (counts Initial) c.requires.none

pub add_section-requires-clause-room : goal.add_section-requires-clause-room
add_section-requires-clause-room c =
    let none : length c.args.settled.now.lines ≡ 0 = ap length c.requires.none in
    let some = ap length c.as_slice-initial.ensures in
    omega (arith, none, some)

pub add_section-requires-clause-next : goal.add_section-requires-clause-next
add_section-requires-clause-next c =
    let script = c.args.script.now in
    let none : length c.args.settled.now.lines ≡ 0 = ap length c.requires.none in
    (script.dynamic, ap (λ n. drop n (script.initial ++ script.dynamic)) none ∙ ap (λ xs. xs ++ script.dynamic) (sym c.as_slice-initial.ensures))

pub add_section-requires-2-clause-next : goal.add_section-requires-2-clause-next
add_section-requires-2-clause-next c =
    let script = c.args.script.now in
    let none : length c.args.settled.now.lines ≡ 0 = ap length c.requires.none in
    let some = ap length c.as_slice-initial.ensures in
    let count = c.in-Ok.ensures.count in
    let all : length c.add_section.new.lines ≡ length script.initial = omega (arith, none, some, count) in
    ([], ap (λ n. drop n (script.initial ++ script.dynamic)) all ∙ drop-append_seam script.initial script.dynamic ∙ sym c.as_slice-dynamic.ensures ∙ sym (append-nil c.as_slice-dynamic.result.now))

pub returns-in-Err : goal.returns-in-Err
returns-in-Err c =
    let items = c.as_slice-initial.result.now in
    initial-ends c.args.script.now c.in-Err.end c.add_section.new.scope c.add_section.new.lines items c.as_slice-initial.ensures (subst (λ xs. AddsAll (Err c.in-Err.end) c.args.script.now Initial xs items c.add_section.new.scope c.add_section.new.lines) c.requires.none c.in-Err.ensures)

pub returns-in-Err-add_section : goal.returns-in-Err-add_section
returns-in-Err-add_section c =
    let items = c.as_slice-initial.result.now in
    let above = c.add_section.new.lines in
    dynamic-ends c.args.script.now c.in-Err-add_section.end c.add_section-2.new.scope above c.add_section-2.new.lines items c.as_slice-dynamic.result.now c.as_slice-initial.ensures c.as_slice-dynamic.ensures (ap (λ xs. lines_below c.args.script.now Initial xs items) (sym c.requires.none) ∙ c.in-Ok.ensures.settled) c.in-Err-add_section.ensures

pub returns-in-Ok-add_section : goal.returns-in-Ok-add_section
returns-in-Ok-add_section c =
    let script = c.args.script.now in
    let items = c.as_slice-initial.result.now in
    let above = c.add_section.new.lines in
    let lines = c.add_section-2.new.lines in
    let one = c.in-Ok.ensures in
    let two = c.in-Ok-add_section.ensures in
    let none : length c.args.settled.now.lines ≡ 0 = ap length c.requires.none in
    let first = ap length c.as_slice-initial.ensures in
    let second = ap length c.as_slice-dynamic.ensures in (
      both-settled script above lines items c.as_slice-dynamic.result.now c.as_slice-initial.ensures c.as_slice-dynamic.ensures (ap (λ xs. lines_below script Initial xs items) (sym c.requires.none) ∙ one.settled) two.settled,
      record {
        below = two.below;
        count = let m = one.count in let n = two.count in omega (arith, none, first, second, m, n);
        few_initial = let e = counts-total Initial lines in let w = two.few.in_initial in omega (arith, e, w);
        few_dynamic = let e = counts-total Dynamic lines in let w = two.few.in_dynamic in omega (arith, e, w);
      },
    )
