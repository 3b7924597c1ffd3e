use Rattle.std.proofs.Common.{◌≡◌, ◌+◌, ◌-◌, length, take, drop, refl, ◌∙◌, ap, arith, length-append}
use Rattle.std.proofs.lemmas.List.{length-drop, take_all}
use Rattle.script_types.specs.declared.typed.Section.TheVariants.{Initial, Dynamic}
use Rattle.script_types.specs.Lowered.{lines_in}
use Rattle.script_types.specs.inside.Drains.{drain_numbers, input_uses}
use Rattle.script_types.specs.inside.Nodes.{held_in}
use Rattle.script_types.specs.inside.Scopes.{binding_in}
use Rattle.script_types.specs.inside.Written.{held_before}
use Rattle.script_types.proofs.ProgramLemmas.{drains-room, drop-first, nothing-held, take-first, uses-few, written-same}
use Rattle.script_types.proofs.program.write_lines.Goals as goal

pub write_section-requires-clause-few_drains : goal.write_section-requires-clause-few_drains
write_section-requires-clause-few_drains c =
    let lines = c.args.lines.now in
    let n = c.initial_count-count.result in
    let count = c.initial_count-count.ensures in
    let first = ap length (take-first lines (lines_in Initial lines) (lines_in Dynamic lines) n c.requires.ordered count) in
    let both = ap length c.requires.ordered ∙ length-append (lines_in Initial lines) (lines_in Dynamic lines) in
    let uses = ap length c.in_ok-numbers.ensures.drains in
    let few = uses-few 0 c.args.inputs.now in
    let inputs = c.requires.few_inputs in
    let all = c.requires.few in
    omega (arith, first, both, uses, few, inputs, all)

pub write_section-requires-2-clause-few_drains : goal.write_section-requires-2-clause-few_drains
write_section-requires-2-clause-few_drains c =
    let lines = c.args.lines.now in
    let n = c.initial_count-count.result in
    let ordered = c.requires.ordered in
    let count = c.initial_count-count.ensures in
    let w = c.in_ok-initial.ensures in
    let first : take n lines ≡ lines_in Initial lines = take-first lines (lines_in Initial lines) (lines_in Dynamic lines) n ordered count in
    let rest : take (length lines - n) (drop n lines) ≡ lines_in Dynamic lines = (let l = length-drop n lines in take_all (length lines - n) (drop n lines) (omega (arith, l))) ∙ drop-first lines (lines_in Initial lines) (lines_in Dynamic lines) n ordered count in
    let both = ap length ordered ∙ length-append (lines_in Initial lines) (lines_in Dynamic lines) in
    let xs = ap length first in
    let ys = ap length rest in
    let all = c.requires.few in
    drains-room c.args.inputs.now (take n lines) (take (length lines - n) (drop n lines)) c.write_input_drains.new.drains c.write_section.new.drains w.added c.requires.few_inputs (omega (arith, both, xs, ys, all)) c.in_ok-numbers.ensures.drains w.drains_in w.shown

pub returns : goal.returns
returns c =
    let lines = c.args.lines.now in
    let inputs = c.args.inputs.now in
    let n = c.initial_count-count.result in
    let bound = binding_in c.args.scope.now in
    let ordered = c.requires.ordered in
    let count = c.initial_count-count.ensures in
    let start = held_in c.new-holders.result in
    let held = held_in c.write_section.new.holders in
    let before = held_in c.carry.new.holders in
    let later = held_in c.write_section-2.new.holders in
    let mid = c.write_section.new.outputs in
    let first : take n lines ≡ lines_in Initial lines = take-first lines (lines_in Initial lines) (lines_in Dynamic lines) n ordered count in
    let rest : take (length lines - n) (drop n lines) ≡ lines_in Dynamic lines = (let l = length-drop n lines in take_all (length lines - n) (drop n lines) (omega (arith, l))) ∙ drop-first lines (lines_in Initial lines) (lines_in Dynamic lines) n ordered count in
    record {
      none = start;
      none_is = nothing-held c.new-holders.result c.new-holders.ensures;
      held = held;
      middle_drains = c.write_section.new.drains;
      middle = mid;
      initial = written-same Initial bound _ (drain_numbers 0 inputs) start _ 1 _ (lines_in Initial lines) held c.in_ok-initial.initial _ (input_uses 0 inputs) c.write_section.new.drains _ _ mid
          (c.as_slice.ensures.value ∙ c.in_ok-numbers.ensures.numbers) refl first c.in_ok-numbers.ensures.drains c.new-outputs.ensures c.in_ok-initial.ensures;
      before = before;
      before_is = λ name. c.in_ok-carry.ensures name ∙ ap (λ ls. held_before held ls name) rest;
      later = later;
      dynamic = written-same Dynamic bound _ (drain_numbers 0 inputs) before _ (length (lines_in Initial lines) + 1) _ (lines_in Dynamic lines) later c.in_ok-dynamic.dynamic _ c.write_section.new.drains c.write_section-2.new.drains _ mid c.write_section-2.new.outputs
          (c.as_slice-2.ensures.value ∙ c.in_ok-numbers.ensures.numbers) (ap (λ k. k + 1) count) rest refl refl c.in_ok-dynamic.ensures;
    }
