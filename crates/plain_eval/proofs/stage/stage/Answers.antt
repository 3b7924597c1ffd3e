-- One operation after others.
use Rattle.std.proofs.Common.{◌≡◌, ◌+◌, ◌<◌, ℕ, ◌∙◌, [], length, sym, ap, arith}
use Rattle.std.specs.Prelude.{List, Option, Some}
use Rattle.map_meaning.specs.declared.known.StageEnd.{StageEnd}
use Rattle.map_meaning.specs.declared.known.StepMap.{StepMap}
use Rattle.map_meaning.specs.Maps.{WholeMap}
use Rattle.map_meaning.specs.Spans.{first_operation, span_operations}
use Rattle.plain_eval.specs.inside.Held.{done_of}
use Rattle.plain_eval.specs.inside.Sections.{scene_in}
use Rattle.plain_eval.proofs.HeldLemmas.{all_read_below, few_operations, operation_is, reads_below, step_count}
use Rattle.plain_eval.proofs.Stages.{told_from, told_whole}
use Rattle.plain_eval.proofs.Steps.{all_told, next_held, next_only, next_over, next_told, stepped}
use Rattle.plain_eval.proofs.stage.stage.Goals as goal

pub last_readers-requires-clause-few : goal.last_readers-requires-clause-few
last_readers-requires-clause-few g c = rw c.span_operations-operations.ensures (let few = few_operations c.args.program.now c.args.span c.requires.program c.requires.span in omega arith)

pub last_readers-requires-clause-below : goal.last_readers-requires-clause-below
last_readers-requires-clause-below g c = rw c.span_operations-operations.ensures (all_read_below c.args.program.now c.args.span c.requires.program c.requires.span)

pub loop-n-init : goal.loop-n-init
loop-n-init g c =
    let program = c.args.program.now in
    let known = c.args.known.now in
    let s = c.args.span in
    let scene = scene_in program s known in
    let operations = span_operations program s in
    let begin : first_operation s + 0 ≡ first_operation s = omega arith in
    record {
      told = ap (λ (kept : List StepMap). told_from program scene s kept (first_operation s + 0) (done_of program s known c.new-held.result) operations) c.new-kept.ensures
          ∙ (ap (λ (held : List (Option WholeMap)). told_from program scene s [] (first_operation s + 0) (done_of program s known held) operations) c.new-held.ensures
          ∙ ap (λ (n : ℕ). told_from program scene s [] n (done_of program s known []) operations) begin);
      count = ap length c.new-held.ensures;
      held = λ k o stands below. absurd (omega arith);
      only = λ k below. absurd (omega arith);
    }

pub value-requires-clause-operation : goal.value-requires-clause-operation
value-requires-clause-operation g c =
    let program = c.args.program.now in
    let within : c.loop-n.n < length (span_operations program c.args.span) = rw c.span_operations-operations.ensures at c.loop-n-test.true in
    let are = rw c.span_operations-operations.ensures at c.in_ok-last.ensures in
    rw c.span_operations-operations.ensures
    (operation_is program c.args.span c.args.known.now c.loop-n.n c.loop-n.held c.in_ok-last.last.items _ c.requires.program c.requires.span c.requires.known within c.loop-n.invariant.count are c.loop-n.invariant.held).one

pub value-requires-clause-operands : goal.value-requires-clause-operands
value-requires-clause-operands g c =
    let program = c.args.program.now in
    let within : c.loop-n.n < length (span_operations program c.args.span) = rw c.span_operations-operations.ensures at c.loop-n-test.true in
    let are = rw c.span_operations-operations.ensures at c.in_ok-last.ensures in
    rw (c.span_operations-operations.ensures, c.as_slice.ensures)
    (operation_is program c.args.span c.args.known.now c.loop-n.n c.loop-n.held c.in_ok-last.last.items _ c.requires.program c.requires.span c.requires.known within c.loop-n.invariant.count are c.loop-n.invariant.held).there

pub value-requires-clause-sound : goal.value-requires-clause-sound
value-requires-clause-sound g c =
    let program = c.args.program.now in
    let within : c.loop-n.n < length (span_operations program c.args.span) = rw c.span_operations-operations.ensures at c.loop-n-test.true in
    let are = rw c.span_operations-operations.ensures at c.in_ok-last.ensures in
    rw (c.span_operations-operations.ensures, c.as_slice.ensures)
    (operation_is program c.args.span c.args.known.now c.loop-n.n c.loop-n.held c.in_ok-last.last.items _ c.requires.program c.requires.span c.requires.known within c.loop-n.invariant.count are c.loop-n.invariant.held).sound

pub returns-in-Err : goal.returns-in-Err
returns-in-Err g c =
    let program = c.args.program.now in
    let known = c.args.known.now in
    ap (λ (maps : List StepMap). let told : StageEnd = record { maps = maps; over = Some c.in-Err.at } in told) c.new.ensures
    ∙ (sym (next_over program c.args.span known c.span_operations-operations.result.now _ c.loop-n.n c.span_operations-operations.ensures c.loop-n-test.true c.loop-n.held c.as_slice.result.now c.in_ok-map.field-0 c.as_slice.ensures c.in_ok-map.ensures c.loop-n.kept c.in-Err.at _ c.in-Err.is c.loop-n.invariant.told)
    ∙ told_whole program c.args.span known c.requires.span)

pub let_go_of_operands-requires-clause-below : goal.let_go_of_operands-requires-clause-below
let_go_of_operands-requires-clause-below g c =
    let program = c.args.program.now in
    let within : c.loop-n.n < length (span_operations program c.args.span) = rw c.span_operations-operations.ensures at c.loop-n-test.true in
    rw (c.span_operations-operations.ensures, c.loop-n.invariant.count)
    (reads_below program c.args.span c.loop-n.n c.loop-n.n _ c.requires.program c.requires.span within (omega arith))

pub loop-n-preserved : goal.loop-n-preserved
loop-n-preserved g c =
    let program = c.args.program.now in
    let known = c.args.known.now in
    let s = c.args.span in
    let operations = c.span_operations-operations.result.now in
    let last = c.in_ok-last.last.items in
    let within : c.loop-n.n < length (span_operations program s) = rw c.span_operations-operations.ensures at c.loop-n-test.true in
    let are = rw c.span_operations-operations.ensures at c.in_ok-last.ensures in
    let sound = (operation_is program s known c.loop-n.n c.loop-n.held last _ c.requires.program c.requires.span c.requires.known within c.loop-n.invariant.count are c.loop-n.invariant.held).sound in
    let step = stepped s _ last c.deref.result.now c.deref-in-loop-n.result.now c.loop-n.n c.in-Ok.map c.loop-n.held c.let_go_of_operands.new.held c.hold.new.held c.deref.ensures.value c.deref-in-loop-n.ensures.value c.loop-n.invariant.count c.let_go_of_operands.ensures c.in_ok-hold.ensures in
    record {
      told = next_told program s known operations _ c.loop-n.n c.span_operations-operations.ensures c.loop-n-test.true c.loop-n.held c.as_slice.result.now c.in_ok-map.field-0 c.as_slice.ensures c.in_ok-map.ensures c.loop-n.kept c.keep.new.kept c.in-Ok.map last c.let_go_of_operands.new.held c.hold.new.held _ c.span_start-step.result (c.first_operation-first.result + c.loop-n.n) c.span_start-step.ensures (ap (λ (k : ℕ). k + c.loop-n.n) c.first_operation-first.ensures) c.in-Ok.is c.in_ok-last.ensures step c.in_ok-keep.ensures c.loop-n.invariant.told;
      count = step_count s last c.loop-n.n _ c.in-Ok.map c.loop-n.held c.let_go_of_operands.new.held c.hold.new.held step;
      held = next_held program s known operations _ c.loop-n.n c.span_operations-operations.ensures c.loop-n-test.true c.loop-n.held c.as_slice.result.now c.in_ok-map.field-0 c.as_slice.ensures c.in_ok-map.ensures c.in-Ok.map last c.let_go_of_operands.new.held c.hold.new.held c.requires.known c.in-Ok.is step sound c.loop-n.invariant.held;
      only = next_only s operations _ last c.loop-n.n c.in-Ok.map c.loop-n.held c.let_go_of_operands.new.held c.hold.new.held c.loop-n-test.true c.in_ok-last.ensures step c.loop-n.invariant.only;
    }

pub returns : goal.returns
returns g c =
    let program = c.args.program.now in
    let known = c.args.known.now in
    all_told program (scene_in program c.args.span known) c.args.span c.span_operations-operations.result.now c.loop-n.kept (first_operation c.args.span + c.loop-n.n) c.loop-n.n (done_of program c.args.span known c.loop-n.held) _ c.span_operations-operations.ensures c.loop-n-test.false c.loop-n.invariant.told
    ∙ told_whole program c.args.span known c.requires.span
