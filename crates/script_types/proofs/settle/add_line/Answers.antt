use Rattle.std.proofs.Common.{◌≡◌, ◌+◌, [], ◌∷◌, ◌++◌, false, length, refl, sym, ◌∙◌, ap, Some, Ok, Err, subst, if◌then◌else◌, arith}
use Rattle.std.specs.Str.{bytes_eq}
use Rattle.std.proofs.lemmas.List.{length-append}
use Rattle.std.proofs.lemmas.List.Sums.{sum_by_push}
use Rattle.script_types.specs.Names.{role_of, uses_down_to}
use Rattle.script_types.specs.Statements.{counts, kind_above, operations_of, stacks_written, writes_stack}
use Rattle.script_types.specs.inside.Answers.{Adds, IsFew, told_end}
use Rattle.script_types.specs.inside.Look.{look}
use Rattle.script_types.specs.inside.Stacks.{with_uses}
use Rattle.script_types.proofs.Steps.{above-push, counts-push, few-push, next-fails, next-is, read-next, seen-next}
use Rattle.script_types.proofs.settle.add_line.Goals as goal

pub returns-in_ok-push-in-Ok : goal.returns-in_ok-push-in-Ok
returns-in_ok-push-in-Ok c =
    let script = c.args.script.now in
    let scope = c.args.scope.now in
    let section = scope.section in
    let lines = c.args.lines.now in
    let b = c.requires.below in
    let n = c.requires.count in
    let next = c.requires.next in
    let s = c.args.statement.now in
    let found = c.in-Ok.found in
    let l = found.line in
    let seen = c.note_uses.new.roles in
    let k = c.in_ok-scope.field-0 in
    let known = look scope.above.values in
    let more = read-next script scope lines s k b next c.in_ok-scope.ensures.counted in
    let pushed = c.in_ok-push-in-Ok.ensures.ok in
    let long : length c.push.new.self ≡ length lines + 1 = ap length pushed ∙ length-append lines (l ∷ []) in
    let count : found.count ≡ counts section (lines ++ l ∷ []) = c.in-Ok.ensures.count ∙ ap (λ m. m + operations_of l.statement.value) n.counted ∙ sym (counts-push section lines l c.in-Ok.ensures.section) in
    let few = few-push section lines l c.in-Ok.ensures.section n.few (let w = c.in-Ok.ensures.few in omega (arith, count, w)) in (
      l,
      next-is script section scope seen k lines c.args.above s (Ok l) b refl n more c.in-Ok.ensures.line,
      pushed,
      c.in-Ok.ensures.section,
      refl,
      record {
        steps = b.steps;
        mean = b.mean;
        bindings = b.bindings;
        places = b.places;
        targets = b.targets;
        samples = b.samples;
        roles = b.roles;
        inputs = b.inputs;
        above = λ name. c.in_ok-set-in-Ok.ensures name ∙ ap (λ n. if bytes_eq name n then Some l.kind else known name) c.bytes.ensures ∙ ap (λ r. if bytes_eq name l.statement.target then Some l.kind else r) (b.above name) ∙ sym (above-push lines l name) ∙ ap (λ xs. kind_above xs name) (sym pushed);
        seen = λ name. seen-next script scope lines s seen name b next (c.in_ok-scope.ensures.noted name) ∙ ap (λ m. role_of (uses_down_to script m) name) (sym long);
        stacks_read = more ∙ ap (λ m. with_uses (λ name. false) (uses_down_to script m) 0) (sym long);
        few_read = c.in_ok-scope.ensures.few;
        stacks_written = c.in-Ok.ensures.stacks ∙ ap (λ m. m + (if writes_stack l then 1 else 0)) b.stacks_written ∙ sym (sum_by_push (λ m. if writes_stack m then 1 else 0) lines l) ∙ ap stacks_written (sym pushed);
        few_written = c.in-Ok.ensures.few_stacks;
      },
      record {
        counted = count ∙ ap (counts section) (sym pushed);
        few = subst IsFew (sym pushed) few;
      },
    )

pub returns-in-Err : goal.returns-in-Err
returns-in-Err c =
    let script = c.args.script.now in
    let scope = c.args.scope.now in
    let lines = c.args.lines.now in
    let s = c.args.statement.now in
    let seen = c.note_uses.new.roles in
    let k = c.in_ok-scope.field-0 in
    let told = c.told_end.ensures ∙ ap (λ n. told_end n c.in-Err.end) c.len-number.ensures in
    let more = read-next script scope lines s k c.requires.below c.requires.next c.in_ok-scope.ensures.counted in
    let after = record scope { seen = seen; stacks_read = k } in
    subst (λ e. Adds (Err e) script scope.section lines s after lines) (sym told) (next-fails script scope.section scope after seen k lines lines c.args.above s c.in-Err.end c.requires.below refl c.requires.count more c.in-Err.ensures)
